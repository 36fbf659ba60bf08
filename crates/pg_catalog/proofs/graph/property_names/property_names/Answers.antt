use Rattle.std.proofs.Common.{◌∙◌, refl, [], ap}
use Rattle.std.specs.List.{flat_map}
use Rattle.pg_catalog.specs.PropertyNames.{of_element, of_edge}
use Rattle.pg_catalog.specs.NameSets.{add_all}
use Rattle.pg_catalog.proofs.GraphNames.{collected}
use Rattle.pg_catalog.proofs.graph.property_names.property_names.Goals as goal

pub returns-in-Ok : goal.returns-in-Ok
returns-in-Ok c =
    let g = c.args.graph.now in
    collected g (add_all [] (flat_map of_element g.vertices)) c.add_graph.new.self refl
    (c.in-Ok.ensures ∙ ap (λ ns. add_all (add_all ns (flat_map of_element g.vertices)) (flat_map of_edge g.edges)) c.new-names.ensures)
