use Rattle.std.proofs.Common.{◌∙◌, refl, [], ap}
use Rattle.std.specs.List.{flat_map}
use Rattle.pg_catalog.specs.PropertyKinds.{kinds_after, of_element, of_edge}
use Rattle.pg_catalog.proofs.KindNames.{kinds_collected}
use Rattle.pg_catalog.proofs.graph.kinds_by_name.property_kinds.Goals as goal

pub returns-in-Ok : goal.returns-in-Ok
returns-in-Ok c =
    let g = c.args.graph.now in
    kinds_collected g (kinds_after [] (flat_map of_element g.vertices)) c.add_graph.new.self refl
    (c.in-Ok.ensures ∙ ap (λ ns. kinds_after (kinds_after ns (flat_map of_element g.vertices)) (flat_map of_edge g.edges)) c.new-kinds.ensures)
