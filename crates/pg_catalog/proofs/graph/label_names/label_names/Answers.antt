use Rattle.std.proofs.Common.{◌∙◌, refl, [], ap}
use Rattle.std.specs.List.{flat_map}
use Rattle.pg_rules.specs.Definitions.Graphs.{labels_in}
use Rattle.pg_catalog.specs.PropertyKinds.{edge_labels}
use Rattle.pg_catalog.specs.NameSets.{add_all}
use Rattle.pg_catalog.proofs.KindNames.{labels_collected}
use Rattle.pg_catalog.proofs.graph.label_names.label_names.Goals as goal

pub returns-in-Ok : goal.returns-in-Ok
returns-in-Ok c =
    let g = c.args.graph.now in
    labels_collected g (add_all [] (flat_map labels_in g.vertices)) c.add_labels_of.new.self refl
    (c.in-Ok.ensures ∙ ap (λ ns. add_all (add_all ns (flat_map labels_in g.vertices)) (flat_map edge_labels g.edges)) c.new-names.ensures)
