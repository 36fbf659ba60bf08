use Rattle.std.proofs.Common.{◌∙◌, ap}
use Rattle.std.specs.List.{flat_map}
use Rattle.pg_catalog.specs.PropertyNames.{of_edge, under_label}
use Rattle.pg_catalog.specs.NameSets.{add_all}
use Rattle.pg_catalog.proofs.GraphNames.{next_added}
use Rattle.pg_catalog.proofs.name_set.NameSet.add_edges.Goals as goal

pub loop-edge-preserved : goal.loop-edge-preserved
loop-edge-preserved c =
    next_added of_edge c.loop-edge.self c.add_labels.new.self (add_all c.args.self.now (flat_map of_edge c.args.edges.now)) c.args.edges.now c.loop-edge.edge-index c.edge-item.result c.loop-edge-test.true c.edge-item.is (c.in_ok-add_labels.ensures ∙ ap (λ ls. add_all c.loop-edge.self (flat_map under_label ls)) c.as_slice.ensures) c.loop-edge.invariant
