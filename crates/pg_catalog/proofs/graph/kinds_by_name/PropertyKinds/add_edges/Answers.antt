use Rattle.std.proofs.Common.{◌∙◌, List, ap}
use Rattle.std.specs.List.{flat_map}
use Rattle.pg_rules.specs.declared.entry.LabelEntry.{LabelEntry}
use Rattle.pg_catalog.specs.PropertyKinds.{kinds_after, of_edge, under_label}
use Rattle.pg_catalog.proofs.KindNames.{next_kinds}
use Rattle.pg_catalog.proofs.graph.kinds_by_name.PropertyKinds.add_edges.Goals as goal

pub loop-edge-preserved : goal.loop-edge-preserved
loop-edge-preserved c =
    next_kinds of_edge c.loop-edge.self c.add_labels.new.self (kinds_after c.args.self.now (flat_map of_edge c.args.edges.now)) c.args.edges.now c.loop-edge.edge-index c.edge-item.result c.loop-edge-test.true c.edge-item.is (c.in_ok-add_labels.ensures ∙ ap (λ (ls : List LabelEntry). kinds_after c.loop-edge.self (flat_map under_label ls)) c.as_slice.ensures) c.loop-edge.invariant
