use Rattle.std.proofs.Common.{◌∙◌, List, ap}
use Rattle.std.specs.List.{flat_map}
use Rattle.pg_rules.specs.declared.entry.LabelEntry.{LabelEntry}
use Rattle.pg_catalog.specs.PropertyKinds.{kinds_after, of_element, under_label}
use Rattle.pg_catalog.proofs.KindNames.{next_kinds}
use Rattle.pg_catalog.proofs.graph.kinds_by_name.PropertyKinds.add_vertices.Goals as goal

pub loop-vertex-preserved : goal.loop-vertex-preserved
loop-vertex-preserved c =
    next_kinds of_element c.loop-vertex.self c.add_labels.new.self (kinds_after c.args.self.now (flat_map of_element c.args.vertices.now)) c.args.vertices.now c.loop-vertex.vertex-index c.vertex-item.result c.loop-vertex-test.true c.vertex-item.is (c.in_ok-add_labels.ensures ∙ ap (λ (ls : List LabelEntry). kinds_after c.loop-vertex.self (flat_map under_label ls)) c.as_slice.ensures) c.loop-vertex.invariant
