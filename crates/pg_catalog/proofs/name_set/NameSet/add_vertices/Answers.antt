use Rattle.std.proofs.Common.{◌∙◌, ap}
use Rattle.std.specs.List.{flat_map}
use Rattle.pg_catalog.specs.PropertyNames.{of_element, under_label}
use Rattle.pg_catalog.specs.NameSets.{add_all}
use Rattle.pg_catalog.proofs.GraphNames.{next_added}
use Rattle.pg_catalog.proofs.name_set.NameSet.add_vertices.Goals as goal

pub loop-vertex-preserved : goal.loop-vertex-preserved
loop-vertex-preserved c =
    next_added of_element c.loop-vertex.self c.add_labels.new.self (add_all c.args.self.now (flat_map of_element c.args.vertices.now)) c.args.vertices.now c.loop-vertex.vertex-index c.vertex-item.result c.loop-vertex-test.true c.vertex-item.is (c.in_ok-add_labels.ensures ∙ ap (λ ls. add_all c.loop-vertex.self (flat_map under_label ls)) c.as_slice.ensures) c.loop-vertex.invariant
