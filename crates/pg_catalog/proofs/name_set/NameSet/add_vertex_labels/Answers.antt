use Rattle.std.proofs.Common.{◌∙◌, List, ap, map}
use Rattle.std.specs.List.{flat_map}
use Rattle.pg_rules.specs.declared.entry.LabelEntry.{LabelEntry}
use Rattle.pg_rules.specs.Definitions.Graphs.{labels_in}
use Rattle.pg_catalog.specs.NameSets.{add_all}
use Rattle.pg_catalog.proofs.GraphNames.{next_added}
use Rattle.pg_catalog.proofs.name_set.NameSet.add_vertex_labels.Goals as goal

pub loop-vertex-preserved : goal.loop-vertex-preserved
loop-vertex-preserved c =
    next_added labels_in c.loop-vertex.self c.add_label_names.new.self (add_all c.args.self.now (flat_map labels_in c.args.vertices.now)) c.args.vertices.now c.loop-vertex.vertex-index c.vertex-item.result c.loop-vertex-test.true c.vertex-item.is (c.in_ok-add_label_names.ensures ∙ ap (λ (ls : List LabelEntry). add_all c.loop-vertex.self (map (λ l. l.name) ls)) c.as_slice.ensures) c.loop-vertex.invariant
