use Rattle.std.proofs.Common.{◌∙◌, List, ap, map}
use Rattle.std.specs.List.{flat_map}
use Rattle.pg_rules.specs.declared.entry.LabelEntry.{LabelEntry}
use Rattle.pg_catalog.specs.PropertyKinds.{edge_labels}
use Rattle.pg_catalog.specs.NameSets.{add_all}
use Rattle.pg_catalog.proofs.GraphNames.{next_added}
use Rattle.pg_catalog.proofs.name_set.NameSet.add_edge_labels.Goals as goal

pub loop-edge-preserved : goal.loop-edge-preserved
loop-edge-preserved c =
    next_added edge_labels c.loop-edge.self c.add_label_names.new.self (add_all c.args.self.now (flat_map edge_labels c.args.edges.now)) c.args.edges.now c.loop-edge.edge-index c.edge-item.result c.loop-edge-test.true c.edge-item.is (c.in_ok-add_label_names.ensures ∙ ap (λ (ls : List LabelEntry). add_all c.loop-edge.self (map (λ l. l.name) ls)) c.as_slice.ensures) c.loop-edge.invariant
