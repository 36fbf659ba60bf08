use Rattle.std.proofs.Common.{◌∙◌, List, ap}
use Rattle.std.specs.List.{flat_map}
use Rattle.pg_rules.specs.declared.entry.PropertyEntry.{PropertyEntry}
use Rattle.pg_catalog.specs.PropertyKinds.{kinds_after, under_label}
use Rattle.pg_catalog.proofs.KindNames.{next_kinds}
use Rattle.pg_catalog.proofs.graph.kinds_by_name.PropertyKinds.add_labels.Goals as goal

pub loop-label-preserved : goal.loop-label-preserved
loop-label-preserved c =
    next_kinds under_label c.loop-label.self c.add_properties.new.self (kinds_after c.args.self.now (flat_map under_label c.args.labels.now)) c.args.labels.now c.loop-label.label-index c.label-item.result c.loop-label-test.true c.label-item.is (c.in_ok-add_properties.ensures ∙ ap (λ (ls : List PropertyEntry). kinds_after c.loop-label.self (ls)) c.as_slice.ensures) c.loop-label.invariant
