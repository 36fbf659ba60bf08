use Rattle.std.proofs.Common.{◌∙◌, ap}
use Rattle.std.specs.List.{flat_map}
use Rattle.pg_catalog.specs.PropertyNames.{listed, under_label}
use Rattle.pg_catalog.specs.NameSets.{add_all}
use Rattle.pg_catalog.proofs.GraphNames.{next_added}
use Rattle.pg_catalog.proofs.name_set.NameSet.add_labels.Goals as goal

pub loop-label-preserved : goal.loop-label-preserved
loop-label-preserved c =
    next_added under_label c.loop-label.self c.add_properties.new.self (add_all c.args.self.now (flat_map under_label c.args.labels.now)) c.args.labels.now c.loop-label.label-index c.label-item.result c.loop-label-test.true c.label-item.is (c.in_ok-add_properties.ensures ∙ ap (λ ls. add_all c.loop-label.self (listed ls)) c.as_slice.ensures) c.loop-label.invariant
