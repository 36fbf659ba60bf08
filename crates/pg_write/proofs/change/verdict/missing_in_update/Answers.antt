use Rattle.std.proofs.Common.{ap, ◌∙◌}
use Rattle.std.specs.List.{flat_map}
use Rattle.pg_rules.specs.Places.{least}
use Rattle.pg_rules.specs.Definitions.Graphs.{missing}
use Rattle.pg_rules.specs.Changes.{named_in_condition}
use Rattle.pg_write.specs.ChangePasses.{missing_in_set}
use Rattle.pg_write.proofs.Missing.{joined}
use Rattle.pg_write.proofs.change.verdict.missing_in_update.Goals as goal

pub returns : goal.returns
returns c = let u = c.args.update.now in
    joined (flat_map (missing_in_set c.args.columns.now) u.sets) (missing c.args.columns.now (named_in_condition u.cond)) c.missing_in_sets-in_sets.result c.missing_in_condition.result c.sooner.result
    (c.missing_in_sets-in_sets.ensures ∙ ap (λ ss. least (flat_map (missing_in_set c.args.columns.now) ss)) c.as_slice.ensures) c.missing_in_condition.ensures c.sooner.ensures
