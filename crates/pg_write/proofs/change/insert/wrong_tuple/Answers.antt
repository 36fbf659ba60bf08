use Rattle.std.proofs.Common.{ap, ◌∙◌}
use Rattle.pg_rules.specs.Places.{least}
use Rattle.pg_write.specs.ChangePasses.{wrong_from}
use Rattle.pg_write.proofs.TargetLaws.{paired}
use Rattle.pg_write.proofs.change.insert.wrong_tuple.Goals as goal

pub returns : goal.returns
returns c =
    c.wrong_values.ensures
    ∙ ap (λ ws. least (wrong_from c.args.columns.now c.args.targets.now 0 ws)) c.as_slice.ensures
    ∙ ap least (paired c.args.columns.now c.args.targets.now c.args.tuple.now.values)
