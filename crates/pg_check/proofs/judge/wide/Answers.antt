use Rattle.std.proofs.Common.{◌∙◌, ap}
use Rattle.pg_rules.specs.ExprFaults.{wide_at}
use Rattle.pg_rules.specs.Places.{least}
use Rattle.pg_check.specs.Scopes.{scope}
use Rattle.pg_check.proofs.Judging.{over_both}
use Rattle.pg_check.proofs.JudgeLaws.{wide_same}
use Rattle.pg_check.proofs.judge.wide.Goals as goal

pub returns : goal.returns
returns c = λ g q h are.
    let ks = c.args.kinds.now in
    over_both (wide_at (scope ks)) q c.args.inner.now c.args.outer.now c.wide_in-first.result c.wide_in-second.result c.sooner.result are c.wide_in-first.ensures c.wide_in-second.ensures c.sooner.ensures ∙ ap least (wide_same g ks q h)
