use Rattle.std.proofs.Common.{◌≡◌, ap, subst, ℕ, Option, IfOk}
use Rattle.pg_rules.specs.Places.{least}
use Rattle.pg_check.proofs.Judging.{foreign_same}
use Rattle.pg_check.proofs.judge.foreign.Goals as goal

pub returns : goal.returns
returns c = λ q h. subst (λ (o : Option ℕ). IfOk c.foreign_among.result (λ r. r ≡ o)) (ap least (foreign_same q c.args.conditions.now h)) c.foreign_among.ensures
