use Rattle.std.proofs.Common.{◌≡◌, map, subst, ℕ, Option, IfOk}
use Rattle.pg_check.specs.Gathered.{mention_view}
use Rattle.pg_check.proofs.Judging.{clash_same}
use Rattle.pg_check.proofs.judge.clash.Goals as goal

pub returns : goal.returns
returns c = λ q h g. subst (λ (o : Option ℕ). IfOk c.late.result (λ r. r ≡ o)) (clash_same q c.args.walks.now (map mention_view c.args.mentions.now) h g) c.late.ensures
