use Rattle.std.proofs.Common.{◌≡◌, ◌∙◌, ap, subst, ℕ, Option, IfOk, false}
use Rattle.std.specs.List.{flat_map}
use Rattle.pg_rules.specs.Places.{least}
use Rattle.pg_rules.specs.Queries.Collections.{outer}
use Rattle.pg_check.specs.UsePlaces.{misused_from}
use Rattle.pg_check.proofs.Judging.{over}
use Rattle.pg_check.proofs.UseLaws.{misused_same}
use Rattle.pg_check.proofs.judge.misused.Goals as goal

pub returns : goal.returns
returns c = λ q h known. subst (λ (o : Option ℕ). IfOk c.misused_among.result (λ r. r ≡ o)) (ap least (over (misused_from c.args.variables.now false) c.args.outer.now (outer q) h)
    ∙ ap (λ k. least (flat_map (misused_from k false) (outer q))) known
    ∙ ap least (misused_same q)) c.misused_among.ensures
