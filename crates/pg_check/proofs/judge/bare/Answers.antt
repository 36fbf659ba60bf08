use Rattle.std.proofs.Common.{◌≡◌, ◌∙◌, ap, subst, ℕ, Option, IfOk, false}
use Rattle.std.specs.List.{flat_map}
use Rattle.pg_rules.specs.Places.{least}
use Rattle.pg_rules.specs.Queries.Collections.{outer}
use Rattle.pg_check.specs.Gathered.{seen_in}
use Rattle.pg_check.specs.UsePlaces.{bare}
use Rattle.pg_check.proofs.Judging.{over}
use Rattle.pg_check.proofs.UseLaws.{bare_same}
use Rattle.pg_check.proofs.judge.bare.Goals as goal

pub returns : goal.returns
returns c = λ q h known. subst (λ (o : Option ℕ). IfOk c.bare_among.result (λ r. r ≡ o)) (ap least (over (λ x. flat_map (bare c.args.variables.now) (seen_in false x)) c.args.outer.now (outer q) h)
    ∙ ap (λ k. least (flat_map (λ x. flat_map (bare k) (seen_in false x)) (outer q))) known
    ∙ ap least (bare_same q)) c.bare_among.ensures
