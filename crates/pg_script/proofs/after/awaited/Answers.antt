use Rattle.std.proofs.Common.{List, ℕ, sym, subst, ◌∙◌}
use Rattle.std.specs.Prelude.{MatchOption}
use Rattle.pg_script.specs.After.{IsAfter}
use Rattle.pg_script.specs.Passes.Awaited.{HasAwaited}
use Rattle.pg_script.proofs.Passes.After.{begins_long, no_after, no_behind, awaits}
use Rattle.pg_script.proofs.after.awaited.Goals as goal

pub returns-then-not-begins_after : goal.returns-then-not-begins_after
returns-then-not-begins_after c = no_after c.args.bytes.now (sym c.begins_after.ensures ∙ c.if-not-begins_after.true)

pub split_at-requires : goal.split_at-requires
split_at-requires c = begins_long c.args.bytes.now (sym c.begins_after.ensures ∙ c.if-not-begins_after.false)

pub returns-in_err-name : goal.returns-in_err-name
returns-in_err-name c =
    subst (λ r. MatchOption r ((name digits : List ℕ) → IsAfter c.args.bytes.now name digits → ⊥) (λ a. HasAwaited c.args.bytes.now a.name.now a.number)) (sym c.from_residual.ensures)
    (no_behind c.args.bytes.now c.split_at.result.1.now c.split_at.ensures.back c.in_err-name.ensures)

pub returns : goal.returns
returns c =
    awaits c.args.bytes.now c.split_at.result.1.now c.in_ok-name.name.now c.in_ok-name.digits.now c.number_of.result (sym c.begins_after.ensures ∙ c.if-not-begins_after.false) c.split_at.ensures.back
    c.in_ok-name.ensures c.number_of.ensures
