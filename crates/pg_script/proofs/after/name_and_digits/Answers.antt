use Rattle.std.proofs.Common.{List, ℕ, sym, subst, ◌∙◌}
use Rattle.std.specs.Prelude.{MatchOption}
use Rattle.pg_script.specs.Passes.Awaited.{HasName}
use Rattle.pg_script.proofs.Passes.After.{no_name, no_number}
use Rattle.pg_script.proofs.after.name_and_digits.Goals as goal

pub returns-in_err-rest : goal.returns-in_err-rest
returns-in_err-rest c =
    subst (λ r. MatchOption r ((name digits : List ℕ) → HasName c.args.bytes.now name digits → ⊥) (λ found. HasName c.args.bytes.now found.0.now found.1.now)) (sym c.from_residual.ensures)
    (λ m d h. c.in_err-rest.ensures _ h.behind)

pub returns-then-not-begins_name : goal.returns-then-not-begins_name
returns-then-not-begins_name c =
    no_name c.args.bytes.now c.in_ok-rest.rest.now c.word_front.result.0.now c.word_front.result.1.now c.in_ok-rest.ensures c.word_front.ensures (sym c.begins_name.ensures ∙ c.if-not-begins_name.true)

pub returns-in_err-digits : goal.returns-in_err-digits
returns-in_err-digits c =
    subst (λ r. MatchOption r ((name digits : List ℕ) → HasName c.args.bytes.now name digits → ⊥) (λ found. HasName c.args.bytes.now found.0.now found.1.now)) (sym (c.from_residual-in_err-digits).ensures)
    (no_number c.args.bytes.now c.in_ok-rest.rest.now c.word_front.result.0.now c.word_front.result.1.now c.in_ok-rest.ensures c.word_front.ensures c.in_err-digits.ensures)
