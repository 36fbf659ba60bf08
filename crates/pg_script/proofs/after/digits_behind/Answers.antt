use Rattle.std.proofs.Common.{◌≡◌, List, [], ℕ, length, sym, subst, ◌∙◌}
use Rattle.std.specs.Prelude.{MatchOption, true, false}
use Rattle.std.proofs.lemmas.List.{nil_from_length}
use Rattle.std.proofs.lemmas.Bool.{eqb-true}
use Rattle.pg_script.specs.Passes.Awaited.{HasNumber}
use Rattle.pg_script.proofs.Passes.After.{no_digits, no_tail}
use Rattle.pg_script.proofs.after.digits_behind.Goals as goal
use Rattle.pg_script.proofs.after.digits_behind.Goals.{then-is_empty-via-then-is_empty, then-is_empty-via-else-is_empty+then-not-ends}

pub returns-in_err-rest : goal.returns-in_err-rest
returns-in_err-rest c =
    subst (λ r. MatchOption r ((digits : List ℕ) → HasNumber c.args.bytes.now digits → ⊥) (λ digits. HasNumber c.args.bytes.now digits.now)) (sym c.from_residual.ensures) (λ d h. c.in_err-rest.ensures _ h.behind)

pub returns-then-is_empty : goal.returns-then-is_empty
returns-then-is_empty c =
    let r = c.in_ok-rest.rest.now in
    let digits = c.digits_front.result.0.now in
    let tail = c.digits_front.result.1.now in
    let g = c.in_ok-rest.ensures in
    elim c.then-is_empty.branch [
      | then-is_empty-via-then-is_empty w ↦ (
          let none : digits ≡ [] = nil_from_length digits (eqb-true (length digits) 0 (sym c.is_empty.ensures ∙ w.if-is_empty.true)) in
          no_digits c.args.bytes.now r digits tail g c.digits_front.ensures none)
      | then-is_empty-via-else-is_empty+then-not-ends w ↦ no_tail c.args.bytes.now r digits tail g c.digits_front.ensures (λ e. let k : false ≡ true = sym w.if-not-ends.true ∙ w.ends.ensures.1 e in cc)
    ]
