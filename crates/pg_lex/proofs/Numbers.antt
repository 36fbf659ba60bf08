-- A number that is kept small digit by digit is the whole number kept small.
use Rattle.std.proofs.Common.{◌≡◌, ℕ, ◌+◌, ◌-◌, ◌*◌, ◌≤◌, List, [], ◌∷◌, ap, sym, ◌∙◌, arith, inl, inr}
use Rattle.std.proofs.Math.Nat.{min-eq_left, min-eq_right, le_of_lt}
use Rattle.std.proofs.lemmas.Bool.{cases_lt}
use Rattle.std.specs.Prelude.{min}
use Rattle.pg_lex.specs.Texts.{number_after}

grows : (n : ℕ) (ds : List ℕ) → n ≤ number_after n ds
grows n [] = omega arith
grows n (d ∷ ds) = let h = grows (10 * n + (d - 48)) ds in omega arith

pub kept-after : (most n : ℕ) (ds : List ℕ) → min (number_after (min n most) ds) most ≡ min (number_after n ds) most
kept-after most n ds = elim (cases_lt most n) [
  | inr below ↦ ap (λ (k : ℕ). min (number_after k ds) most) (min-eq_left below)
  | inl over ↦
      ap (λ (k : ℕ). min (number_after k ds) most) (min-eq_right (le_of_lt over))
      ∙ min-eq_right (grows most ds)
      ∙ sym (min-eq_right (let h = grows n ds in omega arith))
]
