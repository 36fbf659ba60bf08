-- Numbers that are read digit by digit, how they are kept small, and their binary digits.
use Rattle.std.proofs.Common.{◌≡◌, ℕ, zero, suc, ◌+◌, ◌*◌, ◌-◌, ◌/◌, ◌%◌, ◌^◌, ◌<◌, ◌≤◌, Bool, true, false, List, [], ◌∷◌, refl, sym, ap, ◌∙◌, arith}
use Rattle.std.specs.Prelude.{Some, None, min, nat_lt}
use Rattle.std.proofs.Math.Nat.{two-pow-succ, div-add-mod, mod-lt, min-eq_left, min-eq_right}
use Rattle.std.proofs.lemmas.Bool.{ltb-true, ltb-false}
use Rattle.std.proofs.lemmas.Int.Digits.{length-digits_of-le, length-digits_of_step}
use Rattle.std.specs.Int.Count.{count_leading_zeros, leading_unique}
use Rattle.pg_ast.specs.Grammar.Exprs.{number_after, binary_digits}
use Rattle.pg_grammar.specs.Numbers.{fitting}

grows : (n : ℕ) (ds : List ℕ) → n ≤ number_after n ds
grows n [] = omega arith
grows n (d ∷ ds) = let g = grows (10 * n + (d - 48)) ds in omega (arith, g)

pub small : (n m : ℕ) → fitting n ≡ Some m → (n ≡ m) × (m < 2 ^ 127)
small n m e = by (nat_lt n (2 ^ 127)) refl where
  by : (b : Bool) → nat_lt n (2 ^ 127) ≡ b → (n ≡ m) × (m < 2 ^ 127)
  by true s =
      let same : n ≡ m = (let r : fitting n ≡ Some n = rw s refl in cc) in
      (same, (let l : n < 2 ^ 127 = ltb-true n (2 ^ 127) s in omega (arith, l, same)))
  by false s = absurd (let r : fitting n ≡ None = rw s refl in cc)

great : (n : ℕ) → fitting n ≡ None → 2 ^ 127 ≤ n
great n e = by (nat_lt n (2 ^ 127)) refl where
  by : (b : Bool) → nat_lt n (2 ^ 127) ≡ b → 2 ^ 127 ≤ n
  by true s = absurd (let r : fitting n ≡ Some n = rw s refl in cc)
  by false s = ltb-false n (2 ^ 127) s

-- what is too great stays so
pub stays_great : (n : ℕ) (ds : List ℕ) → fitting n ≡ None → fitting (number_after n ds) ≡ None
stays_great n ds e = by (nat_lt (number_after n ds) (2 ^ 127)) refl where
  by : (b : Bool) → nat_lt (number_after n ds) (2 ^ 127) ≡ b → fitting (number_after n ds) ≡ None
  by true s = absurd (let l = ltb-true (number_after n ds) (2 ^ 127) s in let g = grows n ds in let h = great n e in omega (arith, l, g, h))
  by false s = rw s refl

-- a number that is kept no greater digit by digit
pub keeps : (n : ℕ) (ds : List ℕ) → min (number_after (min n 4294967295) ds) 4294967295 ≡ min (number_after n ds) 4294967295
keeps n ds = by (nat_lt n 4294967295) refl where
  by : (b : Bool) → nat_lt n 4294967295 ≡ b → min (number_after (min n 4294967295) ds) 4294967295 ≡ min (number_after n ds) 4294967295
  by true s =
      let small = ltb-true n 4294967295 s in
      ap (λ (m : ℕ). min (number_after m ds) 4294967295) (min-eq_left (omega (arith, small)))
  by false s =
      let great = ltb-false n 4294967295 s in
      let more = grows n ds in
      ap (λ (m : ℕ). min (number_after m ds) 4294967295) (min-eq_right great)
      ∙ min-eq_right (grows 4294967295 ds)
      ∙ sym (min-eq_right (omega (arith, great, more)))

double : (k : ℕ) → 2 ^ (k + 1) ≡ 2 ^ k + 2 ^ k
double k = let s : k + 1 ≡ suc k = omega arith in ap (λ (i : ℕ). 2 ^ i) s ∙ two-pow-succ k

none : binary_digits 0 ≡ 0
none = let l : binary_digits 0 ≤ 0 = length-digits_of-le 2 0 0 (omega arith) (omega arith) in omega (arith, l)

upper : (m r n p q : ℕ) → 2 * m + r ≡ n → 0 < n → p ≡ q + q → (0 < m → q ≤ 2 * m) → (m ≡ 0 → q ≡ 1) → p ≤ 2 * n
upper zero r n p q half some e h z = let one = z refl in omega (arith, half, some, e, one)
upper (suc m) r n p q half some e h z = let l = h (omega arith) in omega (arith, half, e, l)

-- a number is below two to the count of its binary digits, and not below half of it
pub digits-bound : (turns n : ℕ) → n ≤ turns → (n < 2 ^ binary_digits n) × (0 < n → 2 ^ binary_digits n ≤ 2 * n)
digits-bound turns zero l = (omega arith, λ p. absurd (omega (arith, p)))
digits-bound zero (suc n) l = absurd (omega (arith, l))
digits-bound (suc turns) (suc n) l =
    let some : 0 < suc n = omega arith in
    let half : 2 * (suc n / 2) + suc n % 2 ≡ suc n = div-add-mod (suc n) 2 in
    let rem : suc n % 2 < 2 = mod-lt (suc n) (omega arith) in
    let h = digits-bound turns (suc n / 2) (omega (arith, half, rem, l)) in
    let power : 2 ^ binary_digits (suc n) ≡ 2 ^ binary_digits (suc n / 2) + 2 ^ binary_digits (suc n / 2) =
    ap (λ (i : ℕ). 2 ^ i) (length-digits_of_step 2 (suc n) (omega arith) some) ∙ double (binary_digits (suc n / 2)) in (
      omega (arith, power, h.0, half, rem),
      λ p. upper (suc n / 2) (suc n % 2) (suc n) (2 ^ binary_digits (suc n)) (2 ^ binary_digits (suc n / 2)) half some power h.1
          (λ z. ap (λ (i : ℕ). 2 ^ binary_digits i) z ∙ ap (λ (i : ℕ). 2 ^ i) none),
    )

pub digits-left : (n : ℕ) → n < 2 ^ 128 → binary_digits n + count_leading_zeros 128 n ≡ 128
digits-left n l =
    let within : binary_digits n ≤ 128 = length-digits_of-le 2 128 n (omega arith) l in
    let sum : (128 - binary_digits n) + binary_digits n ≡ 128 = omega (arith, within) in
    let bound = digits-bound n n (omega arith) in
    let e = leading_unique 128 n (128 - binary_digits n) (binary_digits n) sum bound.0 (least n bound.1) in
    omega (arith, within, e) where
      least : (n : ℕ) → (0 < n → 2 ^ binary_digits n ≤ 2 * n) → 2 ^ binary_digits n ≤ 2 * n + 1
      least zero h = omega arith
      least (suc n) h = let u = h (omega arith) in omega (arith, u)
