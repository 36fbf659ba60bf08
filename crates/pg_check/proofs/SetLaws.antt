-- A number below 2 ^ 64 is the sum of its bits, so a set of tables is the set of its members.
use Rattle.std.proofs.Common.{◌≡◌, ℕ, ap, sym, ◌∙◌, Bool, true, false, cond, List, ◌+◌, ◌*◌, ◌^◌, ◌/◌, ◌%◌, ◌<◌, zero, suc, arith, add-one}
use Rattle.std.specs.List.{range_with_len}
use Rattle.std.specs.Int.{bit_at}
use Rattle.std.proofs.lemmas.Nat.Bits.{bit_at_lowest, bit_at-suc}
use Rattle.std.proofs.Math.Nat.{mod-add-div', two-pow-succ, zero-mul}
use Rattle.pg_rules.specs.Catalog.GraphLookUps.{bit, has_number, IsSetOf}
use Rattle.pg_rules.specs.Queries.CheckedQueries.{bits_among}

bit_times : (b : Bool) (p : ℕ) → bit b * p ≡ cond b p 0
bit_times true p = omega arith
bit_times false p = omega arith

spread : (b q p : ℕ) → (b + q * 2) * p ≡ b * p + q * (p + p)
spread b q p = grind arith

halved : (m k : ℕ) → m < 2 ^ suc k → m / 2 < 2 ^ k
halved m k h = let p = two-pow-succ k in omega arith

pub bits_are : (k lo m : ℕ) (ts : List ℕ) → ((t : ℕ) → bit_at m t ≡ bit (has_number (lo + t) ts)) → m < 2 ^ k → m * 2 ^ lo ≡ bits_among (range_with_len lo k) ts
bits_are zero lo m ts h small = let z : m ≡ 0 = omega arith in ap (λ n. n * 2 ^ lo) z ∙ zero-mul (2 ^ lo)
bits_are (suc k) lo m ts h small =
    let own : m % 2 ≡ bit (has_number lo ts) = sym (bit_at_lowest m) ∙ h 0 ∙ ap (λ n. bit (has_number n ts)) (omega arith) in
    let double : 2 ^ lo + 2 ^ lo ≡ 2 ^ (lo + 1) = sym (two-pow-succ lo) ∙ ap (λ n. 2 ^ n) (sym (add-one lo)) in
    ap (λ n. n * 2 ^ lo) (sym (mod-add-div' m 2))
    ∙ spread (m % 2) (m / 2) (2 ^ lo)
    ∙ ap (λ n. n * 2 ^ lo + m / 2 * (2 ^ lo + 2 ^ lo)) own
    ∙ ap (λ n. n + m / 2 * (2 ^ lo + 2 ^ lo)) (bit_times (has_number lo ts) (2 ^ lo))
    ∙ ap (λ n. cond (has_number lo ts) (2 ^ lo) 0 + m / 2 * n) double
    ∙ ap (λ n. cond (has_number lo ts) (2 ^ lo) 0 + n) (bits_are k (lo + 1) (m / 2) ts (λ t. sym (bit_at-suc m t) ∙ h (suc t) ∙ ap (λ n. bit (has_number n ts)) (omega arith)) (halved m k small))

pub set_is : (m : ℕ) (ts : List ℕ) → IsSetOf m ts → m < 2 ^ 64 → m ≡ bits_among (range_with_len 0 64) ts
set_is m ts h small = let one : m ≡ m * 2 ^ 0 = omega arith in one ∙ bits_are 64 0 m ts (λ t. h t ∙ ap (λ n. bit (has_number n ts)) (omega arith)) small
