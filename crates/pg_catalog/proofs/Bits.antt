-- The bits of a set of tables.
use Rattle.std.proofs.Common.{◌≡◌, ℕ, refl, ap, sym, ◌∙◌, arith, Bool, true, false, List, ◌∷◌, max, ◌<◌, ◌==◌, w64, subst, eqb-true, map}
use Rattle.std.specs.Prelude.{◌||◌, cond, filter}
use Rattle.std.specs.Int.{bit_at}
use Rattle.std.proofs.lemmas.Nat.Bits.{bit_at_set_same, bit_at_set_other, bit_at-lt, bit_at-zero}
use Rattle.pg_rules.specs.declared.entry.ElementEntry.{ElementEntry}
use Rattle.pg_ast.specs.Trees.{LabelTree}
use Rattle.pg_rules.specs.Catalog.GraphLookUps.{admitted, bit, has_number}
use Rattle.pg_catalog.specs.GraphLookUps.{is_admitted, with, with_if}

-- whether a table is in a set or in a list
abbrev pub with_rest : ℕ → List ℕ → ℕ → ℕ
with_rest set ts t = max (bit_at set t) (bit (has_number t ts))

top : (set t : ℕ) → max (bit_at set t) 1 ≡ 1
top set t = let h = bit_at-lt set t in omega arith

nought : (n : ℕ) → max n 0 ≡ n
nought n = omega arith

bit_with_at : (set u t : ℕ) → u < 64 → (b : Bool) → (u == t) ≡ b → bit_at (with set u) t ≡ max (bit_at set t) (bit b)
bit_with_at set u t h true e = let s = eqb-true u t e in subst (λ x. bit_at (with set u) x ≡ max (bit_at set x) 1) s (bit_at_set_same w64 set u h ∙ sym (top set u))
bit_with_at set u t h false e = bit_at_set_other w64 set u h t (λ s. grind arith) ∙ sym (nought (bit_at set t))

bit_with : (set u t : ℕ) → u < 64 → bit_at (with set u) t ≡ max (bit_at set t) (bit (u == t))
bit_with set u t h = bit_with_at set u t h (u == t) refl

both_bits : (n : ℕ) (b c : Bool) → max (max n (bit b)) (bit c) ≡ max n (bit (b || c))
both_bits n true true = omega arith
both_bits n true false = omega arith
both_bits n false true = omega arith
both_bits n false false = omega arith

picked : (b : Bool) (e : ElementEntry) (es : List ElementEntry) (t : ℕ) → cond b ((e.table.0 == t) || has_number t (map (λ e. e.table.0) es)) (has_number t (map (λ e. e.table.0) es)) ≡ has_number t (map (λ e. e.table.0) (cond b (e ∷ es) es))
picked true e es t = refl
picked false e es t = refl

-- a table that is put in stands in the set, and one that is not admitted nowhere
stepped : (b c : Bool) (set u t : ℕ) → u < 64 → max (bit_at (with_if set b u) t) (bit c) ≡ max (bit_at set t) (bit (cond b ((u == t) || c) c))
stepped false c set u t h = refl
stepped true c set u t h = ap (λ n. max n (bit c)) (bit_with set u t h) ∙ both_bits (bit_at set t) (u == t) c

pub next_bit : (x : LabelTree) (e : ElementEntry) (es : List ElementEntry) (set t : ℕ) → e.table.0 < 64 →
    with_rest (with_if set (is_admitted x e) e.table.0) (admitted es x) t ≡ with_rest set (admitted (e ∷ es) x) t
next_bit x e es set t h = stepped (is_admitted x e) (has_number t (admitted es x)) set e.table.0 t h ∙ ap (λ b. max (bit_at set t) (bit b)) (picked (is_admitted x e) e (filter (is_admitted x) es) t)

pub at_first : (n t : ℕ) → max (bit_at 0 t) n ≡ n
at_first n t = let z = bit_at-zero t in omega arith

pub at_last : (set t : ℕ) → max (bit_at set t) 0 ≡ bit_at set t
at_last set t = omega arith

-- one turn of a loop over the tables
pub next_table : (x : LabelTree) (es rest : List ElementEntry) (e : ElementEntry) (set next t total : ℕ) → es ≡ e ∷ rest → e.table.0 < 64 → next ≡ with_if set (is_admitted x e) e.table.0 → with_rest set (admitted es x) t ≡ total → with_rest next (admitted rest x) t ≡ total
next_table x es rest e set next t total is h n so_far =
    ap (λ m. with_rest m (admitted rest x) t) n ∙ next_bit x e rest set t h ∙ sym (ap (λ l. with_rest set (admitted l x) t) is) ∙ so_far
