-- Where a key stands in two lists, one after the other.
use Rattle.std.proofs.Common.{ℕ, zero, suc, ◌≡◌, ◌+◌, ◌<◌, List, [], ◌∷◌, ◌++◌, length, cond, refl, ap, sym, ◌∙◌, arith, length-append}
use Rattle.std.specs.Prelude.{slice_get, Result, Ok, Err}
use Rattle.std.specs.declared.option.Option.{Option}
use Rattle.std.specs.declared.option.Option.TheVariants.{Some}
use Rattle.std.specs.declared.cmp.Ordering.{Ordering}
use Rattle.std.specs.declared.cmp.Ordering.TheVariants.{Greater}
use Rattle.std.specs.Ordering.{is_eq, is_gt}
use Rattle.pg_chunks.specs.Parts.{shift}
use Rattle.pg_keyed.specs.Lists.{Each}
use Rattle.pg_keyed.specs.Keyed.{Above, get, rank, Sought}
use Rattle.pg_keyed.specs.Orders.{Exact}
use Rattle.pg_keyed.specs.Ranks.{above_none}

pub append_later : {X : Type 0} (xs ys : List X) (i : ℕ) → slice_get (xs ++ ys) (length xs + i) ≡ slice_get ys i
append_later [] ys i = let e : 0 + i ≡ i = omega arith in ap (slice_get ys) e
append_later (x ∷ xs) ys i = let e : suc (length xs) + i ≡ suc (length xs + i) = omega arith in ap (slice_get (x ∷ (xs ++ ys))) e ∙ append_later xs ys i

append_front : {X : Type 0} (xs ys : List X) (i : ℕ) → i < length xs → slice_get (xs ++ ys) i ≡ slice_get xs i
append_front [] ys i h = absurd (omega arith)
append_front (x ∷ xs) ys zero h = refl
append_front (x ∷ xs) ys (suc i) h = append_front xs ys i (omega arith)

pub shift_zero : (r : Result ℕ ℕ) → shift 0 r ≡ r
shift_zero (Ok i) = let e : 0 + i ≡ i = omega arith in ap (λ j. Ok j) e
shift_zero (Err i) = let e : 0 + i ≡ i = omega arith in ap (λ j. Err j) e

pub shift_shift : (m n : ℕ) (r : Result ℕ ℕ) → shift m (shift n r) ≡ shift (m + n) r
shift_shift m n (Ok i) = let e : m + (n + i) ≡ m + n + i = omega arith in ap (λ j. Ok j) e
shift_shift m n (Err i) = let e : m + (n + i) ≡ m + n + i = omega arith in ap (λ j. Err j) e

module _ {X K : Type 0} (key : X → K) (cmp : K → K → Ordering) (o : Exact cmp) where
  abbrev G : K → List X → Option X
  G k xs = get key cmp k xs

  abbrev R : K → List X → ℕ
  R k xs = rank key cmp k xs

  pub rank_none : (k : K) (xs : List X) → Above key cmp k xs → R k xs ≡ 0
  rank_none k [] a = refl
  rank_none k (x ∷ xs) a = ap (λ b. cond b (R k xs + 1) 0) (ap is_gt a.0)

  rank_before : (k : K) (xs ys : List X) → Above key cmp k ys → R k (xs ++ ys) ≡ R k xs
  rank_before k [] ys a = rank_none k ys a
  rank_before k (x ∷ xs) ys a = ap (λ n. cond (is_gt (cmp k (key x))) (n + 1) 0) (rank_before k xs ys a)

  get_before : (k : K) (xs ys : List X) → Above key cmp k ys → G k (xs ++ ys) ≡ G k xs
  get_before k [] ys a = above_none key cmp o k ys a
  get_before k (x ∷ xs) ys a = ap (λ m. cond (is_eq (cmp k (key x))) (Some x) m) (get_before k xs ys a)

  -- the key is below the second list
  pub sought_before : (k : K) (xs ys : List X) (r : Result ℕ ℕ) → Above key cmp k ys → Sought key cmp k xs r → Sought key cmp k (xs ++ ys) r
  sought_before k xs ys (Ok i) a s = (s.0 ∙ sym (rank_before k xs ys a), (let n = length-append xs ys in let l = s.1 in omega arith), get_before k xs ys a ∙ s.2 ∙ sym (append_front xs ys i s.1))
  sought_before k xs ys (Err i) a s = (s.0 ∙ sym (rank_before k xs ys a), (let n = length-append xs ys in let l = s.1 in omega arith), get_before k xs ys a ∙ s.2)

  rank_after : (k : K) (xs ys : List X) → Each (λ x. cmp k (key x) ≡ Greater) xs → R k (xs ++ ys) ≡ length xs + R k ys
  rank_after k [] ys h = omega arith
  rank_after k (x ∷ xs) ys h = ap (λ b. cond b (R k (xs ++ ys) + 1) 0) (ap is_gt h.0) ∙ (let r = rank_after k xs ys h.1 in omega arith)

  get_after : (k : K) (xs ys : List X) → Each (λ x. cmp k (key x) ≡ Greater) xs → G k (xs ++ ys) ≡ G k ys
  get_after k [] ys h = refl
  get_after k (x ∷ xs) ys h = ap (λ b. cond b (Some x) (G k (xs ++ ys))) (ap is_eq h.0) ∙ get_after k xs ys h.1

  -- the key is above the first list
  pub sought_after : (k : K) (xs ys : List X) (r : Result ℕ ℕ) → Each (λ x. cmp k (key x) ≡ Greater) xs → Sought key cmp k ys r → Sought key cmp k (xs ++ ys) (shift (length xs) r)
  sought_after k xs ys (Ok i) h s = ((let r = rank_after k xs ys h in let e = s.0 in omega arith), (let n = length-append xs ys in let l = s.1 in omega arith), get_after k xs ys h ∙ s.2 ∙ sym (append_later xs ys i))
  sought_after k xs ys (Err i) h s = ((let r = rank_after k xs ys h in let e = s.0 in omega arith), (let n = length-append xs ys in let l = s.1 in omega arith), get_after k xs ys h ∙ s.2)
