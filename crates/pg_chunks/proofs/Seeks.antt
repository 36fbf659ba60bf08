-- A key sought in parts of a list: where it stands, and how much is read.
use Rattle.std.proofs.Common.{Bool, true, false, cond, ℕ, zero, suc, ◌≡◌, ◌+◌, ◌*◌, ◌<◌, ◌≤◌, List, [], ◌∷◌, ◌++◌, length, get_or, take, refl, ap, sym, subst, ◌∙◌, arith}
use Rattle.std.specs.Prelude.{Result}
use Rattle.std.specs.declared.cmp.Ordering.{Ordering}
use Rattle.std.specs.Ordering.{is_gt}
use Rattle.pg_keyed.specs.Lists.{Each}
use Rattle.pg_keyed.specs.Keyed.{Ascends, Sought, rank}
use Rattle.pg_keyed.specs.Orders.{Exact}
use Rattle.pg_chunks.specs.declared.part.Chunk.{Chunk}
use Rattle.pg_chunks.specs.Digits.{digits, digits_more, digits_less}
use Rattle.pg_chunks.specs.Parts.{items_of, joined, before_part, Starts, Fills, shift}
use Rattle.pg_chunks.proofs.Places.{length_append, ascends_first, ascends_second, rank_later, sought_later, sought_front, shift_zero, shift_shift}
use Rattle.pg_chunks.proofs.Splits.{start_at, before_within, before_end}

-- STEPS

pub seven : (n : ℕ) → n < 128 → digits n ≤ 7
unfolding digits
seven n h = let m = digits_more n 127 (omega arith) in omega arith

pub digits_zero : digits 0 ≡ 0
unfolding digits
digits_zero = refl

-- parts of 64 items or more
pub six_more : (f n : ℕ) → 0 < f → 64 * f ≤ n → digits f + 6 ≤ digits n
six_more f n z h =
    let a = digits_less f (2 * f) (omega arith) (omega arith) in
    let b = digits_less (2 * f) (4 * f) (omega arith) (omega arith) in
    let c = digits_less (4 * f) (8 * f) (omega arith) (omega arith) in
    let d = digits_less (8 * f) (16 * f) (omega arith) (omega arith) in
    let e = digits_less (16 * f) (32 * f) (omega arith) (omega arith) in
    let g = digits_less (32 * f) n (omega arith) (omega arith) in
    omega arith

pub many : {X : Type 0} (cs : List (Chunk X)) → Each Fills cs → 64 * length cs ≤ length (joined cs)
many [] f = omega arith
many (c ∷ cs) f = let r = many cs f.1 in let l = f.0.0 in let n = length_append (items_of c) (joined cs) in omega arith

-- what is read of the parts and of the last part
pub some_read : {X : Type 0} (cs : List (Chunk X)) (last : List X) (a b c : ℕ) → (0 < length cs → a + 1 ≤ b) → (0 < length last → b + 1 ≤ c) → a ≤ b → b ≤ c → 0 < length (joined cs ++ last) → a + 1 ≤ c
some_read [] last a b c f g p q z = let r = g z in omega (arith, r, p)
some_read (d ∷ cs) last a b c f g p q z = let r = f (omega arith) in omega (arith, r, q)

-- PLACES

module _ {X K : Type 0} (key : X → K) (cmp : K → K → Ordering) (o : Exact cmp) where
  pub ascends_part : (cs : List (Chunk X)) (m : ℕ) (c : Chunk X) → Ascends key cmp (joined cs) → m < length cs → c ≡ get_or cs m c → Ascends key cmp (items_of c)
  ascends_part [] m c a l e = absurd (omega arith)
  ascends_part (b ∷ cs) zero c a l e = subst (λ p. Ascends key cmp (items_of p)) (sym e) (ascends_first key cmp o (items_of b) (joined cs) a)
  ascends_part (b ∷ cs) (suc m) c a l e = ascends_part cs m c (ascends_second key cmp o (items_of b) (joined cs) a) (omega arith) e

  within_part : (k : K) (cs : List (Chunk X)) (m : ℕ) (c : Chunk X) (r : Result ℕ ℕ) → Ascends key cmp (joined cs) → m < length cs → c ≡ get_or cs m c → before_part m cs ≤ rank key cmp k (joined cs) → rank key cmp k (joined cs) < before_part (m + 1) cs
      → Sought key cmp k (items_of c) r → Sought key cmp k (joined cs) (shift (before_part m cs) r)
  within_part k [] m c r a l e low high s = absurd (omega arith)
  within_part k (b ∷ cs) zero c r a l e low high s =
      let n = length_append (items_of b) [] in
      subst (λ q. Sought key cmp k (joined (b ∷ cs)) q) (sym (shift_zero r))
      (sought_front key cmp o k (items_of b) (joined cs) r a (omega arith) (subst (λ p. Sought key cmp k (items_of p) r) e s))
  within_part k (b ∷ cs) (suc m) c r a l e low high s =
      let n = length_append (items_of b) (joined (take m cs)) in
      let p = length_append (items_of b) (joined (take (m + 1) cs)) in
      let z : suc m + 1 ≡ suc (m + 1) = omega arith in
      let y = ap (λ j. before_part j (b ∷ cs)) z in
      let w : length (items_of b) ≤ rank key cmp k (items_of b ++ joined cs) = omega arith in
      let t = rank_later key cmp k (items_of b) (joined cs) w in
      let again = within_part k cs m c r (ascends_second key cmp o (items_of b) (joined cs) a) (omega arith) e (omega arith) (omega arith) s in
      let q : shift (length (items_of b)) (shift (before_part m cs) r) ≡ shift (before_part (suc m) (b ∷ cs)) r = shift_shift (length (items_of b)) (before_part m cs) r ∙ ap (λ j. shift j r) (sym n) in
      subst (λ v. Sought key cmp k (joined (b ∷ cs)) v) q (sought_later key cmp o k (items_of b) (joined cs) (shift (before_part m cs) r) w again)

  pub sought_part : (k : K) (cs : List (Chunk X)) (m : ℕ) (c : Chunk X) (r : Result ℕ ℕ) → Starts 0 cs → Ascends key cmp (joined cs) → m < length cs → c ≡ get_or cs m c → before_part m cs ≤ rank key cmp k (joined cs) → rank key cmp k (joined cs) < before_part (m + 1) cs
      → Sought key cmp k (items_of c) r → Sought key cmp k (joined cs) (shift c.start r)
  sought_part k cs m c r st a l e low high s =
      let z = start_at 0 cs m c st l e in
      let y : before_part m cs ≡ c.start = omega arith in
      subst (λ j. Sought key cmp k (joined cs) (shift j r)) y (within_part k cs m c r a l e low high s)

  -- all of the first are passed, or not
  pub reaches : (k : K) (xs ys : List X) → length xs ≤ rank key cmp k xs → length xs ≤ rank key cmp k (xs ++ ys)
  reaches k [] ys h = omega arith
  reaches k (x ∷ xs) ys h = go (is_gt (cmp k (key x))) h (reaches k xs ys)
    where
      go : (b : Bool) → suc (length xs) ≤ cond b (rank key cmp k xs + 1) 0 → (length xs ≤ rank key cmp k xs → length xs ≤ rank key cmp k (xs ++ ys)) → suc (length xs) ≤ cond b (rank key cmp k (xs ++ ys) + 1) 0
      go true l again = let r = again (omega arith) in omega arith
      go false l again = absurd (omega arith)

  pub falls_short : (k : K) (xs ys : List X) → rank key cmp k xs < length xs → rank key cmp k (xs ++ ys) < length xs
  falls_short k [] ys h = absurd (omega arith)
  falls_short k (x ∷ xs) ys h = go (is_gt (cmp k (key x))) h (falls_short k xs ys)
    where
      go : (b : Bool) → cond b (rank key cmp k xs + 1) 0 < suc (length xs) → (rank key cmp k xs < length xs → rank key cmp k (xs ++ ys) < length xs) → cond b (rank key cmp k (xs ++ ys) + 1) 0 < suc (length xs)
      go true l again = let r = again (omega arith) in omega arith
      go false l again = omega arith

  pub sought_full : (k : K) (cs : List (Chunk X)) (ys : List X) (m : ℕ) (r : Result ℕ ℕ) → Ascends key cmp (joined cs ++ ys) → m < length cs → rank key cmp k (joined cs) < before_part (m + 1) cs → Sought key cmp k (joined cs) r → Sought key cmp k (joined cs ++ ys) r
  sought_full k cs ys m r a l h s =
      let w = before_within cs (m + 1) in
      sought_front key cmp o k (joined cs) ys r a (falls_short k (joined cs) ys (omega arith)) s

  pub sought_last : (k : K) (cs : List (Chunk X)) (ys : List X) (m n : ℕ) (r : Result ℕ ℕ) → m ≡ length cs → before_part m cs ≤ rank key cmp k (joined cs) → n ≡ length (joined cs) → Sought key cmp k ys r → Sought key cmp k (joined cs ++ ys) (shift n r)
  sought_last k cs ys m n r e l z s =
      let w = before_end cs in
      let y = ap (λ j. before_part j cs) e in
      subst (λ j. Sought key cmp k (joined cs ++ ys) (shift j r)) (sym z) (sought_later key cmp o k (joined cs) ys r (reaches k (joined cs) ys (omega arith)) s)

-- what is read at most
pub cost_full : {X : Type 0} (cs : List (Chunk X)) (ys : List X) → Each Fills cs → 0 < length cs → digits (length cs) + 7 ≤ 1 + digits (length (joined cs ++ ys))
cost_full cs ys f z = let m = many cs f in let n = length_append (joined cs) ys in let s = six_more (length cs) (length (joined cs ++ ys)) z (omega arith) in omega arith

pub cost_last : {X : Type 0} (cs : List (Chunk X)) (ys : List X) → Each Fills cs → length ys < 128 → digits (length cs) + digits (length ys) ≤ 1 + digits (length (joined cs ++ ys))
cost_last [] ys f h = omega (arith, digits_zero)
cost_last (c ∷ cs) ys f h = let a = cost_full (c ∷ cs) ys f (omega arith) in let b = seven (length ys) h in omega arith
