-- Where a key stands in two lists, one after the other.
use Rattle.std.proofs.Common.{ℕ, zero, suc, ◌≡◌, ◌+◌, ◌<◌, ◌≤◌, List, [], ◌∷◌, ◌++◌, length, get_or, Bool, true, false, cond, refl, ap, sym, ◌∙◌, arith}
use Rattle.std.specs.Prelude.{slice_get, slice_set, Result, Ok, Err}
use Rattle.std.specs.List.{insert}
use Rattle.std.specs.declared.option.Option.{Option}
use Rattle.std.specs.declared.option.Option.TheVariants.{Some}
use Rattle.std.specs.declared.cmp.Ordering.{Ordering}
use Rattle.std.specs.declared.cmp.Ordering.TheVariants.{Less, Equal, Greater}
use Rattle.std.specs.Ordering.{is_eq, is_gt, is_lt}
use Rattle.pg_chunks.specs.Parts.{shift, place}
use Rattle.pg_keyed.specs.Keyed.{Above, Ascends, get, rank, Sought}
use Rattle.pg_keyed.specs.Orders.{Exact, turn, greater}
use Rattle.pg_keyed.specs.Ranks.{above_none, above_less}

-- LISTS

pub length_append : {X : Type 0} (xs ys : List X) → length (xs ++ ys) ≡ length xs + length ys
length_append [] ys = omega arith
length_append (x ∷ xs) ys = let r = length_append xs ys in omega arith

pub append_later : {X : Type 0} (xs ys : List X) (i : ℕ) → slice_get (xs ++ ys) (length xs + i) ≡ slice_get ys i
append_later [] ys i = let e : 0 + i ≡ i = omega arith in ap (slice_get ys) e
append_later (x ∷ xs) ys i = let e : suc (length xs) + i ≡ suc (length xs + i) = omega arith in ap (slice_get (x ∷ (xs ++ ys))) e ∙ append_later xs ys i

pub append_front : {X : Type 0} (xs ys : List X) (i : ℕ) → i < length xs → slice_get (xs ++ ys) i ≡ slice_get xs i
append_front [] ys i h = absurd (omega arith)
append_front (x ∷ xs) ys zero h = refl
append_front (x ∷ xs) ys (suc i) h = append_front xs ys i (omega arith)

pub or_later : {X : Type 0} (xs ys : List X) (i : ℕ) (d : X) → get_or (xs ++ ys) (length xs + i) d ≡ get_or ys i d
or_later [] ys i d = let e : 0 + i ≡ i = omega arith in ap (λ j. get_or ys j d) e
or_later (x ∷ xs) ys i d = let e : suc (length xs) + i ≡ suc (length xs + i) = omega arith in ap (λ j. get_or (x ∷ (xs ++ ys)) j d) e ∙ or_later xs ys i d

pub or_front : {X : Type 0} (xs ys : List X) (i : ℕ) (d : X) → i < length xs → get_or (xs ++ ys) i d ≡ get_or xs i d
or_front [] ys i d h = absurd (omega arith)
or_front (x ∷ xs) ys zero d h = refl
or_front (x ∷ xs) ys (suc i) d h = or_front xs ys i d (omega arith)

pub insert_later : {X : Type 0} (xs ys : List X) (i : ℕ) (x : X) → insert (xs ++ ys) (length xs + i) x ≡ xs ++ insert ys i x
insert_later [] ys i x = let e : 0 + i ≡ i = omega arith in ap (λ j. insert ys j x) e
insert_later (y ∷ xs) ys i x = let e : suc (length xs) + i ≡ suc (length xs + i) = omega arith in ap (λ j. insert (y ∷ (xs ++ ys)) j x) e ∙ ap (λ zs. y ∷ zs) (insert_later xs ys i x)

pub insert_front : {X : Type 0} (xs ys : List X) (i : ℕ) (x : X) → i ≤ length xs → insert (xs ++ ys) i x ≡ insert xs i x ++ ys
insert_front [] ys zero x h = refl
insert_front [] ys (suc i) x h = absurd (omega arith)
insert_front (y ∷ xs) ys zero x h = refl
insert_front (y ∷ xs) ys (suc i) x h = ap (λ zs. y ∷ zs) (insert_front xs ys i x (omega arith))

pub set_later : {X : Type 0} (xs ys : List X) (i : ℕ) (x : X) → slice_set (xs ++ ys) (length xs + i) x ≡ xs ++ slice_set ys i x
set_later [] ys i x = let e : 0 + i ≡ i = omega arith in ap (λ j. slice_set ys j x) e
set_later (y ∷ xs) ys i x = let e : suc (length xs) + i ≡ suc (length xs + i) = omega arith in ap (λ j. slice_set (y ∷ (xs ++ ys)) j x) e ∙ ap (λ zs. y ∷ zs) (set_later xs ys i x)

pub set_front : {X : Type 0} (xs ys : List X) (i : ℕ) (x : X) → i < length xs → slice_set (xs ++ ys) i x ≡ slice_set xs i x ++ ys
set_front [] ys i x h = absurd (omega arith)
set_front (y ∷ xs) ys zero x h = refl
set_front (y ∷ xs) ys (suc i) x h = ap (λ zs. y ∷ zs) (set_front xs ys i x (omega arith))

-- RANKS

module _ {X K : Type 0} (key : X → K) (cmp : K → K → Ordering) where
  abbrev R : K → List X → ℕ
  R k xs = rank key cmp k xs

  -- all of the first stand before the key
  pub rank_later : (k : K) (xs ys : List X) → length xs ≤ R k (xs ++ ys) → R k (xs ++ ys) ≡ length xs + R k ys
  rank_later k [] ys h = omega arith
  rank_later k (x ∷ xs) ys h = go (is_gt (cmp k (key x))) h (rank_later k xs ys)
    where
      go : (b : Bool) → suc (length xs) ≤ cond b (R k (xs ++ ys) + 1) 0 → (length xs ≤ R k (xs ++ ys) → R k (xs ++ ys) ≡ length xs + R k ys) → cond b (R k (xs ++ ys) + 1) 0 ≡ suc (length xs) + R k ys
      go true l again = let r = again (omega arith) in omega arith
      go false l again = absurd (omega arith)

  -- one of the first does not
  pub rank_front : (k : K) (xs ys : List X) → R k (xs ++ ys) < length xs → R k (xs ++ ys) ≡ R k xs
  rank_front k [] ys h = absurd (omega arith)
  rank_front k (x ∷ xs) ys h = go (is_gt (cmp k (key x))) h (rank_front k xs ys)
    where
      go : (b : Bool) → cond b (R k (xs ++ ys) + 1) 0 < suc (length xs) → (R k (xs ++ ys) < length xs → R k (xs ++ ys) ≡ R k xs) → cond b (R k (xs ++ ys) + 1) 0 ≡ cond b (R k xs + 1) 0
      go true l again = ap (λ n. n + 1) (again (omega arith))
      go false l again = refl

module _ {X K : Type 0} (key : X → K) (cmp : K → K → Ordering) (o : Exact cmp) where
  abbrev G : K → List X → Option X
  G k xs = get key cmp k xs

  pub get_later : (k : K) (xs ys : List X) → length xs ≤ rank key cmp k (xs ++ ys) → G k (xs ++ ys) ≡ G k ys
  get_later k [] ys h = refl
  get_later k (x ∷ xs) ys h = go (cmp k (key x)) h (get_later k xs ys)
    where
      go : (r : Ordering) → suc (length xs) ≤ cond (is_gt r) (rank key cmp k (xs ++ ys) + 1) 0 → (length xs ≤ rank key cmp k (xs ++ ys) → G k (xs ++ ys) ≡ G k ys) → cond (is_eq r) (Some x) (G k (xs ++ ys)) ≡ G k ys
      go Less l again = absurd (omega arith)
      go Equal l again = absurd (omega arith)
      go Greater l again = again (omega arith)

  above_first : (k : K) (xs ys : List X) → Above key cmp k (xs ++ ys) → Above key cmp k xs
  above_first k [] ys a = tt
  above_first k (x ∷ xs) ys a = (a.0, above_first k xs ys a.1)

  pub ascends_first : (xs ys : List X) → Ascends key cmp (xs ++ ys) → Ascends key cmp xs
  ascends_first [] ys a = tt
  ascends_first (x ∷ xs) ys a = (above_first (key x) xs ys a.0, ascends_first xs ys a.1)

  pub ascends_second : (xs ys : List X) → Ascends key cmp (xs ++ ys) → Ascends key cmp ys
  ascends_second [] ys a = a
  ascends_second (x ∷ xs) ys a = ascends_second xs ys a.1

  pub get_front : (k : K) (xs ys : List X) → Ascends key cmp (xs ++ ys) → rank key cmp k (xs ++ ys) < length xs → G k (xs ++ ys) ≡ G k xs
  get_front k [] ys a h = absurd (omega arith)
  get_front k (x ∷ xs) ys a h = go (cmp k (key x)) refl h (get_front k xs ys a.1)
    where
      go : (r : Ordering) → cmp k (key x) ≡ r → cond (is_gt r) (rank key cmp k (xs ++ ys) + 1) 0 < suc (length xs) → (rank key cmp k (xs ++ ys) < length xs → G k (xs ++ ys) ≡ G k xs) → cond (is_eq r) (Some x) (G k (xs ++ ys)) ≡ cond (is_eq r) (Some x) (G k xs)
      go Less e l again = let b = above_less key cmp o k (key x) (xs ++ ys) e a.0 in above_none key cmp o k (xs ++ ys) b ∙ sym (above_none key cmp o k xs (above_first k xs ys b))
      go Equal e l again = refl
      go Greater e l again = again (omega arith)

  above_at : (k : K) (xs : List X) (i : ℕ) (d : X) → Above key cmp k xs → i < length xs → cmp k (key (get_or xs i d)) ≡ Less
  above_at k [] i d a l = absurd (omega arith)
  above_at k (x ∷ xs) zero d a l = a.0
  above_at k (x ∷ xs) (suc i) d a l = above_at k xs i d a.1 (omega arith)

  -- an item that stands before the key, by its place
  pub over_at : (k : K) (xs : List X) (i : ℕ) (d : X) → Ascends key cmp xs → i < length xs → is_lt (cmp (key (get_or xs i d)) k) ≡ true → i + 1 ≤ rank key cmp k xs
  over_at k xs i d a l h = go xs i a l (turn o (key (get_or xs i d)) k Less (less_is _ h))
    where
      less_is : (r : Ordering) → is_lt r ≡ true → r ≡ Less
      less_is Less e = refl
      less_is Equal e = cc
      less_is Greater e = cc

      first : (x : X) (xs : List X) (i : ℕ) → Above key cmp (key x) xs → i < suc (length xs) → cmp k (key (get_or (x ∷ xs) i d)) ≡ Greater → cmp k (key x) ≡ Greater
      first x xs zero a l e = e
      first x xs (suc i) a l e = greater o k (key (get_or xs i d)) (key x) e (turn o (key x) (key (get_or xs i d)) Less (above_at (key x) xs i d a (omega arith)))

      go : (xs : List X) (i : ℕ) → Ascends key cmp xs → i < length xs → cmp k (key (get_or xs i d)) ≡ Greater → i + 1 ≤ rank key cmp k xs
      go [] i a l e = absurd (omega arith)
      go (x ∷ xs) zero a l e = rw (ap is_gt e) (omega arith)
      go (x ∷ xs) (suc i) a l e = let r = go xs i a.1 (omega arith) e in rw (ap is_gt (first x xs (suc i) a.0 l e)) (omega arith)

  -- an item that does not
  pub under_at : (k : K) (xs : List X) (i : ℕ) (d : X) → i < length xs → is_lt (cmp (key (get_or xs i d)) k) ≡ false → rank key cmp k xs ≤ i
  under_at k xs i d l h = go xs i l (not_greater _ (λ g. turned g))
    where
      not_greater : (r : Ordering) → (r ≡ Greater → ⊥) → is_gt r ≡ false
      not_greater Less n = refl
      not_greater Equal n = refl
      not_greater Greater n = absurd (n refl)

      turned : cmp k (key (get_or xs i d)) ≡ Greater → ⊥
      turned g = let e : true ≡ false = sym (ap is_lt (turn o k (key (get_or xs i d)) Greater g)) ∙ h in cc

      go : (xs : List X) (i : ℕ) → i < length xs → is_gt (cmp k (key (get_or xs i d))) ≡ false → rank key cmp k xs ≤ i
      go [] i l e = absurd (omega arith)
      go (x ∷ xs) zero l e = rw e (omega arith)
      go (x ∷ xs) (suc i) l e = let r = go xs i (omega arith) e in elim (is_gt (cmp k (key x))) as (λ b. cond b (rank key cmp k xs + 1) 0 ≤ suc i) [ true ↦ omega arith | false ↦ omega arith ]

  -- SOUGHT

  abbrev pub S : K → List X → Result ℕ ℕ → Type 0
  S k xs r = Sought key cmp k xs r

  pub found_later : (k : K) (xs ys : List X) (i : ℕ) → length xs ≤ rank key cmp k (xs ++ ys) → S k ys (Ok i) → S k (xs ++ ys) (Ok (length xs + i))
  found_later k xs ys i l s = let r = rank_later key cmp k xs ys l in let n = length_append xs ys in let p = s.0 in let q = s.1 in (omega arith, omega arith, get_later k xs ys l ∙ s.2 ∙ sym (append_later xs ys i))

  pub missed_later : (k : K) (xs ys : List X) (i : ℕ) → length xs ≤ rank key cmp k (xs ++ ys) → S k ys (Err i) → S k (xs ++ ys) (Err (length xs + i))
  missed_later k xs ys i l s = let r = rank_later key cmp k xs ys l in let n = length_append xs ys in let p = s.0 in let q = s.1 in (omega arith, omega arith, get_later k xs ys l ∙ s.2)

  pub found_front : (k : K) (xs ys : List X) (i : ℕ) → Ascends key cmp (xs ++ ys) → rank key cmp k (xs ++ ys) < length xs → S k xs (Ok i) → S k (xs ++ ys) (Ok i)
  found_front k xs ys i a l s = let r = rank_front key cmp k xs ys l in let n = length_append xs ys in let p = s.0 in let q = s.1 in (omega arith, omega arith, get_front k xs ys a l ∙ s.2 ∙ sym (append_front xs ys i q))

  pub missed_front : (k : K) (xs ys : List X) (i : ℕ) → Ascends key cmp (xs ++ ys) → rank key cmp k (xs ++ ys) < length xs → S k xs (Err i) → S k (xs ++ ys) (Err i)
  missed_front k xs ys i a l s = let r = rank_front key cmp k xs ys l in let n = length_append xs ys in let p = s.0 in let q = s.1 in (omega arith, omega arith, get_front k xs ys a l ∙ s.2)

  pub sought_later : (k : K) (xs ys : List X) (r : Result ℕ ℕ) → length xs ≤ rank key cmp k (xs ++ ys) → S k ys r → S k (xs ++ ys) (shift (length xs) r)
  sought_later k xs ys (Ok i) l s = found_later k xs ys i l s
  sought_later k xs ys (Err i) l s = missed_later k xs ys i l s

  pub sought_front : (k : K) (xs ys : List X) (r : Result ℕ ℕ) → Ascends key cmp (xs ++ ys) → rank key cmp k (xs ++ ys) < length xs → S k xs r → S k (xs ++ ys) r
  sought_front k xs ys (Ok i) a l s = found_front k xs ys i a l s
  sought_front k xs ys (Err i) a l s = missed_front k xs ys i a l s

pub shift_zero : (r : Result ℕ ℕ) → shift 0 r ≡ r
shift_zero (Ok i) = let e : 0 + i ≡ i = omega arith in ap Ok e
shift_zero (Err i) = let e : 0 + i ≡ i = omega arith in ap Err e

pub shift_shift : (m n : ℕ) (r : Result ℕ ℕ) → shift m (shift n r) ≡ shift (m + n) r
shift_shift m n (Ok i) = let e : m + (n + i) ≡ (m + n) + i = omega arith in ap Ok e
shift_shift m n (Err i) = let e : m + (n + i) ≡ (m + n) + i = omega arith in ap Err e

pub sought_place : {X K : Type 0} (key : X → K) (cmp : K → K → Ordering) (k : K) (xs : List X) (r : Result ℕ ℕ) → Sought key cmp k xs r → place r ≤ length xs
sought_place key cmp k xs (Ok i) s = let l = s.1 in omega arith
sought_place key cmp k xs (Err i) s = let l = s.1 in omega arith
