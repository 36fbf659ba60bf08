-- A binary search by the key finds the item of the key, or its place; and a change is put there.
use Rattle.std.proofs.Common.{ℕ, zero, suc, ◌≡◌, ◌-◌, ◌<◌, ◌≤◌, List, [], ◌∷◌, length, get_or, cond, refl, ap, sym, subst, ◌∙◌, arith, add-one}
use Rattle.std.specs.Prelude.{slice_get, slice_set, Result, Ok, Err}
use Rattle.std.proofs.lemmas.Option.{none-some}
use Rattle.std.specs.declared.option.Option.{Option}
use Rattle.std.specs.declared.option.Option.TheVariants.{Some, None}
use Rattle.std.specs.declared.cmp.Ordering.{Ordering}
use Rattle.std.specs.declared.cmp.Ordering.TheVariants.{Less, Equal, Greater}
use Rattle.std.specs.Ordering.{is_eq, is_gt, ordering_index}
use Rattle.std.specs.List.{insert}
use Rattle.std.specs.List.Sorted.{IsSearchInRange, IsBinarySearchResult, IsNonDecreasingBy}
use Rattle.pg_keyed.specs.Keyed.{Above, Ascends, get, Sought, merge}
use Rattle.pg_keyed.specs.Orders.{Exact, same, turn, less}
use Rattle.pg_keyed.specs.Ranks.{above_none, above_less}
use Rattle.pg_keyed.specs.Reads.{get_key}
use Rattle.pg_keyed.specs.Puts.{one_replaces, one_added}

none_below : (r : Ordering) → ordering_index r ≤ 0 → r ≡ Less
none_below Less h = refl
none_below Equal h = absurd (omega arith)
none_below Greater h = absurd (omega arith)

pub some_within : {X : Type 0} (xs : List X) (i : ℕ) → i < length xs → slice_get xs i ≡ None → ⊥
some_within [] i l e = omega arith
some_within (x ∷ xs) zero l e = none-some x (sym e)
some_within (x ∷ xs) (suc i) l e = some_within xs i (omega arith) e

module _ {X K : Type 0} (key : X → K) (cmp : K → K → Ordering) (o : Exact cmp) where
  above_at : (k : K) (xs : List X) (i : ℕ) (d : X) → Above key cmp k xs → i < length xs → cmp k (key (get_or xs i d)) ≡ Less
  above_at k [] i d a l = absurd (omega arith)
  above_at k (x ∷ xs) zero d a l = a.0
  above_at k (x ∷ xs) (suc i) d a l = above_at k xs i d a.1 (omega arith)

  -- the answers of a search for k, item by item, rise
  at_first : (k : K) (x : X) (xs : List X) (j : ℕ) (d : X) → Above key cmp (key x) xs → j < length (x ∷ xs) → ordering_index (cmp (key x) k) ≤ ordering_index (cmp (key (get_or (x ∷ xs) j d)) k)
  at_first k x xs zero d a l = omega arith
  at_first k x xs (suc j) d a l = go (cmp (key x) k) refl
    where
      y : X
      y = get_or xs j d

      less_y : cmp (key x) (key y) ≡ Less
      less_y = above_at (key x) xs j d a (omega arith)

      go : (r : Ordering) → cmp (key x) k ≡ r → ordering_index r ≤ ordering_index (cmp (key y) k)
      go Less e = omega arith
      go Equal e = let g : cmp (key y) k ≡ Greater = turn o k (key y) Less (subst (λ j. cmp j (key y) ≡ Less) (o.exact (key x) k e) less_y) in rw g (omega arith)
      go Greater e = let g : cmp (key y) k ≡ Greater = turn o k (key y) Less (less o k (key x) (key y) (turn o (key x) k Greater e) less_y) in rw g (omega arith)

  pub rises : (k : K) (xs : List X) → Ascends key cmp xs → IsNonDecreasingBy (λ x. ordering_index (cmp (key x) k)) xs
  rises k [] a i j d m l = absurd (omega arith)
  rises k (x ∷ xs) a zero j d m l = at_first k x xs j d a.0 l
  rises k (x ∷ xs) a (suc i) zero d m l = absurd (omega arith)
  rises k (x ∷ xs) a (suc i) (suc j) d m l = rises k xs a.1 i j d (omega arith) (omega arith)

  pub at_item : (k : K) (xs : List X) (i : ℕ) (d : X) → Ascends key cmp xs → i < length xs → cmp (key (get_or xs i d)) k ≡ Equal → Sought key cmp k xs (Ok i)
  at_item k [] i d a l e = absurd (omega arith)
  at_item k (x ∷ xs) zero d a l e =
      let q : cmp k (key x) ≡ Equal = turn o (key x) k Equal e in
      (rw (ap is_gt q) refl, l, ap (λ b. cond b (Some x) (get key cmp k xs)) (ap is_eq q))
  at_item k (x ∷ xs) (suc i) d a l e =
      let r = at_item k xs i d a.1 (omega arith) e in
      let g : cmp k (key x) ≡ Greater = turn o (key x) k Less (subst (λ j. cmp (key x) j ≡ Less) (o.exact (key (get_or xs i d)) k e) (above_at (key x) xs i d a.0 (omega arith))) in
      (rw (ap is_gt g) (rw add-one (ap suc r.0)), l, ap (λ b. cond b (Some x) (get key cmp k xs)) (ap is_eq g) ∙ r.2)

  pub at_gap : (k : K) (xs : List X) (i : ℕ) → i ≤ length xs → ((j : ℕ) (d : X) → j < i → cmp (key (get_or xs j d)) k ≡ Less) → ((j : ℕ) (d : X) → i ≤ j → j < length xs → cmp (key (get_or xs j d)) k ≡ Greater) → Ascends key cmp xs → Sought key cmp k xs (Err i)
  at_gap k [] i l f g a = (omega arith, l, refl)
  at_gap k (x ∷ xs) zero l f g a =
      let q : cmp k (key x) ≡ Less = turn o (key x) k Greater (g 0 x (omega arith) (omega arith)) in
      (rw (ap is_gt q) refl, l, ap (λ b. cond b (Some x) (get key cmp k xs)) (ap is_eq q) ∙ above_none key cmp o k xs (above_less key cmp o k (key x) xs q a.0))
  at_gap k (x ∷ xs) (suc i) l f g a =
      let r = at_gap k xs i (omega arith) (λ j d m. f (suc j) d (omega arith)) (λ j d m n. g (suc j) d (omega arith) (omega arith)) a.1 in
      let q : cmp k (key x) ≡ Greater = turn o (key x) k Less (f 0 x (omega arith)) in
      (rw (ap is_gt q) (rw add-one (ap suc r.0)), l, ap (λ b. cond b (Some x) (get key cmp k xs)) (ap is_eq q) ∙ r.2)

  -- what std's binary search answers
  pub sought : (k : K) (xs : List X) (r : Result ℕ ℕ) → Ascends key cmp xs → IsSearchInRange r (length xs) → IsBinarySearchResult (λ x. cmp (key x) k) xs r → Sought key cmp k xs r
  sought k [] (Ok i) a l h = absurd (omega arith)
  sought k (x ∷ xs) (Ok i) a l h = at_item k (x ∷ xs) i x a l (h x)
  sought k xs (Err i) a l h = let p = h (rises k xs a) in at_gap k xs i l (λ j d m. p.0 j d (omega arith) m) (λ j d m n. p.1 j d m n) a

  -- a key that is above all of them would stand at the end
  pub at_end : (k : K) (xs : List X) → Ascends key cmp xs → ((d : X) → 0 < length xs → cmp (key (get_or xs (length xs - 1) d)) k ≡ Less) → Sought key cmp k xs (Err (length xs))
  at_end k xs a h = at_gap k xs (length xs) (omega arith) (λ j d m. none_below _ (let r = rises k xs a j (length xs - 1) d (omega arith) (omega arith) in let l = ap ordering_index (h d (omega arith)) in omega arith)) (λ j d m n. absurd (omega arith)) a

-- a change is put where its key is found
module _ {W K : Type 0} (named : W → K) (cmp : K → K → Ordering) (o : Exact cmp) where
  pub sought_replaces : (xs : List W) (w : W) (i : ℕ) → Ascends named cmp xs → Sought named cmp (named w) xs (Ok i) → merge named cmp xs (w ∷ []) ≡ slice_set xs i w
  sought_replaces xs w i a s = go (slice_get xs i) refl
    where
      go : (r : Option W) → slice_get xs i ≡ r → merge named cmp xs (w ∷ []) ≡ slice_set xs i w
      go None e = absurd (some_within xs i s.1 e)
      go (Some x) e = one_replaces named cmp o xs w x i a s.0 e (subst (λ j. cmp (named w) j ≡ Equal) (get_key named cmp o (named w) xs x (s.2 ∙ e)) (same o (named w)))

  pub sought_adds : (xs : List W) (w : W) (i : ℕ) → Ascends named cmp xs → Sought named cmp (named w) xs (Err i) → merge named cmp xs (w ∷ []) ≡ insert xs i w
  sought_adds xs w i a s = one_added named cmp o xs w i a s.0 s.2
