-- The laws of `put`: what it reads, that it stays in order, that it is the walk over both lists, and that changes put
-- one after another are their merge.
use Rattle.std.proofs.Common.{ℕ, ◌≡◌, List, [], ◌∷◌, ◌++◌, Bool, true, false, cond, refl, ap, sym, subst, ◌∙◌, ◌⊎◌, inl, inr}
use Rattle.std.proofs.lemmas.Option.{same_Some}
use Rattle.std.specs.declared.option.Option.{Option}
use Rattle.std.specs.declared.option.Option.TheVariants.{Some, None}
use Rattle.std.specs.declared.cmp.Ordering.{Ordering}
use Rattle.std.specs.declared.cmp.Ordering.TheVariants.{Less, Equal, Greater}
use Rattle.std.specs.Ordering.{is_eq, is_lt, is_gt}
use Rattle.std.specs.List.{filter, filter_map, cons_option, insert}
use Rattle.std.specs.Prelude.{map, not, ◌||◌, slice_get, slice_set, is_some}
use Rattle.pg_keyed.specs.Lists.{each_map, each_append, each_filter, each_kept, each_given}
use Rattle.pg_keyed.specs.Keyed.{Above, Ascends, get, rank, add, add_all, is_named, over, put, weave, Fits, Each, merge, put_all, over_all, behead}
use Rattle.pg_keyed.specs.Orders.{Exact, same, turn, cases}
use Rattle.pg_keyed.specs.Ranks.{above_none, above_less}
use Rattle.pg_keyed.specs.Weaves.{weave_step, weave_ascends, weave_reads, weave_replaces, weave_adds}
use Rattle.pg_keyed.specs.Reads.{filter_ascends, join_ascends, get_filter}
pub use Rattle.pg_keyed.specs.Reads.{alike, get_here, get_there, here_or, get_key}

-- the first of two, where there is one
abbrev first_of : {X : Type 0} → Option X → Option X → Option X
first_of (Some x) r = Some x
first_of None r = r

first_none : {X : Type 0} (r : Option X) → first_of r None ≡ r
first_none (Some x) = refl
first_none None = refl

less_is : (r : Ordering) → is_lt r ≡ true → r ≡ Less
less_is Less h = refl
less_is Equal h = cc
less_is Greater h = cc

greater_is : (r : Ordering) → is_gt r ≡ true → r ≡ Greater
greater_is Less h = cc
greater_is Equal h = cc
greater_is Greater h = refl

-- one item more
module _ {X K : Type 0} (key : X → K) (cmp : K → K → Ordering) (o : Exact cmp) where
  get_append : (k : K) (xs ys : List X) → get key cmp k (xs ++ ys) ≡ first_of (get key cmp k xs) (get key cmp k ys)
  get_append k [] ys = refl
  get_append k (x ∷ xs) ys = go (is_eq (cmp k (key x))) (get_append k xs ys)
    where
      go : (b : Bool) → get key cmp k (xs ++ ys) ≡ first_of (get key cmp k xs) (get key cmp k ys) → cond b (Some x) (get key cmp k (xs ++ ys)) ≡ first_of (cond b (Some x) (get key cmp k xs)) (get key cmp k ys)
      go true h = refl
      go false h = h

  add_each : (Q : X → Type 0) (x : X) (xs : List X) → Q x → Each Q xs → Each Q (add key cmp x xs)
  add_each Q x xs q h = each_append Q _ _ (each_filter Q (λ y. is_lt (cmp (key y) (key x))) xs h) (q, each_filter Q (λ y. is_gt (cmp (key y) (key x))) xs h)

  pub add_ascends : (x : X) (xs : List X) → Ascends key cmp xs → Ascends key cmp (add key cmp x xs)
  add_ascends x xs a =
      let before = λ (y : X). is_lt (cmp (key y) (key x)) in
      let after = λ (y : X). is_gt (cmp (key y) (key x)) in
      join_ascends key cmp o (filter before xs) x (filter after xs) (filter_ascends key cmp o before xs a)
      (each_map (λ y. before y ≡ true) (λ y. cmp (key y) (key x) ≡ Less) (λ y e. less_is _ e) (filter before xs) (each_kept before xs))
      (each_map (λ y. after y ≡ true) (λ y. cmp (key x) (key y) ≡ Less) (λ y e. turn o (key y) (key x) Greater (greater_is _ e)) (filter after xs) (each_kept after xs))
      (filter_ascends key cmp o after xs a)

  pub add_reads : (k : K) (x : X) (xs : List X) → get key cmp k (add key cmp x xs) ≡ cond (is_eq (cmp k (key x))) (Some x) (get key cmp k xs)
  add_reads k x xs = get_append k before (x ∷ after) ∙ ap (λ m. first_of m (get key cmp k (x ∷ after))) (get_filter key cmp o (λ j. is_lt (cmp j (key x))) k xs) ∙ go (cmp k (key x)) refl
    where
      before : List X
      before = filter (λ y. is_lt (cmp (key y) (key x))) xs

      after : List X
      after = filter (λ y. is_gt (cmp (key y) (key x))) xs

      behind : get key cmp k after ≡ cond (is_gt (cmp k (key x))) (get key cmp k xs) None
      behind = get_filter key cmp o (λ j. is_gt (cmp j (key x))) k xs

      go : (r : Ordering) → cmp k (key x) ≡ r → first_of (cond (is_lt r) (get key cmp k xs) None) (cond (is_eq r) (Some x) (get key cmp k after)) ≡ cond (is_eq r) (Some x) (get key cmp k xs)
      go Less e = ap (first_of (get key cmp k xs)) (behind ∙ ap (λ r. cond (is_gt r) (get key cmp k xs) None) e) ∙ first_none (get key cmp k xs)
      go Equal e = refl
      go Greater e = behind ∙ ap (λ r. cond (is_gt r) (get key cmp k xs) None) e

  add_all_ascends : (xs ys : List X) → Ascends key cmp xs → Ascends key cmp (add_all key cmp xs ys)
  add_all_ascends xs [] a = a
  add_all_ascends xs (y ∷ ys) a = add_all_ascends (add key cmp y xs) ys (add_ascends y xs a)

  add_all_each : (Q : X → Type 0) (xs ys : List X) → Each Q xs → Each Q ys → Each Q (add_all key cmp xs ys)
  add_all_each Q xs [] h k = h
  add_all_each Q xs (y ∷ ys) h k = add_all_each Q (add key cmp y xs) ys (add_each Q y xs k.0 h) k.1

-- the laws of `put`
module _ {X W K : Type 0} (key : X → K) (named : W → K) (row : W → Option X) (cmp : K → K → Ordering) (o : Exact cmp) where
  abbrev P : List X → List W → List X
  P xs ws = put key named row cmp xs ws

  abbrev G : K → List X → Option X
  G k xs = get key cmp k xs

  abbrev N : K → List W → Option W
  N k ws = get named cmp k ws

  -- what holds of each item and of each that a change gives
  pub put_each : (Q : X → Type 0) (xs : List X) (ws : List W) → Each Q xs → Each (λ w. (x : X) → row w ≡ Some x → Q x) ws → Each Q (P xs ws)
  put_each Q xs ws a b = add_all_each key cmp o Q (filter (λ x. not (is_named named cmp (key x) ws)) xs) (filter_map row ws)
      (each_filter Q (λ x. not (is_named named cmp (key x) ws)) xs a) (each_given Q row ws b)

  given_above : (k : K) (ws : List W) → Fits key named row cmp ws → Above named cmp k ws → Each (λ w. (x : X) → row w ≡ Some x → cmp k (key x) ≡ Less) ws
  given_above k [] f a = tt
  given_above k (w ∷ ws) f a = ((λ x e. ap (cmp k) (f.0 x e) ∙ a.0), given_above k ws f.1 a.1)

  pub put_above : (k : K) (xs : List X) (ws : List W) → Fits key named row cmp ws → Above key cmp k xs → Above named cmp k ws → Above key cmp k (P xs ws)
  put_above k xs ws f a b = put_each (λ x. cmp k (key x) ≡ Less) xs ws a (given_above k ws f b)

  pub put_nothing : (xs : List X) → P xs [] ≡ xs
  put_nothing [] = refl
  put_nothing (x ∷ xs) = ap (λ ys. x ∷ ys) (put_nothing xs)

  -- in order whatever the changes are
  pub put_rises : (xs : List X) (ws : List W) → Ascends key cmp xs → Ascends key cmp (P xs ws)
  put_rises xs ws a = add_all_ascends key cmp o (filter (λ x. not (is_named named cmp (key x) ws)) xs) (filter_map row ws) (filter_ascends key cmp o (λ x. not (is_named named cmp (key x) ws)) xs a)

  pub put_ascends : (xs : List X) (ws : List W) → Fits key named row cmp ws → Ascends key cmp xs → Ascends named cmp ws → Ascends key cmp (P xs ws)
  put_ascends xs ws f a b = put_rises xs ws a

  -- a key is named where there is a change of it
  pub named_is : (k : K) (ws : List W) → is_named named cmp k ws ≡ is_some (N k ws)
  named_is k [] = refl
  named_is k (w ∷ ws) = go (is_eq (cmp k (named w))) (named_is k ws)
    where
      go : (b : Bool) → is_named named cmp k ws ≡ is_some (N k ws) → (b || is_named named cmp k ws) ≡ is_some (cond b (Some w) (N k ws))
      go true h = refl
      go false h = h

  -- what is read where the items that changes give are added
  added_reads : (k : K) (xs : List X) (ws : List W) → Fits key named row cmp ws → Ascends named cmp ws → G k (add_all key cmp xs (filter_map row ws)) ≡ first_of (over row (N k ws) None) (G k xs)
  added_reads k xs [] f b = refl
  added_reads k xs (w ∷ ws) f b = go (row w) refl f.0 (λ ys. added_reads k ys ws f.1 b.1)
    where
      rest : List X
      rest = filter_map row ws

      missed : k ≡ named w → N k ws ≡ None
      missed e = ap (λ j. N j ws) e ∙ above_none named cmp o (named w) ws b.0

      here : k ≡ named w → N k (w ∷ ws) ≡ Some w
      here e = ap (λ j. N j (w ∷ ws)) e ∙ get_here named cmp o w ws

      go : (r : Option X) → row w ≡ r → ((x : X) → row w ≡ Some x → key x ≡ named w) → ((ys : List X) → G k (add_all key cmp ys rest) ≡ first_of (over row (N k ws) None) (G k ys))
          → G k (add_all key cmp xs (cons_option r rest)) ≡ first_of (over row (N k (w ∷ ws)) None) (G k xs)
      go None e g again = elim (here_or named cmp o k w) [
        | inl q ↦ again xs ∙ ap (λ m. first_of (over row m None) (G k xs)) (missed q) ∙ sym (ap (λ m. first_of m (G k xs)) (ap (λ m. over row m None) (here q) ∙ e))
        | inr n ↦ again xs ∙ ap (λ m. first_of (over row m None) (G k xs)) (sym (get_there named cmp o k w ws n))
      ]
      go (Some x) e g again =
          let at : is_eq (cmp k (key x)) ≡ is_eq (cmp k (named w)) = ap (λ j. is_eq (cmp k j)) (g x e) in
          again (add key cmp x xs) ∙ ap (first_of (over row (N k ws) None)) (add_reads key cmp o k x xs) ∙ elim (here_or named cmp o k w) [
            | inl q ↦ ap (λ m. first_of (over row m None) (cond (is_eq (cmp k (key x))) (Some x) (G k xs))) (missed q)
                ∙ ap (λ c. cond c (Some x) (G k xs)) (at ∙ ap is_eq (subst (λ j. cmp k j ≡ Equal) q (same o k)))
                ∙ sym (ap (λ m. first_of m (G k xs)) (ap (λ m. over row m None) (here q) ∙ e))
            | inr n ↦ ap (λ c. first_of (over row (N k ws) None) (cond c (Some x) (G k xs))) (at ∙ n)
                ∙ ap (λ m. first_of (over row m None) (G k xs)) (sym (get_there named cmp o k w ws n))
          ]

  -- a key reads its change's item, or else what stood there
  pub put_reads : (k : K) (xs : List X) (ws : List W) → Fits key named row cmp ws → Ascends key cmp xs → Ascends named cmp ws → G k (P xs ws) ≡ over row (N k ws) (G k xs)
  put_reads k xs ws f a b =
      added_reads k (filter (λ x. not (is_named named cmp (key x) ws)) xs) ws f b
      ∙ ap (first_of (over row (N k ws) None)) (get_filter key cmp o (λ j. not (is_named named cmp j ws)) k xs ∙ ap (λ c. cond (not c) (G k xs) None) (named_is k ws))
      ∙ go (N k ws)
    where
      go : (m : Option W) → first_of (over row m None) (cond (not (is_some m)) (G k xs) None) ≡ over row m (G k xs)
      go (Some w) = first_none (row w)
      go None = refl

  -- `put` is the walk over both lists
  pub put_weave : (xs : List X) (ws : List W) → Fits key named row cmp ws → Ascends key cmp xs → Ascends named cmp ws → P xs ws ≡ weave key named row cmp xs ws
  put_weave xs ws f a b = alike key cmp o (P xs ws) (weave key named row cmp xs ws) (put_ascends xs ws f a b) (weave_ascends key named row cmp o xs ws f a b)
      (λ k. put_reads k xs ws f a b ∙ sym (weave_reads key named row cmp o k xs ws f a b))

  -- one step of the walk, by how the two first keys compare
  abbrev step : Ordering → X → List X → W → List W → List X
  step r x xs w ws = elim r [ Less ↦ x ∷ P xs (w ∷ ws) | Equal ↦ cons_option (row w) (P xs ws) | Greater ↦ cons_option (row w) (P (x ∷ xs) ws) ]

  pub put_step : (r : Ordering) (x : X) (xs : List X) (w : W) (ws : List W) → Fits key named row cmp (w ∷ ws) → Ascends key cmp (x ∷ xs) → Ascends named cmp (w ∷ ws) → cmp (key x) (named w) ≡ r → P (x ∷ xs) (w ∷ ws) ≡ step r x xs w ws
  put_step r x xs w ws f a b e = put_weave (x ∷ xs) (w ∷ ws) f a b ∙ weave_step key named row cmp o r x xs w ws e ∙ go r
    where
      go : (q : Ordering) → elim q [ Less ↦ x ∷ weave key named row cmp xs (w ∷ ws) | Equal ↦ cons_option (row w) (weave key named row cmp xs ws) | Greater ↦ cons_option (row w) (weave key named row cmp (x ∷ xs) ws) ] ≡ step q x xs w ws
      go Less = ap (λ ys. x ∷ ys) (sym (put_weave xs (w ∷ ws) f a.1 b))
      go Equal = ap (cons_option (row w)) (sym (put_weave xs ws f.1 a.1 b.1))
      go Greater = ap (cons_option (row w)) (sym (put_weave (x ∷ xs) ws f.1 a b.1))

  -- no items: those that the changes give
  pub put_on_nothing : (ws : List W) → Fits key named row cmp ws → Ascends named cmp ws → P [] ws ≡ filter_map row ws
  put_on_nothing ws f b = put_weave [] ws f tt b

  fits_filter : (t : W → Bool) (ws : List W) → Fits key named row cmp ws → Fits key named row cmp (filter t ws)
  fits_filter t ws f = each_filter (λ w. (x : X) → row w ≡ Some x → key x ≡ named w) t ws f

  -- filtering by the key, before or after
  pub put_filter : (r : K → Bool) (xs : List X) (ws : List W) → Fits key named row cmp ws → Ascends key cmp xs → Ascends named cmp ws
      → filter (λ x. r (key x)) (P xs ws) ≡ P (filter (λ x. r (key x)) xs) (filter (λ w. r (named w)) ws)
  put_filter r xs ws f a b =
      let fw = fits_filter (λ w. r (named w)) ws f in
      let ax = filter_ascends key cmp o (λ x. r (key x)) xs a in
      let bw = filter_ascends named cmp o (λ w. r (named w)) ws b in
      alike key cmp o _ _ (filter_ascends key cmp o (λ x. r (key x)) (P xs ws) (put_ascends xs ws f a b)) (put_ascends _ _ fw ax bw)
      (λ k. get_filter key cmp o r k (P xs ws) ∙ ap (λ m. cond (r k) m None) (put_reads k xs ws f a b)
      ∙ both (r k) (N k ws) (G k xs)
      ∙ sym (put_reads k (filter (λ x. r (key x)) xs) (filter (λ w. r (named w)) ws) fw ax bw
      ∙ (λ i. over row (get_filter named cmp o r k ws i) (get_filter key cmp o r k xs i))))
    where
      both : (c : Bool) (m : Option W) (q : Option X) → cond c (over row m q) None ≡ over row (cond c m None) (cond c q None)
      both true m q = refl
      both false m q = refl

-- the merge of two lists of changes
module _ {W K : Type 0} (named : W → K) (cmp : K → K → Ordering) (o : Exact cmp) where
  pub own_fits : (ws : List W) → Fits named named (λ (w : W). Some w) cmp ws
  own_fits [] = tt
  own_fits (w ∷ ws) = (λ x e. ap named (sym (same_Some w x e)), own_fits ws)

  pub merge_ascends : (a b : List W) → Ascends named cmp a → Ascends named cmp b → Ascends named cmp (merge named cmp a b)
  merge_ascends a b h k = put_ascends named named (λ (w : W). Some w) cmp o a b (own_fits b) h k

  each_own : (Q : W → Type 0) (ws : List W) → Each Q ws → Each (λ w. (x : W) → Some w ≡ Some x → Q x) ws
  each_own Q [] h = tt
  each_own Q (w ∷ ws) h = (λ x e. subst Q (same_Some w x e) h.0, each_own Q ws h.1)

  pub merge_each : (Q : W → Type 0) (a b : List W) → Each Q a → Each Q b → Each Q (merge named cmp a b)
  merge_each Q a b h k = put_each named named (λ (w : W). Some w) cmp o Q a b h (each_own Q b k)

  -- where both have a change of a key, the newer's
  abbrev pub newer : Option W → Option W → Option W
  newer a b = over (λ (w : W). Some w) a b

  pub merge_reads : (k : K) (a b : List W) → Ascends named cmp a → Ascends named cmp b → get named cmp k (merge named cmp a b) ≡ newer (get named cmp k b) (get named cmp k a)
  merge_reads k a b h j = put_reads named named (λ (w : W). Some w) cmp o k a b (own_fits b) h j

module _ {X W K : Type 0} (key : X → K) (named : W → K) (row : W → Option X) (cmp : K → K → Ordering) (o : Exact cmp) where
  -- changes put after changes are their merge put at once
  pub put_put : (xs : List X) (a b : List W) → Fits key named row cmp a → Fits key named row cmp b → Ascends key cmp xs → Ascends named cmp a → Ascends named cmp b
      → put key named row cmp (put key named row cmp xs a) b ≡ put key named row cmp xs (merge named cmp a b)
  put_put xs a b f g s h k =
      let m = merge_ascends named cmp o a b h k in
      let fm = merge_each named cmp o (λ w. (x : X) → row w ≡ Some x → key x ≡ named w) a b f g in
      let first = put_ascends key named row cmp o xs a f s h in
      alike key cmp o _ _ (put_ascends key named row cmp o _ b g first k) (put_ascends key named row cmp o xs _ fm s m)
      (λ j. put_reads key named row cmp o j _ b g first k
      ∙ ap (over row (get named cmp j b)) (put_reads key named row cmp o j xs a f s h)
      ∙ both (get named cmp j b) (get named cmp j a) (get key cmp j xs)
      ∙ sym (put_reads key named row cmp o j xs _ fm s m ∙ ap (λ n. over row n (get key cmp j xs)) (merge_reads named cmp o j a b h k)))
    where
      both : (p q : Option W) (r : Option X) → over row p (over row q r) ≡ over row (over (λ (w : W). Some w) p q) r
      both (Some w) q r = refl
      both None q r = refl

  -- what is read of several lists of changes
  abbrev pub AllAscend : List (List W) → Type 0
  AllAscend runs = Each (λ ws. Fits key named row cmp ws × Ascends named cmp ws) runs

  pub all_ascends : (xs : List X) (runs : List (List W)) → Ascends key cmp xs → AllAscend runs → Ascends key cmp (put_all key named row cmp xs runs)
  all_ascends xs [] s a = s
  all_ascends xs (ws ∷ more) s a = all_ascends (put key named row cmp xs ws) more (put_ascends key named row cmp o xs ws a.0.0 s a.0.1) a.1

  pub all_reads : (k : K) (xs : List X) (runs : List (List W)) → Ascends key cmp xs → AllAscend runs
      → get key cmp k (put_all key named row cmp xs runs) ≡ over_all row (get key cmp k xs) (map (get named cmp k) runs)
  all_reads k xs [] s a = refl
  all_reads k xs (ws ∷ more) s a =
      all_reads k (put key named row cmp xs ws) more (put_ascends key named row cmp o xs ws a.0.0 s a.0.1) a.1
      ∙ ap (λ m. over_all row m (map (get named cmp k) more)) (put_reads key named row cmp o k xs ws a.0.0 s a.0.1)

-- one change put on a list of changes
module _ {W K : Type 0} (named : W → K) (cmp : K → K → Ordering) (o : Exact cmp) where
  pub one_woven : (xs : List W) (w : W) → Ascends named cmp xs → merge named cmp xs (w ∷ []) ≡ weave named named (λ (v : W). Some v) cmp xs (w ∷ [])
  one_woven xs w a = put_weave named named (λ (v : W). Some v) cmp o xs (w ∷ []) (own_fits named cmp o (w ∷ [])) a (tt, tt)

  -- it takes the place of one of the same key
  pub one_replaces : (xs : List W) (w x : W) (i : ℕ) → Ascends named cmp xs → i ≡ rank named cmp (named w) xs → slice_get xs i ≡ Some x → cmp (named w) (named x) ≡ Equal → merge named cmp xs (w ∷ []) ≡ slice_set xs i w
  one_replaces xs w x i a r s e = one_woven xs w a ∙ weave_replaces named cmp o xs w x i r s e

  -- or else it comes in at its place
  pub one_added : (xs : List W) (w : W) (i : ℕ) → Ascends named cmp xs → i ≡ rank named cmp (named w) xs → get named cmp (named w) xs ≡ None → merge named cmp xs (w ∷ []) ≡ insert xs i w
  one_added xs w i a r n = one_woven xs w a ∙ weave_adds named cmp o xs w i r n

-- one step of a walk over many lists: the change of the least key, and the lists without it
module _ {X K : Type 0} (key : X → K) (cmp : K → K → Ordering) (o : Exact cmp) where
  -- no item before k
  abbrev pub From : K → List X → Type 0
  From k [] = Unit {0}
  From k (x ∷ xs) = is_gt (cmp k (key x)) ≡ false

  -- the first item, if it has the key
  abbrev pub head_of : K → List X → Option X
  head_of k [] = None
  head_of k (x ∷ xs) = cond (is_eq (cmp k (key x))) (Some x) None

  not_less : (k : K) (x : X) → is_gt (cmp k (key x)) ≡ false → (cmp k (key x) ≡ Less) ⊎ (cmp k (key x) ≡ Equal)
  not_less k x h = elim (cases (cmp k (key x))) [ inl le ↦ le | inr g ↦ absurd (go (sym (ap is_gt g) ∙ h)) ]
    where
      go : true ≡ false → ⊥
      go e = cc

  pub behead_above : (k : K) (xs : List X) → From k xs → Ascends key cmp xs → Above key cmp k (behead key cmp k xs)
  behead_above k [] f a = tt
  behead_above k (x ∷ xs) f a = elim (not_less k x f) [
    | inl l ↦ subst (λ b. Above key cmp k (cond b xs (x ∷ xs))) (sym (ap is_eq l)) (l, above_less key cmp o k (key x) xs l a.0)
    | inr e ↦ subst (λ b. Above key cmp k (cond b xs (x ∷ xs))) (sym (ap is_eq e)) (subst (λ j. Above key cmp j xs) (sym (o.exact k (key x) e)) a.0)
  ]

  pub behead_ascends : (k : K) (xs : List X) → Ascends key cmp xs → Ascends key cmp (behead key cmp k xs)
  behead_ascends k [] a = tt
  behead_ascends k (x ∷ xs) a = elim (is_eq (cmp k (key x))) as (λ b. Ascends key cmp (cond b xs (x ∷ xs))) [ true ↦ a.1 | false ↦ a ]

  pub behead_reads : (q k : K) (xs : List X) → is_eq (cmp q k) ≡ false → get key cmp q (behead key cmp k xs) ≡ get key cmp q xs
  behead_reads q k [] n = refl
  behead_reads q k (x ∷ xs) n = elim (here_or key cmp o k x) [
    | inl e ↦ ap (λ b. get key cmp q (cond b xs (x ∷ xs))) (ap is_eq (subst (λ j. cmp k j ≡ Equal) e (same o k))) ∙ sym (get_there key cmp o q x xs (subst (λ j. is_eq (cmp q j) ≡ false) e n))
    | inr m ↦ ap (λ b. get key cmp q (cond b xs (x ∷ xs))) m
  ]

  pub head_reads : (k : K) (xs : List X) → From k xs → Ascends key cmp xs → get key cmp k xs ≡ head_of k xs
  head_reads k [] f a = refl
  head_reads k (x ∷ xs) f a = elim (not_less k x f) [
    | inl l ↦ get_there key cmp o k x xs (ap is_eq l) ∙ above_none key cmp o k xs (above_less key cmp o k (key x) xs l a.0) ∙ sym (ap (λ b. cond b (Some x) None) (ap is_eq l))
    | inr e ↦ ap (λ b. cond b (Some x) (get key cmp k xs)) (ap is_eq e) ∙ sym (ap (λ b. cond b (Some x) None) (ap is_eq e))
  ]

module _ {X W K : Type 0} (key : X → K) (named : W → K) (row : W → Option X) (cmp : K → K → Ordering) (o : Exact cmp) where
  abbrev pub AllFrom : K → List (List W) → Type 0
  AllFrom k runs = Each (λ ws. From named cmp o k ws) runs

  fits_behead : (k : K) (ws : List W) → Fits key named row cmp ws → Fits key named row cmp (behead named cmp k ws)
  fits_behead k [] f = tt
  fits_behead k (w ∷ ws) f = elim (is_eq (cmp k (named w))) as (λ b. Fits key named row cmp (cond b ws (w ∷ ws))) [ true ↦ f.1 | false ↦ f ]

  all_behead : (k : K) (runs : List (List W)) → AllAscend key named row cmp o runs → AllAscend key named row cmp o (map (behead named cmp k) runs)
  all_behead k [] a = tt
  all_behead k (ws ∷ more) a = ((fits_behead k ws a.0.0, behead_ascends named cmp o k ws a.0.1), all_behead k more a.1)

  all_above : (k : K) (xs : List X) (runs : List (List W)) → Above key cmp k xs → AllFrom k runs → AllAscend key named row cmp o runs → Above key cmp k (put_all key named row cmp xs (map (behead named cmp k) runs))
  all_above k xs [] h f a = h
  all_above k xs (ws ∷ more) h f a = all_above k (put key named row cmp xs (behead named cmp k ws)) more (put_above key named row cmp o k xs (behead named cmp k ws) (fits_behead k ws a.0.0) h (behead_above named cmp o k ws f.0 a.0.1)) f.1 a.1

  same_reads : (q k : K) (runs : List (List W)) → is_eq (cmp q k) ≡ false → map (get named cmp q) (map (behead named cmp k) runs) ≡ map (get named cmp q) runs
  same_reads q k [] n = refl
  same_reads q k (ws ∷ more) n = let e = behead_reads named cmp o q k ws n in let r = same_reads q k more n in λ i. e i ∷ r i

  pub behead_all : (k : K) (xs : List X) (runs : List (List W)) → From key cmp o k xs → AllFrom k runs → Ascends key cmp xs → AllAscend key named row cmp o runs
      → put_all key named row cmp xs runs ≡ cons_option (get key cmp k (put_all key named row cmp xs runs)) (put_all key named row cmp (behead key cmp k xs) (map (behead named cmp k) runs))
  behead_all k xs runs f g s a = go (get key cmp k all) refl
    where
      all : List X
      all = put_all key named row cmp xs runs

      rest : List X
      rest = put_all key named row cmp (behead key cmp k xs) (map (behead named cmp k) runs)

      above : Above key cmp k rest
      above = all_above k (behead key cmp k xs) runs (behead_above key cmp o k xs f s) g a

      rises : Ascends key cmp rest
      rises = all_ascends key named row cmp o (behead key cmp k xs) (map (behead named cmp k) runs) (behead_ascends key cmp o k xs s) (all_behead k runs a)

      elsewhere : (q : K) → is_eq (cmp q k) ≡ false → get key cmp q all ≡ get key cmp q rest
      elsewhere q n =
          all_reads key named row cmp o q xs runs s a
          ∙ (λ i. over_all row (sym (behead_reads key cmp o q k xs n) i) (sym (same_reads q k runs n) i))
          ∙ sym (all_reads key named row cmp o q (behead key cmp k xs) (map (behead named cmp k) runs) (behead_ascends key cmp o k xs s) (all_behead k runs a))

      known : (q : K) → (q ≡ k) ⊎ (is_eq (cmp q k) ≡ false)
      known q = here_or (λ (j : K). j) cmp o q k

      go : (r : Option X) → get key cmp k all ≡ r → all ≡ cons_option r rest
      go None e = alike key cmp o all rest (all_ascends key named row cmp o xs runs s a) rises
          (λ q. elim (known q) [ inl p ↦ ap (λ j. get key cmp j all) p ∙ e ∙ sym (above_none key cmp o k rest above) ∙ ap (λ j. get key cmp j rest) (sym p) | inr n ↦ elsewhere q n ])
      go (Some x) e =
          let kx = get_key key cmp o k all x e in
          alike key cmp o all (x ∷ rest) (all_ascends key named row cmp o xs runs s a) (subst (λ j. Above key cmp j rest) kx above, rises)
          (λ q. elim (known q) [
            | inl p ↦ ap (λ j. get key cmp j all) p ∙ e ∙ sym (get_here key cmp o x rest) ∙ ap (λ j. get key cmp j (x ∷ rest)) (sym (p ∙ kx))
            | inr n ↦ elsewhere q n ∙ sym (get_there key cmp o q x rest (subst (λ j. is_eq (cmp q j) ≡ false) kx n))
          ])
