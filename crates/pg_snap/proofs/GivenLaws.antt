-- What items give, where changes are put on the items: the same as where the changes, so read, are put on what the items give.
use Rattle.std.proofs.Common.{ℕ, suc, ◌≡◌, ◌≤◌, ◌+◌, List, [], ◌∷◌, length, Bool, true, false, cond, is_some, refl, ap, sym, subst, ◌∙◌, arith, inl, inr}
use Rattle.std.specs.Prelude.{not}
use Rattle.std.proofs.lemmas.Option.{none-some}
use Rattle.std.specs.declared.option.Option.{Option}
use Rattle.std.specs.declared.option.Option.TheVariants.{Some, None}
use Rattle.std.specs.declared.cmp.Ordering.{Ordering}
use Rattle.std.specs.declared.cmp.Ordering.TheVariants.{Less, Equal, Greater}
use Rattle.std.specs.Ordering.{is_eq}
use Rattle.std.specs.List.{filter, filter_map, cons_option}
use Rattle.pg_keyed.specs.Lists.{each_cons}
use Rattle.pg_keyed.specs.Keyed.{Above, Ascends, Fits, get, is_named, over, put, weave, weave_from}
use Rattle.pg_keyed.specs.Orders.{Exact}
use Rattle.pg_keyed.specs.Ranks.{above_none}
use Rattle.pg_keyed.specs.Reads.{alike, get_here, get_there, here_or, filter_ascends, get_filter}
use Rattle.pg_keyed.specs.Weaves.{weave_ascends, weave_reads}
use Rattle.pg_keyed.specs.Puts.{put_reads, put_rises, named_is, own_fits}

abbrev pub through : {X Y : Type 0} → (X → Option Y) → Option X → Option Y
through f None = None
through f (Some x) = f x

module _ {X Y K : Type 0} (key : X → K) (key' : Y → K) (cmp : K → K → Ordering) (o : Exact cmp) (f : X → Option Y) (same : (x : X) (y : Y) → f x ≡ Some y → key' y ≡ key x) where
  given_above : (k : K) (xs : List X) → Above key cmp k xs → Above key' cmp k (filter_map f xs)
  given_above k [] a = tt
  given_above k (x ∷ xs) a = each_cons (λ y. cmp k (key' y) ≡ Less) (f x) (filter_map f xs) (λ y e. ap (cmp k) (same x y e) ∙ a.0) (given_above k xs a.1)

  pub given_ascends : (xs : List X) → Ascends key cmp xs → Ascends key' cmp (filter_map f xs)
  given_ascends [] a = tt
  given_ascends (x ∷ xs) a = go (f x) refl (given_ascends xs a.1)
    where
      go : (r : Option Y) → f x ≡ r → Ascends key' cmp (filter_map f xs) → Ascends key' cmp (cons_option r (filter_map f xs))
      go None e h = h
      go (Some y) e h = (subst (λ k. Above key' cmp k (filter_map f xs)) (sym (same x y e)) (given_above (key x) xs a.0), h)

  pub given_reads : (k : K) (xs : List X) → Ascends key cmp xs → get key' cmp k (filter_map f xs) ≡ through f (get key cmp k xs)
  given_reads k [] a = refl
  given_reads k (x ∷ xs) a = go (f x) refl (given_reads k xs a.1)
    where
      here : k ≡ key x → through f (get key cmp k (x ∷ xs)) ≡ f x
      here q = ap (λ j. through f (get key cmp j (x ∷ xs))) q ∙ ap (through f) (get_here key cmp o x xs)

      go : (r : Option Y) → f x ≡ r → get key' cmp k (filter_map f xs) ≡ through f (get key cmp k xs) → get key' cmp k (cons_option r (filter_map f xs)) ≡ through f (get key cmp k (x ∷ xs))
      go None e h = elim (here_or key cmp o k x) [
        | inl q ↦ h ∙ ap (through f) (ap (λ j. get key cmp j xs) q ∙ above_none key cmp o (key x) xs a.0) ∙ sym (here q ∙ e)
        | inr n ↦ h ∙ ap (through f) (sym (get_there key cmp o k x xs n))
      ]
      go (Some y) e h = elim (here_or key cmp o k x) [
        | inl q ↦ ap (λ j. get key' cmp j (y ∷ filter_map f xs)) (q ∙ sym (same x y e)) ∙ get_here key' cmp o y (filter_map f xs) ∙ sym (here q ∙ e)
        | inr n ↦ get_there key' cmp o k y (filter_map f xs) (ap (λ j. is_eq (cmp k j)) (same x y e) ∙ n) ∙ h ∙ ap (through f) (sym (get_there key cmp o k x xs n))
      ]

module _ {X Y W K : Type 0} (key : X → K) (key' : Y → K) (named : W → K) (row : W → Option X) (cmp : K → K → Ordering) (o : Exact cmp) (f : X → Option Y)
    (fits : (w : W) (x : X) → row w ≡ Some x → key x ≡ named w) (same : (x : X) (y : Y) → f x ≡ Some y → key' y ≡ key x) where
  abbrev pub gives : W → Option Y
  gives w = through f (row w)

  gives_fit : (w : W) (y : Y) → gives w ≡ Some y → key' y ≡ named w
  gives_fit w y e = go (row w) refl e
    where
      go : (r : Option X) → row w ≡ r → through f r ≡ Some y → key' y ≡ named w
      go None q h = absurd (none-some y h)
      go (Some x) q h = same x y h ∙ fits w x q

  all_fit : (ws : List W) → Fits key named row cmp ws
  all_fit [] = tt
  all_fit (w ∷ ws) = (fits w, all_fit ws)

  all_give : (ws : List W) → Fits key' named gives cmp ws
  all_give [] = tt
  all_give (w ∷ ws) = (gives_fit w, all_give ws)

  pub put_given : (xs : List X) (ws : List W) → Ascends key cmp xs → Ascends named cmp ws → filter_map f (put key named row cmp xs ws) ≡ put key' named gives cmp (filter_map f xs) ws
  put_given xs ws a b =
      let rises = put_rises key named row cmp o xs ws a in
      let given = given_ascends key key' cmp o f same xs a in
      alike key' cmp o _ _ (given_ascends key key' cmp o f same _ rises) (put_rises key' named gives cmp o (filter_map f xs) ws given)
      (λ k. given_reads key key' cmp o f same k _ rises
      ∙ ap (through f) (put_reads key named row cmp o k xs ws (all_fit ws) a b)
      ∙ both (get named cmp k ws) (get key cmp k xs)
      ∙ ap (over gives (get named cmp k ws)) (sym (given_reads key key' cmp o f same k xs a))
      ∙ sym (put_reads key' named gives cmp o k (filter_map f xs) ws (all_give ws) given b))
    where
      both : (m : Option W) (q : Option X) → through f (over row m q) ≡ over gives m (through f q)
      both None q = refl
      both (Some w) q = refl

  -- a walk over those that no change names and those that the changes give
  pub woven_put : (ys : List Y) (ws : List W) → Ascends key' cmp ys → Ascends named cmp ws
      → weave key' key' (λ (y : Y). Some y) cmp (filter (λ y. not (is_named named cmp (key' y) ws)) ys) (filter_map gives ws) ≡ put key' named gives cmp ys ws
  woven_put ys ws a b =
      let news = given_ascends named key' cmp o gives gives_fit ws b in
      let kept = filter_ascends key' cmp o (λ y. not (is_named named cmp (key' y) ws)) ys a in
      alike key' cmp o _ _ (weave_ascends key' key' (λ (y : Y). Some y) cmp o _ _ (own_fits key' cmp o (filter_map gives ws)) kept news) (put_rises key' named gives cmp o ys ws a)
      (λ k. weave_reads key' key' (λ (y : Y). Some y) cmp o k _ _ (own_fits key' cmp o (filter_map gives ws)) kept news
      ∙ (λ i. over (λ (y : Y). Some y) (given_reads named key' cmp o gives gives_fit k ws b i) (get_filter key' cmp o (λ j. not (is_named named cmp j ws)) k ys i))
      ∙ ap (λ c. over (λ (y : Y). Some y) (through gives (get named cmp k ws)) (cond (not c) (get key' cmp k ys) None)) (named_is key' named gives cmp o k ws)
      ∙ read (get named cmp k ws) (get key' cmp k ys)
      ∙ sym (put_reads key' named gives cmp o k ys ws (all_give ws) a b))
    where
      itself : (r : Option Y) → over (λ (y : Y). Some y) r None ≡ r
      itself None = refl
      itself (Some y) = refl

      read : (m : Option W) (q : Option Y) → over (λ (y : Y). Some y) (through gives m) (cond (not (is_some m)) q None) ≡ over gives m q
      read None q = refl
      read (Some w) q = itself (gives w)

pub given_twice : {W X Y : Type 0} (row : W → Option X) (f : X → Option Y) (ws : List W) → filter_map f (filter_map row ws) ≡ filter_map (λ w. through f (row w)) ws
given_twice row f [] = refl
given_twice row f (w ∷ ws) = go (row w) (given_twice row f ws)
  where
    go : (r : Option _) → filter_map f (filter_map row ws) ≡ filter_map (λ v. through f (row v)) ws → filter_map f (cons_option r (filter_map row ws)) ≡ cons_option (through f r) (filter_map (λ v. through f (row v)) ws)
    go None h = h
    go (Some x) h = ap (cons_option (f x)) h

-- LENGTHS

cons_short : {X : Type 0} (r : Option X) (xs : List X) (n : ℕ) → length xs ≤ n → length (cons_option r xs) ≤ n + 1
cons_short None xs n h = omega (arith, h)
cons_short (Some x) xs n h = omega (arith, h)

pub given_short : {W X : Type 0} (row : W → Option X) (ws : List W) → length (filter_map row ws) ≤ length ws
given_short row [] = omega arith
given_short row (w ∷ ws) = let h = cons_short (row w) (filter_map row ws) (length ws) (given_short row ws) in omega (arith, h)

pub filter_short : {X : Type 0} (t : X → Bool) (xs : List X) → length (filter t xs) ≤ length xs
filter_short t [] = omega arith
filter_short t (x ∷ xs) = go (t x) (filter_short t xs)
  where
    go : (b : Bool) → length (filter t xs) ≤ length xs → length (cond b (x ∷ filter t xs) (filter t xs)) ≤ suc (length xs)
    go true h = omega (arith, h)
    go false h = omega (arith, h)

module _ {X W K : Type 0} (key : X → K) (named : W → K) (row : W → Option X) (cmp : K → K → Ordering) where
  pub weave_short : (xs : List X) (ws : List W) → length (weave key named row cmp xs ws) ≤ length xs + length ws
  weave_short [] ws = let h = given_short row ws in omega (arith, h)
  weave_short (x ∷ xs) ws = go (λ vs. weave_short xs vs) ws
    where
      step : (r : Ordering) (w : W) (ws : List W) → length (weave key named row cmp xs (w ∷ ws)) ≤ length xs + suc (length ws) → length (weave key named row cmp xs ws) ≤ length xs + length ws
          → length (weave_from key named row cmp x (weave key named row cmp xs) ws) ≤ suc (length xs) + length ws
          → length {A = X} (elim r [ Less ↦ x ∷ weave key named row cmp xs (w ∷ ws) | Equal ↦ cons_option (row w) (weave key named row cmp xs ws) | Greater ↦ cons_option (row w) (weave_from key named row cmp x (weave key named row cmp xs) ws) ]) ≤ suc (length xs) + suc (length ws)
      step Less w ws a b c = omega (arith, a)
      step Equal w ws a b c = let h = cons_short (row w) (weave key named row cmp xs ws) (length xs + length ws) b in omega (arith, h)
      step Greater w ws a b c = let h = cons_short (row w) (weave_from key named row cmp x (weave key named row cmp xs) ws) (suc (length xs) + length ws) c in omega (arith, h)

      go : ((vs : List W) → length (weave key named row cmp xs vs) ≤ length xs + length vs) → (ws : List W) → length (weave_from key named row cmp x (weave key named row cmp xs) ws) ≤ suc (length xs) + length ws
      go again [] = let h = again [] in omega (arith, h)
      go again (w ∷ ws) = step (cmp (key x) (named w)) w ws (again (w ∷ ws)) (again ws) (go again ws)
