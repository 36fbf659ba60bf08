-- The walk over items and changes, each in key order: what its result reads, and that it is in order.
use Rattle.std.proofs.Common.{ℕ, suc, ◌≡◌, ◌+◌, List, [], ◌∷◌, false, cond, refl, ap, sym, subst, ◌∙◌, inl, inr, add-one}
use Rattle.std.proofs.lemmas.Option.{same_Some, none-some}
use Rattle.std.specs.declared.option.Option.{Option}
use Rattle.std.specs.declared.option.Option.TheVariants.{Some, None}
use Rattle.std.specs.declared.cmp.Ordering.{Ordering}
use Rattle.std.specs.declared.cmp.Ordering.TheVariants.{Less, Equal, Greater}
use Rattle.std.specs.Ordering.{is_eq, is_gt}
use Rattle.std.specs.List.{filter_map, cons_option, insert}
use Rattle.std.specs.Prelude.{slice_get, slice_set}
use Rattle.pg_keyed.specs.Keyed.{Above, Ascends, get, rank, over, weave, weave_from, Fits}
use Rattle.pg_keyed.specs.Orders.{Exact, same, turn, cases}
use Rattle.pg_keyed.specs.Ranks.{above_none, above_less}
use Rattle.pg_keyed.specs.Reads.{get_here, get_there, here_or}

-- what the walk gives
module _ {X W K : Type 0} (key : X → K) (named : W → K) (row : W → Option X) (cmp : K → K → Ordering) (o : Exact cmp) where
  abbrev P : List X → List W → List X
  P xs ws = weave key named row cmp xs ws

  abbrev G : K → List X → Option X
  G k xs = get key cmp k xs

  abbrev N : K → List W → Option W
  N k ws = get named cmp k ws

  -- an item that a change gives, before items above the change's key
  cons_above : (k : K) (w : W) (xs : List X) → ((x : X) → row w ≡ Some x → key x ≡ named w) → cmp k (named w) ≡ Less → Above key cmp k xs → Above key cmp k (cons_option (row w) xs)
  cons_above k w xs f l a = go (row w) f
    where
      go : (r : Option X) → ((x : X) → r ≡ Some x → key x ≡ named w) → Above key cmp k (cons_option r xs)
      go None g = a
      go (Some x) g = (ap (cmp k) (g x refl) ∙ l, a)

  cons_ascends : (w : W) (xs : List X) → ((x : X) → row w ≡ Some x → key x ≡ named w) → Above key cmp (named w) xs → Ascends key cmp xs → Ascends key cmp (cons_option (row w) xs)
  cons_ascends w xs f a s = go (row w) f
    where
      go : (r : Option X) → ((x : X) → r ≡ Some x → key x ≡ named w) → Ascends key cmp (cons_option r xs)
      go None g = s
      go (Some x) g = (subst (λ k. Above key cmp k xs) (sym (g x refl)) a, s)

  fits_above : (k : K) (ws : List W) → Fits key named row cmp ws → Above named cmp k ws → Above key cmp k (filter_map row ws)
  fits_above k [] f a = tt
  fits_above k (w ∷ ws) f a = cons_above k w (filter_map row ws) f.0 a.0 (fits_above k ws f.1 a.1)

  pub weave_above : (k : K) (xs : List X) (ws : List W) → Fits key named row cmp ws → Above key cmp k xs → Above named cmp k ws → Above key cmp k (P xs ws)
  weave_above k [] ws f a b = fits_above k ws f b
  weave_above k (x ∷ xs) ws f a b = go (λ vs g c. weave_above k xs vs g a.1 c) ws f b
    where
      go : ((vs : List W) → Fits key named row cmp vs → Above named cmp k vs → Above key cmp k (P xs vs)) → (ws : List W) → Fits key named row cmp ws → Above named cmp k ws → Above key cmp k (weave_from key named row cmp x (weave key named row cmp xs) ws)
      go again [] f b = (a.0, again [] tt tt)
      go again (w ∷ ws) f b = elim (cmp (key x) (named w)) as (λ r. Above key cmp k (elim r [ Less ↦ x ∷ P xs (w ∷ ws) | Equal ↦ cons_option (row w) (P xs ws) | Greater ↦ cons_option (row w) (weave_from key named row cmp x (weave key named row cmp xs) ws) ])) [
        | Less ↦ (a.0, again (w ∷ ws) f b)
        | Equal ↦ cons_above k w (P xs ws) f.0 b.0 (again ws f.1 b.1)
        | Greater ↦ cons_above k w (weave_from key named row cmp x (weave key named row cmp xs) ws) f.0 b.0 (go again ws f.1 b.1)
      ]

  -- one step of the walk, by how the two first keys compare
  abbrev step : Ordering → X → List X → W → List W → List X
  step r x xs w ws = elim r [ Less ↦ x ∷ P xs (w ∷ ws) | Equal ↦ cons_option (row w) (P xs ws) | Greater ↦ cons_option (row w) (P (x ∷ xs) ws) ]

  pub weave_step : (r : Ordering) (x : X) (xs : List X) (w : W) (ws : List W) → cmp (key x) (named w) ≡ r → P (x ∷ xs) (w ∷ ws) ≡ step r x xs w ws
  weave_step r x xs w ws e = ap (λ q. step q x xs w ws) e

  pub weave_nothing : (xs : List X) → P xs [] ≡ xs
  weave_nothing [] = refl
  weave_nothing (x ∷ xs) = ap (λ ys. x ∷ ys) (weave_nothing xs)

  -- a list in order after a change in order, the first of each compared
  pub weave_ascends : (xs : List X) (ws : List W) → Fits key named row cmp ws → Ascends key cmp xs → Ascends named cmp ws → Ascends key cmp (P xs ws)
  weave_ascends [] ws f a b = go ws f b
    where
      go : (ws : List W) → Fits key named row cmp ws → Ascends named cmp ws → Ascends key cmp (filter_map row ws)
      go [] f b = tt
      go (w ∷ ws) f b = cons_ascends w (filter_map row ws) f.0 (fits_above (named w) ws f.1 b.0) (go ws f.1 b.1)
  weave_ascends (x ∷ xs) ws f a b = go (λ vs g c. weave_ascends xs vs g a.1 c) ws f b
    where
      go : ((vs : List W) → Fits key named row cmp vs → Ascends named cmp vs → Ascends key cmp (P xs vs)) → (ws : List W) → Fits key named row cmp ws → Ascends named cmp ws → Ascends key cmp (P (x ∷ xs) ws)
      go again [] f b = (weave_above (key x) xs [] tt a.0 tt, again [] tt tt)
      go again (w ∷ ws) f b = elim (cases (cmp (key x) (named w))) [
        | inl le ↦ elim le [
          | inl l ↦ subst (λ ys. Ascends key cmp ys) (sym (weave_step Less x xs w ws l))
              (weave_above (key x) xs (w ∷ ws) f a.0 (l, above_less named cmp o (key x) (named w) ws l b.0), again (w ∷ ws) f b)
          | inr e ↦ subst (λ ys. Ascends key cmp ys) (sym (weave_step Equal x xs w ws e))
              (cons_ascends w (P xs ws) f.0 (weave_above (named w) xs ws f.1 (subst (λ k. Above key cmp k xs) (o.exact (key x) (named w) e) a.0) b.0) (again ws f.1 b.1))
        ]
        | inr g ↦ (let l = turn o (key x) (named w) Greater g in subst (λ ys. Ascends key cmp ys) (sym (weave_step Greater x xs w ws g))
            (cons_ascends w (P (x ∷ xs) ws) f.0 (weave_above (named w) (x ∷ xs) ws f.1 (l, above_less key cmp o (named w) (key x) xs l a.0) b.0) (go again ws f.1 b.1)))
      ]

  -- what is read of an item that a change gives
  cons_here : (w : W) (xs : List X) → ((x : X) → row w ≡ Some x → key x ≡ named w) → Above key cmp (named w) xs → G (named w) (cons_option (row w) xs) ≡ row w
  cons_here w xs f a = go (row w) f
    where
      go : (r : Option X) → ((x : X) → r ≡ Some x → key x ≡ named w) → G (named w) (cons_option r xs) ≡ r
      go None g = above_none key cmp o (named w) xs a
      go (Some x) g = ap (λ b. cond b (Some x) (G (named w) xs)) (ap is_eq (subst (λ k. cmp (named w) k ≡ Equal) (sym (g x refl)) (same o (named w))))

  cons_there : (k : K) (w : W) (xs : List X) → ((x : X) → row w ≡ Some x → key x ≡ named w) → is_eq (cmp k (named w)) ≡ false → G k (cons_option (row w) xs) ≡ G k xs
  cons_there k w xs f n = go (row w) f
    where
      go : (r : Option X) → ((x : X) → r ≡ Some x → key x ≡ named w) → G k (cons_option r xs) ≡ G k xs
      go None g = refl
      go (Some x) g = ap (λ b. cond b (Some x) (G k xs)) (subst (λ j. is_eq (cmp k j) ≡ false) (sym (g x refl)) n)

  abbrev R : K → List X → List W → Type 0
  R k xs ws = G k (P xs ws) ≡ over row (N k ws) (G k xs)

  -- the same where the walk takes a change: everything else is above it
  takes : (k : K) (w : W) (xs : List X) (ys : List X) (ws : List W) → ((x : X) → row w ≡ Some x → key x ≡ named w) → Above key cmp (named w) ys
      → (is_eq (cmp k (named w)) ≡ false → G k ys ≡ over row (N k ws) (G k xs))
      → G k (cons_option (row w) ys) ≡ over row (N k (w ∷ ws)) (G k xs)
  takes k w xs ys ws f a again = elim (here_or named cmp o k w) [
    | inl e ↦ ap (λ j. G j (cons_option (row w) ys)) e ∙ cons_here w ys f a ∙ sym (ap (λ n. over row n (G k xs)) (ap (λ j. N j (w ∷ ws)) e ∙ get_here named cmp o w ws))
    | inr n ↦ cons_there k w ys f n ∙ again n ∙ sym (ap (λ m. over row m (G k xs)) (get_there named cmp o k w ws n))
  ]

  pub weave_reads : (k : K) (xs : List X) (ws : List W) → Fits key named row cmp ws → Ascends key cmp xs → Ascends named cmp ws → G k (P xs ws) ≡ over row (N k ws) (G k xs)
  weave_reads k [] ws f a b = go ws f b
    where
      go : (ws : List W) → Fits key named row cmp ws → Ascends named cmp ws → G k (filter_map row ws) ≡ over row (N k ws) None
      go [] f b = refl
      go (w ∷ ws) f b = takes k w [] (filter_map row ws) ws f.0 (fits_above (named w) ws f.1 b.0) (λ n. go ws f.1 b.1)
  weave_reads k (x ∷ xs) ws f a b = go (λ vs g c. weave_reads k xs vs g a.1 c) ws f b
    where
      go : ((vs : List W) → Fits key named row cmp vs → Ascends named cmp vs → R k xs vs) → (ws : List W) → Fits key named row cmp ws → Ascends named cmp ws → R k (x ∷ xs) ws
      go again [] f b = ap (G k) (weave_nothing (x ∷ xs))
      go again (w ∷ ws) f b = elim (cases (cmp (key x) (named w))) [
        | inl le ↦ elim le [
          | inl l ↦ ap (G k) (weave_step Less x xs w ws l) ∙ elim (here_or key cmp o k x) [
            | inl e ↦ ap (λ j. G j (x ∷ P xs (w ∷ ws))) e ∙ get_here key cmp o x (P xs (w ∷ ws))
                ∙ sym (ap (λ m. over row m (G k (x ∷ xs))) (ap (λ j. N j (w ∷ ws)) e ∙ above_none named cmp o (key x) (w ∷ ws) (l, above_less named cmp o (key x) (named w) ws l b.0)) ∙ ap (λ j. G j (x ∷ xs)) e ∙ get_here key cmp o x xs)
            | inr n ↦ get_there key cmp o k x (P xs (w ∷ ws)) n ∙ again (w ∷ ws) f b ∙ ap (over row (N k (w ∷ ws))) (sym (get_there key cmp o k x xs n))
          ]
          | inr e ↦ ap (G k) (weave_step Equal x xs w ws e) ∙ takes k w (x ∷ xs) (P xs ws) ws f.0
              (weave_above (named w) xs ws f.1 (subst (λ j. Above key cmp j xs) (o.exact (key x) (named w) e) a.0) b.0)
              (λ n. again ws f.1 b.1 ∙ ap (over row (N k ws)) (sym (get_there key cmp o k x xs (ap (λ j. is_eq (cmp k j)) (o.exact (key x) (named w) e) ∙ n))))
        ]
        | inr g ↦ (let l = turn o (key x) (named w) Greater g in ap (G k) (weave_step Greater x xs w ws g) ∙ takes k w (x ∷ xs) (P (x ∷ xs) ws) ws f.0
            (weave_above (named w) (x ∷ xs) ws f.1 (l, above_less key cmp o (named w) (key x) xs l a.0) b.0)
            (λ n. go again ws f.1 b.1))
      ]

-- one change woven into a list of changes
module _ {W K : Type 0} (named : W → K) (cmp : K → K → Ordering) (o : Exact cmp) where
  pub weave_replaces : (xs : List W) (w x : W) (i : ℕ) → i ≡ rank named cmp (named w) xs → slice_get xs i ≡ Some x → cmp (named w) (named x) ≡ Equal → weave named named (λ (v : W). Some v) cmp xs (w ∷ []) ≡ slice_set xs i w
  weave_replaces [] w x i r s e = absurd (none-some x s)
  weave_replaces (y ∷ ys) w x i r s e = elim (cases (cmp (named w) (named y))) [
    | inl le ↦ elim le [
      | inl l ↦ (let z : i ≡ 0 = r ∙ ap (λ b. cond b (rank named cmp (named w) ys + 1) 0) (ap is_gt l) in
          let yx : y ≡ x = same_Some y x (sym (ap (λ j. slice_get (y ∷ ys) j) z) ∙ s) in
          absurd (less_equal (sym l ∙ ap (λ q. cmp (named w) (named q)) yx ∙ e)))
      | inr q ↦ (let z : i ≡ 0 = r ∙ ap (λ b. cond b (rank named cmp (named w) ys + 1) 0) (ap is_gt q) in
          weave_step named named (λ (v : W). Some v) cmp o Equal y ys w [] (turn o (named w) (named y) Equal q) ∙ ap (λ zs. w ∷ zs) (weave_nothing named named (λ (v : W). Some v) cmp o ys) ∙ sym (ap (λ j. slice_set (y ∷ ys) j w) z))
    ]
    | inr g ↦ (let z : i ≡ suc (rank named cmp (named w) ys) = r ∙ ap (λ b. cond b (rank named cmp (named w) ys + 1) 0) (ap is_gt g) ∙ rw add-one refl in
        weave_step named named (λ (v : W). Some v) cmp o Less y ys w [] (turn o (named w) (named y) Greater g)
        ∙ ap (λ zs. y ∷ zs) (weave_replaces ys w x (rank named cmp (named w) ys) refl (sym (ap (λ j. slice_get (y ∷ ys) j) z) ∙ s) e)
        ∙ sym (ap (λ j. slice_set (y ∷ ys) j w) z))
  ]
    where
      less_equal : Less ≡ Equal → ⊥
      less_equal h = cc

  pub weave_adds : (xs : List W) (w : W) (i : ℕ) → i ≡ rank named cmp (named w) xs → get named cmp (named w) xs ≡ None → weave named named (λ (v : W). Some v) cmp xs (w ∷ []) ≡ insert xs i w
  weave_adds [] w i r n = sym (ap (λ j. insert [] j w) r)
  weave_adds (y ∷ ys) w i r n = elim (cases (cmp (named w) (named y))) [
    | inl le ↦ elim le [
      | inl l ↦ (let z : i ≡ 0 = r ∙ ap (λ b. cond b (rank named cmp (named w) ys + 1) 0) (ap is_gt l) in
          weave_step named named (λ (v : W). Some v) cmp o Greater y ys w [] (turn o (named w) (named y) Less l) ∙ ap (λ zs. w ∷ zs) (weave_nothing named named (λ (v : W). Some v) cmp o (y ∷ ys)) ∙ sym (ap (λ j. insert (y ∷ ys) j w) z))
      | inr q ↦ absurd (none-some y (sym n ∙ ap (λ b. cond b (Some y) (get named cmp (named w) ys)) (ap is_eq q)))
    ]
    | inr g ↦ (let z : i ≡ suc (rank named cmp (named w) ys) = r ∙ ap (λ b. cond b (rank named cmp (named w) ys + 1) 0) (ap is_gt g) ∙ rw add-one refl in
        weave_step named named (λ (v : W). Some v) cmp o Less y ys w [] (turn o (named w) (named y) Greater g)
        ∙ ap (λ zs. y ∷ zs) (weave_adds ys w (rank named cmp (named w) ys) refl (sym (get_there named cmp o (named w) y ys (ap is_eq g)) ∙ n))
        ∙ sym (ap (λ j. insert (y ∷ ys) j w) z))
  ]
