-- What a list in key order reads at each key: that determines it, and its members do.
use Rattle.std.proofs.Common.{◌≡◌, List, [], ◌∷◌, ◌++◌, Bool, true, false, cond, ◌⊎◌, inl, inr, refl, ap, sym, subst, ◌∙◌}
use Rattle.std.proofs.lemmas.Option.{same_Some, none-some}
use Rattle.std.specs.declared.option.Option.{Option}
use Rattle.std.specs.declared.option.Option.TheVariants.{Some, None}
use Rattle.std.specs.declared.cmp.Ordering.{Ordering}
use Rattle.std.specs.declared.cmp.Ordering.TheVariants.{Less, Equal, Greater}
use Rattle.std.specs.Ordering.{is_eq}
use Rattle.std.specs.List.{filter}
use Rattle.std.specs.Prelude.{map}
use Rattle.pg_keyed.specs.Lists.{Each, Among, Distinct, each_filter, each_append, each_among, from_map}
use Rattle.pg_keyed.specs.Keyed.{Above, Ascends, get}
use Rattle.pg_keyed.specs.Orders.{Exact, same, turn, cases}
use Rattle.pg_keyed.specs.Ranks.{above_none, above_less}

less_equal : Less ≡ Equal → ⊥
less_equal h = cc

-- lists in order that read alike are one
module _ {X K : Type 0} (key : X → K) (cmp : K → K → Ordering) (o : Exact cmp) where
  pub get_here : (x : X) (xs : List X) → get key cmp (key x) (x ∷ xs) ≡ Some x
  get_here x xs = rw (ap is_eq (same o (key x))) refl

  pub get_there : (k : K) (x : X) (xs : List X) → is_eq (cmp k (key x)) ≡ false → get key cmp k (x ∷ xs) ≡ get key cmp k xs
  get_there k x xs h = rw h refl

  -- the key is the item's, or the item is passed
  pub here_or : (k : K) (x : X) → (k ≡ key x) ⊎ (is_eq (cmp k (key x)) ≡ false)
  here_or k x = elim (cases (cmp k (key x))) [
    | inl le ↦ elim le [ inl h ↦ inr (ap is_eq h) | inr h ↦ inl (o.exact k (key x) h) ]
    | inr h ↦ inr (ap is_eq h)
  ]

  none_there : (x : X) (xs : List X) → Above key cmp (key x) xs → get key cmp (key x) xs ≡ None
  none_there x xs a = above_none key cmp o (key x) xs a

  pub alike : (xs ys : List X) → Ascends key cmp xs → Ascends key cmp ys → ((k : K) → get key cmp k xs ≡ get key cmp k ys) → xs ≡ ys
  alike [] [] a b h = refl
  alike [] (y ∷ ys) a b h = absurd (none-some y (h (key y) ∙ get_here y ys))
  alike (x ∷ xs) [] a b h = absurd (none-some x (sym (h (key x)) ∙ get_here x xs))
  alike (x ∷ xs) (y ∷ ys) a b h =
      let first : x ≡ y = elim (cases (cmp (key x) (key y))) [
        | inl le ↦ elim le [
          | inl l ↦ absurd (none-some x (sym (get_there (key x) y ys (ap is_eq l) ∙ above_none key cmp o (key x) ys (above_less key cmp o (key x) (key y) ys l b.0)) ∙ sym (h (key x)) ∙ get_here x xs))
          | inr e ↦ same_Some x y (sym (get_here x xs) ∙ h (key x) ∙ ap (λ k. get key cmp k (y ∷ ys)) (o.exact (key x) (key y) e) ∙ get_here y ys)
        ]
        | inr g ↦ (let l = turn o (key x) (key y) Greater g in absurd (none-some y (sym (get_there (key y) x xs (ap is_eq l) ∙ above_none key cmp o (key y) xs (above_less key cmp o (key y) (key x) xs l a.0)) ∙ h (key y) ∙ get_here y ys)))
      ] in
      let rest : (k : K) → get key cmp k xs ≡ get key cmp k ys = λ k. elim (here_or k x) [
        | inl e ↦ ap (λ j. get key cmp j xs) e ∙ none_there x xs a.0 ∙ sym (none_there y ys b.0) ∙ ap (λ j. get key cmp j ys) (sym (e ∙ ap key first))
        | inr n ↦ sym (get_there k x xs n) ∙ h k ∙ get_there k y ys (ap (λ z. is_eq (cmp k (key z))) (sym first) ∙ n)
      ] in
      let more : xs ≡ ys = alike xs ys a.1 b.1 rest in
      λ i. first i ∷ more i

  pub get_key : (k : K) (xs : List X) (x : X) → get key cmp k xs ≡ Some x → k ≡ key x
  get_key k [] x h = absurd (none-some x h)
  get_key k (y ∷ ys) x h = elim (here_or k y) [
    | inl e ↦ e ∙ ap key (same_Some y x (sym (ap (λ j. get key cmp j (y ∷ ys)) e ∙ get_here y ys) ∙ h))
    | inr n ↦ get_key k ys x (sym (get_there k y ys n) ∙ h)
  ]

  pub among_get : (x : X) (xs : List X) → Ascends key cmp xs → Among x xs → get key cmp (key x) xs ≡ Some x
  among_get x [] a m = absurd m
  among_get x (y ∷ ys) a (inl s) = subst (λ z. get key cmp (key z) (y ∷ ys) ≡ Some z) (sym s) (get_here y ys)
  among_get x (y ∷ ys) a (inr m) = let l = each_among (λ z. cmp (key y) (key z) ≡ Less) x ys a.0 m in
      get_there (key x) y ys (ap is_eq (turn o (key y) (key x) Less l)) ∙ among_get x ys a.1 m

  pub get_among : (k : K) (xs : List X) (x : X) → get key cmp k xs ≡ Some x → Among x xs
  get_among k [] x h = absurd (none-some x h)
  get_among k (y ∷ ys) x h = go (is_eq (cmp k (key y))) h (λ m. get_among k ys x m)
    where
      go : (b : Bool) → cond b (Some y) (get key cmp k ys) ≡ Some x → (get key cmp k ys ≡ Some x → Among x ys) → (x ≡ y) ⊎ Among x ys
      go true e again = inl (sym (same_Some y x e))
      go false e again = inr (again e)

  -- lists in order with the same members are one
  pub same_members : (xs ys : List X) → Ascends key cmp xs → Ascends key cmp ys → ((x : X) → Among x xs → Among x ys) → ((x : X) → Among x ys → Among x xs) → xs ≡ ys
  same_members xs ys a b f g = alike xs ys a b (λ k. go k (get key cmp k xs) refl (get key cmp k ys) refl)
    where
      go : (k : K) (p : Option X) → get key cmp k xs ≡ p → (q : Option X) → get key cmp k ys ≡ q → get key cmp k xs ≡ get key cmp k ys
      go k (Some x) p q e = p ∙ sym (ap (λ j. get key cmp j ys) (get_key k xs x p) ∙ among_get x ys b (f x (get_among k xs x p)))
      go k None p (Some y) e = sym (e ∙ sym (ap (λ j. get key cmp j xs) (get_key k ys y e) ∙ among_get y xs a (g y (get_among k ys y e))))
      go k None p None e = p ∙ sym e

  pub filter_ascends : (t : X → Bool) (xs : List X) → Ascends key cmp xs → Ascends key cmp (filter t xs)
  filter_ascends t [] h = tt
  filter_ascends t (x ∷ xs) h = elim (t x) as (λ b. Ascends key cmp (cond b (x ∷ filter t xs) (filter t xs))) [ true ↦ (each_filter (λ y. cmp (key x) (key y) ≡ Less) t xs h.0, filter_ascends t xs h.1) | false ↦ filter_ascends t xs h.1 ]

  -- two lists in order, with an item above the first's items and below the second's
  pub join_ascends : (xs : List X) (y : X) (ys : List X) → Ascends key cmp xs → Each (λ x. cmp (key x) (key y) ≡ Less) xs → Above key cmp (key y) ys → Ascends key cmp ys → Ascends key cmp (xs ++ y ∷ ys)
  join_ascends [] y ys a l h b = (h, b)
  join_ascends (x ∷ xs) y ys a l h b = (each_append (λ z. cmp (key x) (key z) ≡ Less) xs (y ∷ ys) a.0 (l.0, above_less key cmp o (key x) (key y) ys l.0 h), join_ascends xs y ys a.1 l.1 h b)

  -- no key twice
  pub keys_distinct : (xs : List X) → Ascends key cmp xs → Distinct (map key xs)
  keys_distinct [] a = tt
  keys_distinct (x ∷ xs) a = (
    (λ m. let r = from_map key (key x) xs m in
        less_equal (sym (each_among (λ y. cmp (key x) (key y) ≡ Less) r.0 xs a.0 r.1) ∙ ap (cmp (key x)) (sym r.2) ∙ same o (key x))),
    keys_distinct xs a.1,
  )

  pub items_distinct : (xs : List X) → Ascends key cmp xs → Distinct xs
  items_distinct [] a = tt
  items_distinct (x ∷ xs) a = ((λ m. less_equal (sym (each_among (λ y. cmp (key x) (key y) ≡ Less) x xs a.0 m) ∙ same o (key x))), items_distinct xs a.1)

  -- what a filter by the key reads
  abbrev Filtered : (K → Bool) → K → List X → Type 0
  Filtered r k xs = get key cmp k (filter (λ x. r (key x)) xs) ≡ cond (r k) (get key cmp k xs) None

  filter_here : (r : K → Bool) (x : X) (xs : List X) → Filtered r (key x) xs → Filtered r (key x) (x ∷ xs)
  filter_here r x xs again = go (r (key x)) refl
    where
      kept : List X
      kept = filter (λ y. r (key y)) xs

      go : (b : Bool) → r (key x) ≡ b → get key cmp (key x) (cond b (x ∷ kept) kept) ≡ cond b (get key cmp (key x) (x ∷ xs)) None
      go true q = get_here x kept ∙ sym (get_here x xs)
      go false q = again ∙ ap (λ b. cond b (get key cmp (key x) xs) None) q

  filter_there : (r : K → Bool) (k : K) (x : X) (xs : List X) → is_eq (cmp k (key x)) ≡ false → Filtered r k xs → Filtered r k (x ∷ xs)
  filter_there r k x xs n again = go (r (key x)) ∙ ap (λ m. cond (r k) m None) (sym (get_there k x xs n))
    where
      kept : List X
      kept = filter (λ y. r (key y)) xs

      go : (b : Bool) → get key cmp k (cond b (x ∷ kept) kept) ≡ cond (r k) (get key cmp k xs) None
      go true = get_there k x kept n ∙ again
      go false = again

  abbrev no_item : Option X
  no_item = None

  nothing : (b : Bool) → no_item ≡ cond b no_item no_item
  nothing true = refl
  nothing false = refl

  pub get_filter : (r : K → Bool) (k : K) (xs : List X) → get key cmp k (filter (λ x. r (key x)) xs) ≡ cond (r k) (get key cmp k xs) None
  get_filter r k [] = nothing (r k)
  get_filter r k (x ∷ xs) = let again = get_filter r k xs in elim (here_or k x) [
    | inl e ↦ subst (λ j. Filtered r j (x ∷ xs)) (sym e) (filter_here r x xs (subst (λ j. Filtered r j xs) e again))
    | inr n ↦ filter_there r k x xs n again
  ]
