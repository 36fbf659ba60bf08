-- Membership by cases on the list, and lists without doubles.
use Rattle.std.proofs.Common.{◌≡◌, zero, suc, Bool, true, false, cond, ◌||◌, List, [], ◌∷◌, ◌++◌, map, Contains, ◌⊎◌, inl, inr, refl, arith, ap, sym, ◌∙◌, subst}
use Rattle.std.specs.Prelude.{Option, Some, None, filter, flat_map, filter_map}
use Rattle.std.specs.List.{cons_option, list_any, AllZip}
use Rattle.pg_meaning.specs.Bindings.{Distinct}

module _ {X : Type 0} where
  pub in_nil : (x : X) → Contains [] x → ⊥
  in_nil x (k, l, e) = omega arith

  pub in_here : (y : X) (xs : List X) (x : X) → y ≡ x → Contains (y ∷ xs) x
  in_here y xs x e = (0, omega arith, e)

  pub in_there : (y : X) (xs : List X) (x : X) → Contains xs x → Contains (y ∷ xs) x
  in_there y xs x (k, l, e) = (suc k, omega arith, e)

  pub in_cons : (y : X) (xs : List X) (x : X) → Contains (y ∷ xs) x → (y ≡ x) ⊎ Contains xs x
  in_cons y xs x (zero, l, e) = inl e
  in_cons y xs x (suc k, l, e) = inr (k, omega arith, e)

  pub not_in_cons : (y : X) (xs : List X) (x : X) → (y ≡ x → ⊥) → (Contains xs x → ⊥) → Contains (y ∷ xs) x → ⊥
  not_in_cons y xs x ne out c = elim (in_cons y xs x c) [ inl e ↦ ne e | inr r ↦ out r ]

  pub in_one : (y x : X) → Contains (y ∷ []) x → y ≡ x
  in_one y x c = elim (in_cons y [] x c) [ inl e ↦ e | inr r ↦ absurd (in_nil x r) ]

  pub in_left : (xs ys : List X) (x : X) → Contains xs x → Contains (xs ++ ys) x
  in_left [] ys x c = absurd (in_nil x c)
  in_left (y ∷ xs) ys x c = elim (in_cons y xs x c) [ inl e ↦ in_here y (xs ++ ys) x e | inr r ↦ in_there y (xs ++ ys) x (in_left xs ys x r) ]

  pub in_right : (xs ys : List X) (x : X) → Contains ys x → Contains (xs ++ ys) x
  in_right [] ys x c = c
  in_right (y ∷ xs) ys x c = in_there y (xs ++ ys) x (in_right xs ys x c)

  pub in_append : (xs ys : List X) (x : X) → Contains (xs ++ ys) x → Contains xs x ⊎ Contains ys x
  in_append [] ys x c = inr c
  in_append (y ∷ xs) ys x c = elim (in_cons y (xs ++ ys) x c) [
    | inl e ↦ inl (in_here y xs x e)
    | inr r ↦ elim (in_append xs ys x r) [ inl a ↦ inl (in_there y xs x a) | inr b ↦ inr b ]
  ]

  filter_step : (test : X → Bool) (y : X) (xs : List X) (x : X) (b : Bool) → test y ≡ b
      → (Contains (filter test xs) x → Contains xs x × (test x ≡ true)) → Contains (cond b (y ∷ filter test xs) (filter test xs)) x → Contains (y ∷ xs) x × (test x ≡ true)
  filter_step test y xs x true h rest c = elim (in_cons y (filter test xs) x c) [
    | inl e ↦ (in_here y xs x e, ap test (sym e) ∙ h)
    | inr r ↦ (in_there y xs x (rest r).0, (rest r).1)
  ]
  filter_step test y xs x false h rest c = (in_there y xs x (rest c).0, (rest c).1)

  pub in_filter : (test : X → Bool) (xs : List X) (x : X) → Contains (filter test xs) x → Contains xs x × (test x ≡ true)
  in_filter test [] x c = absurd (in_nil x c)
  in_filter test (y ∷ xs) x c = filter_step test y xs x (test y) refl (in_filter test xs x) c

  pub from_any : (test : X → Bool) (xs : List X) → list_any test xs ≡ true → (x : X) × Contains xs x × (test x ≡ true)
  from_any test [] h = absurd (cc)
  from_any test (y ∷ xs) h = from_first test y xs (test y) refl h (from_any test xs)
    where
      from_first : (test : X → Bool) (y : X) (xs : List X) (b : Bool) → test y ≡ b → (b || list_any test xs) ≡ true
          → (list_any test xs ≡ true → (x : X) × Contains xs x × (test x ≡ true)) → (x : X) × Contains (y ∷ xs) x × (test x ≡ true)
      from_first test y xs true e h rest = (y, in_here y xs y refl, e)
      from_first test y xs false e h rest = let r = rest h in (r.0, in_there y xs r.0 r.1, r.2)

  -- one list after another, with nothing in both
  pub distinct_append : (xs ys : List X) → Distinct xs → Distinct ys → ((x : X) → Contains xs x → Contains ys x → ⊥) → Distinct (xs ++ ys)
  distinct_append [] ys d e apart = e
  distinct_append (x ∷ xs) ys d e apart = (
    λ c. elim (in_append xs ys x c) [ inl a ↦ d.0 a | inr b ↦ apart x (in_here x xs x refl) b ],
    distinct_append xs ys d.1 e (λ z a b. apart z (in_there x xs z a) b),
  )

  pub nothing_in : (xs : List X) → ((x : X) → Contains xs x → ⊥) → xs ≡ []
  nothing_in [] none = refl
  nothing_in (x ∷ xs) none = absurd (none x (in_here x xs x refl))

  -- a list without doubles of which each item is this one
  pub only_item : (x : X) (xs : List X) → Distinct xs → Contains xs x → ((y : X) → Contains xs y → y ≡ x) → xs ≡ x ∷ []
  only_item x [] d c each = absurd (in_nil x c)
  only_item x (y ∷ []) d c each = ap (λ z. z ∷ []) (each y (in_here y [] y refl))
  only_item x (y ∷ z ∷ xs) d c each =
      let p = each y (in_here y (z ∷ xs) y refl) in
      let q = each z (in_there y (z ∷ xs) z (in_here z xs z refl)) in
      absurd (d.0 (in_here z xs y (q ∙ sym p)))

  -- a list of one item from each of one list
  pub zip_one : (xs : List X) (tuple : List X) → AllZip (λ bindings b. Contains bindings b) (xs ∷ []) tuple → (x : X) × Contains xs x × (tuple ≡ x ∷ [])
  zip_one xs [] h = absurd h
  zip_one xs (x ∷ []) h = (x, h.0, refl)
  zip_one xs (x ∷ y ∷ tuple) h = absurd h.1

module _ {X Y : Type 0} where
  pub in_map : (f : X → Y) (xs : List X) (x : X) → Contains xs x → Contains (map f xs) (f x)
  in_map f [] x c = absurd (in_nil x c)
  in_map f (y ∷ xs) x c = elim (in_cons y xs x c) [ inl e ↦ in_here (f y) (map f xs) (f x) (ap f e) | inr r ↦ in_there (f y) (map f xs) (f x) (in_map f xs x r) ]

  pub from_map : (f : X → Y) (xs : List X) (y : Y) → Contains (map f xs) y → (x : X) × Contains xs x × (f x ≡ y)
  from_map f [] y c = absurd (in_nil y c)
  from_map f (x ∷ xs) y c = elim (in_cons (f x) (map f xs) y c) [
    | inl e ↦ (x, in_here x xs x refl, e)
    | inr r ↦ (let m = from_map f xs y r in (m.0, in_there x xs m.0 m.1, m.2))
  ]

  pub from_flat_map : (f : X → List Y) (xs : List X) (y : Y) → Contains (flat_map f xs) y → (x : X) × Contains xs x × Contains (f x) y
  from_flat_map f [] y c = absurd (in_nil y c)
  from_flat_map f (x ∷ xs) y c = elim (in_append (f x) (flat_map f xs) y c) [
    | inl a ↦ (x, in_here x xs x refl, a)
    | inr r ↦ (let m = from_flat_map f xs y r in (m.0, in_there x xs m.0 m.1, m.2))
  ]

  given_step : (h : X → Option Y) (x : X) (xs : List X) (y : Y) (o : Option Y) → h x ≡ o
      → (Contains (filter_map h xs) y → (x : X) × Contains xs x × (h x ≡ Some y)) → Contains (cons_option o (filter_map h xs)) y → (z : X) × Contains (x ∷ xs) z × (h z ≡ Some y)
  given_step h x xs y None e rest c = let m = rest c in (m.0, in_there x xs m.0 m.1, m.2)
  given_step h x xs y (Some z) e rest c = elim (in_cons z (filter_map h xs) y c) [
    | inl s ↦ (x, in_here x xs x refl, e ∙ ap Some s)
    | inr r ↦ (let m = rest r in (m.0, in_there x xs m.0 m.1, m.2))
  ]

  pub from_filter_map : (h : X → Option Y) (xs : List X) (y : Y) → Contains (filter_map h xs) y → (x : X) × Contains xs x × (h x ≡ Some y)
  from_filter_map h [] y c = absurd (in_nil y c)
  from_filter_map h (x ∷ xs) y c = given_step h x xs y (h x) refl (from_filter_map h xs y) c

  into_step : (h : X → Option Y) (x : X) (xs : List X) (z : X) (y : Y) (o : Option Y) → h x ≡ o → h z ≡ Some y
      → (Contains xs z → Contains (filter_map h xs) y) → Contains (x ∷ xs) z → Contains (cons_option o (filter_map h xs)) y
  into_step h x xs z y None e s rest c = elim (in_cons x xs z c) [ inl q ↦ absurd (cc (ap h q)) | inr r ↦ rest r ]
  into_step h x xs z y (Some w) e s rest c = elim (in_cons x xs z c) [ inl q ↦ in_here w (filter_map h xs) y (cc (ap h q)) | inr r ↦ in_there w (filter_map h xs) y (rest r) ]

  pub in_filter_map : (h : X → Option Y) (xs : List X) (z : X) (y : Y) → Contains xs z → h z ≡ Some y → Contains (filter_map h xs) y
  in_filter_map h [] z y c s = absurd (in_nil z c)
  in_filter_map h (x ∷ xs) z y c s = into_step h x xs z y (h x) refl s (λ r. in_filter_map h xs z y r s) c

  -- distinct images are of distinct items
  pub distinct_under : (f : X → Y) (xs : List X) → Distinct (map f xs) → Distinct xs
  distinct_under f [] d = tt
  distinct_under f (x ∷ xs) d = (λ c. d.0 (in_map f xs x c), distinct_under f xs d.1)

  pub distinct_map : (f : X → Y) → ((a b : X) → f a ≡ f b → a ≡ b) → (xs : List X) → Distinct xs → Distinct (map f xs)
  distinct_map f back [] d = tt
  distinct_map f back (x ∷ xs) d = (
    λ c. let m = from_map f xs (f x) c in d.0 (subst (λ z. Contains xs z) (back m.0 x m.2) m.1),
    distinct_map f back xs d.1,
  )

  -- items with distinct keys and one key are one
  pub same_item : (k : X → Y) (xs : List X) (a b : X) → Distinct (map k xs) → Contains xs a → Contains xs b → k a ≡ k b → a ≡ b
  same_item k [] a b d p q e = absurd (in_nil a p)
  same_item k (x ∷ xs) a b d p q e = elim (in_cons x xs a p) [
    | inl s ↦ elim (in_cons x xs b q) [
      | inl t ↦ sym s ∙ t
      | inr t ↦ absurd (d.0 (subst (λ z. Contains (map k xs) z) (sym e ∙ ap k (sym s)) (in_map k xs b t)))
    ]
    | inr s ↦ elim (in_cons x xs b q) [
      | inl t ↦ absurd (d.0 (subst (λ z. Contains (map k xs) z) (e ∙ ap k (sym t)) (in_map k xs a s)))
      | inr t ↦ same_item k xs a b d.1 s t e
    ]
  ]

  keep_step : (k : X → Y) (test : X → Bool) (x : X) (xs : List X) (b : Bool) → Distinct (map k (filter test xs)) → (Contains (map k xs) (k x) → ⊥)
      → Distinct (map k (cond b (x ∷ filter test xs) (filter test xs)))
  keep_step k test x xs true d out = (
    λ c. let m = from_map k (filter test xs) (k x) c in out (subst (λ z. Contains (map k xs) z) m.2 (in_map k xs m.0 (in_filter test xs m.0 m.1).0)),
    d,
  )
  keep_step k test x xs false d out = d

  pub distinct_filter : (k : X → Y) (test : X → Bool) (xs : List X) → Distinct (map k xs) → Distinct (map k (filter test xs))
  distinct_filter k test [] d = tt
  distinct_filter k test (x ∷ xs) d = keep_step k test x xs (test x) (distinct_filter k test xs d.1) d.0

module _ {X Y K : Type 0} (h : X → Option Y) (k : X → K) (l : Y → K) (same : (x : X) (y : Y) → h x ≡ Some y → l y ≡ k x) where
  give_step : (x : X) (xs : List X) (o : Option Y) → h x ≡ o → Distinct (map l (filter_map h xs)) → (Contains (map k xs) (k x) → ⊥) → Distinct (map l (cons_option o (filter_map h xs)))
  give_step x xs None e d out = d
  give_step x xs (Some y) e d out = (
    λ c. let m = from_map l (filter_map h xs) (l y) c in
        let g = from_filter_map h xs m.0 m.1 in
        let p : k g.0 ≡ k x = sym (same g.0 m.0 g.2) ∙ m.2 ∙ same x y e in
        out (subst (λ z. Contains (map k xs) z) p (in_map k xs g.0 g.1)),
    d,
  )

  -- what is given of items with distinct keys has distinct keys, where it keeps them
  pub distinct_given : (xs : List X) → Distinct (map k xs) → Distinct (map l (filter_map h xs))
  distinct_given [] d = tt
  distinct_given (x ∷ xs) d = give_step x xs (h x) refl (distinct_given xs d.1) d.0
