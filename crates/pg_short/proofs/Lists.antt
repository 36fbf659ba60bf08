-- Filters, and places in lists.
use Rattle.std.proofs.Common.{◌≡◌, ◌≤◌, ◌<◌, ℕ, ◌+◌, zero, suc, Bool, true, false, cond, ◌||◌, List, [], ◌∷◌, ◌++◌, length, drop, take, map, get_or, Contains, inl, inr, refl, arith, ap, sym, ◌∙◌, add-one}
use Rattle.std.specs.Prelude.{Option, Some, None, filter, slice_get}
use Rattle.pg_meaning.specs.Members.{in_nil, in_here, in_there, in_cons}

pub true_false : true ≡ false → ⊥
true_false h = cc

pub or_left : (a b : Bool) → a ≡ true → (a || b) ≡ true
or_left a b h = cc

pub or_right : (a b : Bool) → b ≡ true → (a || b) ≡ true
or_right true b h = refl
or_right false b h = h

module _ {X : Type 0} where
  kept_step : (test : X → Bool) (y : X) (ys : List X) (x : X) (b : Bool) → test y ≡ b → test x ≡ true → (Contains ys x → Contains (filter test ys) x) → Contains (y ∷ ys) x
      → Contains (cond b (y ∷ filter test ys) (filter test ys)) x
  kept_step test y ys x true e t rest c = elim (in_cons y ys x c) [ inl s ↦ in_here y (filter test ys) x s | inr r ↦ in_there y (filter test ys) x (rest r) ]
  kept_step test y ys x false e t rest c = elim (in_cons y ys x c) [ inl s ↦ absurd (true_false (sym t ∙ ap test (sym s) ∙ e)) | inr r ↦ rest r ]

  -- what passes the test is kept
  pub kept : (test : X → Bool) (xs : List X) (x : X) → Contains xs x → test x ≡ true → Contains (filter test xs) x
  kept test [] x c t = absurd (in_nil x c)
  kept test (y ∷ ys) x c t = kept_step test y ys x (test y) refl t (λ r. kept test ys x r t) c

  twice_step : (p q : X → Bool) (x : X) (xs : List X) → (q x ≡ true → p x ≡ true) → (a b : Bool) → p x ≡ a → q x ≡ b → filter q (filter p xs) ≡ filter q xs
      → filter q (cond a (x ∷ filter p xs) (filter p xs)) ≡ cond b (x ∷ filter q xs) (filter q xs)
  twice_step p q x xs h true b e f r = ap (λ c. cond c (x ∷ filter q (filter p xs)) (filter q (filter p xs))) f ∙ ap (λ ys. cond b (x ∷ ys) ys) r
  twice_step p q x xs h false true e f r = absurd (true_false (sym (h f) ∙ e))
  twice_step p q x xs h false false e f r = r

  -- a filter behind a weaker one
  pub filter_twice : (p q : X → Bool) → ((x : X) → q x ≡ true → p x ≡ true) → (xs : List X) → filter q (filter p xs) ≡ filter q xs
  filter_twice p q h [] = refl
  filter_twice p q h (x ∷ xs) = twice_step p q x xs (h x) (p x) (q x) refl refl (filter_twice p q h xs)

  append_step : (p : X → Bool) (x : X) (xs ys : List X) (b : Bool) → filter p (xs ++ ys) ≡ filter p xs ++ filter p ys
      → cond b (x ∷ filter p (xs ++ ys)) (filter p (xs ++ ys)) ≡ cond b (x ∷ filter p xs) (filter p xs) ++ filter p ys
  append_step p x xs ys true r = ap (λ zs. x ∷ zs) r
  append_step p x xs ys false r = r

  pub filter_both : (p : X → Bool) (xs ys : List X) → filter p (xs ++ ys) ≡ filter p xs ++ filter p ys
  filter_both p [] ys = refl
  filter_both p (x ∷ xs) ys = append_step p x xs ys (p x) (filter_both p xs ys)

  pub drop_here : (xs : List X) (k : ℕ) (x : X) → slice_get xs k ≡ Some x → drop k xs ≡ x ∷ drop (k + 1) xs
  drop_here [] k x h = absurd (cc)
  drop_here (y ∷ ys) zero x h = let same : y ≡ x = cc in ap (λ z. z ∷ ys) same
  drop_here (y ∷ ys) (suc k) x h = rw add-one (rw add-one at (drop_here ys k x h))

  pub none_from : (xs : List X) (k : ℕ) → length xs ≤ k → slice_get xs k ≡ None
  none_from [] zero l = refl
  none_from [] (suc k) l = refl
  none_from (x ∷ xs) zero l = absurd (omega arith)
  none_from (x ∷ xs) (suc k) l = none_from xs k (omega arith)

  pub beyond : (xs : List X) (k : ℕ) → slice_get xs k ≡ None → length xs ≤ k
  beyond [] k h = omega arith
  beyond (x ∷ xs) zero h = absurd (cc)
  beyond (x ∷ xs) (suc k) h = let l = beyond xs k h in omega arith

  pub within : (xs : List X) (k : ℕ) (x : X) → slice_get xs k ≡ Some x → k < length xs
  within [] k x h = absurd (cc)
  within (y ∷ ys) zero x h = omega arith
  within (y ∷ ys) (suc k) x h = let l = within ys k x h in omega arith

  pub one_get : (o : Option X) (x y : X) → o ≡ Some x → o ≡ Some y → x ≡ y
  one_get o x y h k = let same : Some x ≡ Some y = sym h ∙ k in cc

  pub none_some : (o : Option X) (x : X) → o ≡ None → o ≡ Some x → ⊥
  none_some o x h k = let e : None ≡ Some x = sym h ∙ k in cc

  pub drop_map : {Y : Type 0} (f : X → Y) (k : ℕ) (xs : List X) → map f (drop k xs) ≡ drop k (map f xs)
  drop_map f zero xs = refl
  drop_map f (suc k) [] = refl
  drop_map f (suc k) (x ∷ xs) = drop_map f k xs

  -- one item more of a list
  pub map_one_more : {Y : Type 0} (f : X → Y) (xs : List X) (i : ℕ) (x : X) → i < length xs → x ≡ get_or xs i x → map f (take i xs) ++ f x ∷ [] ≡ map f (take (i + 1) xs)
  map_one_more f [] i x l e = absurd (omega arith)
  map_one_more f (y ∷ ys) zero x l e = ap (λ z. f z ∷ []) e
  map_one_more f (y ∷ ys) (suc i) x l e = rw add-one (ap (λ zs. f y ∷ zs) (rw add-one at (map_one_more f ys i x (omega arith) e)))

  pub filter_one_more : {Y : Type 0} (p : Y → Bool) (f : X → Y) (xs : List X) (i : ℕ) (x : X) → i < length xs → x ≡ get_or xs i x
      → filter p (map f (take i xs)) ++ cond (p (f x)) (f x ∷ []) [] ≡ filter p (map f (take (i + 1) xs))
  filter_one_more p f xs i x l e = sym (filter_both' p (map f (take i xs)) (f x ∷ [])) ∙ ap (filter p) (map_one_more f xs i x l e)
    where
      step' : {Y : Type 0} (p : Y → Bool) (x : Y) (xs ys : List Y) (b : Bool) → filter p (xs ++ ys) ≡ filter p xs ++ filter p ys
          → cond b (x ∷ filter p (xs ++ ys)) (filter p (xs ++ ys)) ≡ cond b (x ∷ filter p xs) (filter p xs) ++ filter p ys
      step' p x xs ys true r = ap (λ zs. x ∷ zs) r
      step' p x xs ys false r = r

      filter_both' : {Y : Type 0} (p : Y → Bool) (xs ys : List Y) → filter p (xs ++ ys) ≡ filter p xs ++ filter p ys
      filter_both' p [] ys = refl
      filter_both' p (x ∷ xs) ys = step' p x xs ys (p x) (filter_both' p xs ys)
