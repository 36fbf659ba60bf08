-- Sums over lists.
use Rattle.std.proofs.Common.{◌≡◌, ◌≤◌, ◌+◌, ◌<◌, ℕ, zero, suc, Bool, true, false, cond, List, [], ◌∷◌, ◌++◌, length, map, take, get_or, add-one, Contains, refl, arith, ap, sym, ◌∙◌}
use Rattle.std.specs.Prelude.{filter, flat_map, sum_by}
use Rattle.std.proofs.lemmas.List.Sums.{sum_by-cons, sum_by-append}
use Rattle.pg_meaning.specs.Members.{in_here, in_there}

module _ {X : Type 0} where
  pub sum_below : (f h : X → ℕ) (xs : List X) → ((x : X) → Contains xs x → f x ≤ h x) → sum_by f xs ≤ sum_by h xs
  sum_below f h [] l = omega arith
  sum_below f h (x ∷ xs) l =
      let a = sum_by-cons f x xs in
      let b = sum_by-cons h x xs in
      let first = l x (in_here x xs x refl) in
      let rest = sum_below f h xs (λ y c. l y (in_there x xs y c)) in
      omega arith

  pub sum_both : (f h : X → ℕ) (xs : List X) → sum_by (λ x. f x + h x) xs ≡ sum_by f xs + sum_by h xs
  sum_both f h [] = refl
  sum_both f h (x ∷ xs) =
      let a = sum_by-cons f x xs in
      let b = sum_by-cons h x xs in
      let d = sum_by-cons (λ y. f y + h y) x xs in
      let rest = sum_both f h xs in
      omega arith

  pub sum_map : {Y : Type 0} (f : Y → ℕ) (h : X → Y) (xs : List X) → sum_by f (map h xs) ≡ sum_by (λ x. f (h x)) xs
  sum_map f h [] = refl
  sum_map f h (x ∷ xs) =
      let a = sum_by-cons f (h x) (map h xs) in
      let b = sum_by-cons (λ y. f (h y)) x xs in
      let rest = sum_map f h xs in
      omega arith

  pub sum_flat : {Y : Type 0} (f : Y → ℕ) (h : X → List Y) (xs : List X) → sum_by f (flat_map h xs) ≡ sum_by (λ x. sum_by f (h x)) xs
  sum_flat f h [] = refl
  sum_flat f h (x ∷ xs) =
      let a = sum_by-append f (h x) (flat_map h xs) in
      let b = sum_by-cons (λ y. sum_by f (h y)) x xs in
      let rest = sum_flat f h xs in
      omega arith

  kept_step : (f : X → ℕ) (x : X) (xs ys : List X) (b : Bool) → sum_by f ys ≤ sum_by f xs → sum_by f (cond b (x ∷ ys) ys) ≤ f x + sum_by f xs
  kept_step f x xs ys true l = let a = sum_by-cons f x ys in omega arith
  kept_step f x xs ys false l = omega arith

  pub sum_kept : (f : X → ℕ) (test : X → Bool) (xs : List X) → sum_by f (filter test xs) ≤ sum_by f xs
  sum_kept f test [] = omega arith
  sum_kept f test (x ∷ xs) =
      let a = sum_by-cons f x xs in
      let b = kept_step f x xs (filter test xs) (test x) (sum_kept f test xs) in
      omega arith

  -- one item more of a list
  pub sum_one_more : (f : X → ℕ) (xs : List X) (i : ℕ) (x : X) → i < length xs → x ≡ get_or xs i x → sum_by f (take (i + 1) xs) ≡ sum_by f (take i xs) + f x
  sum_one_more f [] i x l e = absurd (omega arith)
  sum_one_more f (y ∷ ys) zero x l e = let same : x ≡ y = e in let a = sum_by-cons f y [] in let b = ap f same in omega arith
  sum_one_more f (y ∷ ys) (suc i) x l e =
      rw add-one (let a = sum_by-cons f y (take (suc i) ys) in
      let b = sum_by-cons f y (take i ys) in
      let r : sum_by f (take (suc i) ys) ≡ sum_by f (take i ys) + f x = rw add-one at (sum_one_more f ys i x (omega arith) e) in
      omega arith)
