-- What each item of a list has: of parts of lists, of lists made of others, and where no item has a place.
use Rattle.std.proofs.Common.{◌≡◌, ◌≤◌, ℕ, zero, suc, Bool, true, false, not, refl, ap, arith, List, [], ◌∷◌, ◌++◌, map, length}
use Rattle.std.specs.Prelude.{option_to_list, slice_get}
use Rattle.std.specs.List.{flat_map}
use Rattle.pg_keyed.specs.Lists.{Each, each_map}
use Rattle.pg_rules.specs.Places.{place_if}
use Rattle.pg_rules.proofs.KeptSound.EmptyPlaces.{each_nil, no_place, is_not}

pub each_left : {X : Type 0} (P : X → Type 0) (xs ys : List X) → Each P (xs ++ ys) → Each P xs
each_left P [] ys h = tt
each_left P (x ∷ xs) ys h = (h.0, each_left P xs ys h.1)

pub each_right : {X : Type 0} (P : X → Type 0) (xs ys : List X) → Each P (xs ++ ys) → Each P ys
each_right P [] ys h = h
each_right P (x ∷ xs) ys h = each_right P xs ys h.1

pub each_flat : {X Y : Type 0} (P : Y → Type 0) (f : X → List Y) (xs : List X) → Each P (flat_map f xs) → Each (λ x. Each P (f x)) xs
each_flat P f [] h = tt
each_flat P f (x ∷ xs) h = (each_left P (f x) (flat_map f xs) h, each_flat P f xs (each_right P (f x) (flat_map f xs) h))

pub each_unmap : {X Y : Type 0} (P : Y → Type 0) (f : X → Y) (xs : List X) → Each P (map f xs) → Each (λ x. P (f x)) xs
each_unmap P f [] h = tt
each_unmap P f (x ∷ xs) h = (h.0, each_unmap P f xs h.1)

pub each_over : {X Y : Type 0} (P : Y → Type 0) (f : X → Y) (xs : List X) → Each (λ x. P (f x)) xs → Each P (map f xs)
each_over P f [] h = tt
each_over P f (x ∷ xs) h = (h.0, each_over P f xs h.1)

-- where there is no item beyond a number, there are at most so many
pub few : {X : Type 0} (xs : List X) (n : ℕ) → option_to_list (slice_get xs n) ≡ [] → length xs ≤ n
few [] n h = omega arith
few (x ∷ xs) zero h = absurd (omega (arith, ap length h))
few (x ∷ xs) (suc n) h = let r = few xs n h in omega arith

pub map_nil : {X Y : Type 0} (f : X → Y) (xs : List X) → map f xs ≡ [] → xs ≡ []
map_nil f [] h = refl
map_nil f (x ∷ xs) h = absurd (omega (arith, ap length h))

-- what each item has where no item has a place
pub each_free : {X : Type 0} (test : X → Bool) (at : X → ℕ) (xs : List X) → flat_map (λ x. place_if (test x) (at x)) xs ≡ [] → Each (λ x. test x ≡ false) xs
each_free test at xs h =
    each_map (λ x. place_if (test x) (at x) ≡ []) (λ x. test x ≡ false) (λ x e. no_place (test x) (at x) e) xs (each_nil (λ x. place_if (test x) (at x)) xs h)

pub each_passes : {X : Type 0} (test : X → Bool) (at : X → ℕ) (xs : List X) → flat_map (λ x. place_if (not (test x)) (at x)) xs ≡ [] → Each (λ x. test x ≡ true) xs
each_passes test at xs h = each_map (λ x. not (test x) ≡ false) (λ x. test x ≡ true) (λ x e. is_not (test x) e) xs (each_free (λ x. not (test x)) at xs h)
