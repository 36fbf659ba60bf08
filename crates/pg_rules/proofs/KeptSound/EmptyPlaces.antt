-- Kinds of faults that have no place: what each part of their lists of places says.
use Rattle.std.proofs.Common.{◌≡◌, ℕ, Bool, true, false, not, refl, ap, arith, List, [], ◌∷◌, ◌++◌, length, is_some}
use Rattle.std.specs.List.{flat_map}
use Rattle.std.specs.declared.option.Option.{Option}
use Rattle.std.specs.declared.option.Option.TheVariants.{Some, None}
use Rattle.pg_keyed.specs.Lists.{Each}
use Rattle.pg_rules.specs.Places.{sooner, least, fault_at, place_if}

pub left_nil : {X : Type 0} (xs ys : List X) → xs ++ ys ≡ [] → xs ≡ []
left_nil [] ys h = refl
left_nil (x ∷ xs) ys h = absurd (omega (arith, ap length h))

pub right_nil : {X : Type 0} (xs ys : List X) → xs ++ ys ≡ [] → ys ≡ []
right_nil [] ys h = h
right_nil (x ∷ xs) ys h = absurd (omega (arith, ap length h))

pub each_nil : {X : Type 0} (f : X → List ℕ) (xs : List X) → flat_map f xs ≡ [] → Each (λ x. f x ≡ []) xs
each_nil f [] h = tt
each_nil f (x ∷ xs) h = (left_nil (f x) (flat_map f xs) h, each_nil f xs (right_nil (f x) (flat_map f xs) h))

pub no_place : (b : Bool) (at : ℕ) → place_if b at ≡ [] → b ≡ false
no_place false at h = refl
no_place true at h = absurd (omega (arith, ap length h))

some_none : {F : Type 0} (x : F) → Some x ≡ None → ⊥
some_none x e = cc

-- a kind that has no place is not the first fault, nor is what comes after where there is no fault
pub no_fault : {F : Type 0} (f : ℕ → F) (place : Option ℕ) (later : Option F) → fault_at f place later ≡ None → (place ≡ None) × (later ≡ None)
no_fault f None later h = (refl, h)
no_fault f (Some p) later h = absurd (some_none (f p) h)

sooner_some : (p : ℕ) (o : Option ℕ) → sooner (Some p) o ≡ None → ⊥
sooner_some p None e = cc
sooner_some p (Some q) e = cc

pub no_least : (places : List ℕ) → least places ≡ None → places ≡ []
no_least [] h = refl
no_least (p ∷ ps) h = absurd (sooner_some p (least ps) h)

pub is_not : (b : Bool) → not b ≡ false → b ≡ true
is_not true h = refl
is_not false h = cc

pub is_there : {X : Type 0} (o : Option X) → is_some o ≡ true → (x : X) × (o ≡ Some x)
is_there None h = absurd (cc)
is_there (Some x) h = (x, refl)
