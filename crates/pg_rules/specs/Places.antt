-- The places of faults, and the first of them.
use Rattle.std.specs.Prelude.{ℕ, Bool, true, false, List, [], ◌∷◌, ◌++◌, ◌≡◌, min}
use Rattle.std.proofs.Common.{refl, ap, sym, ◌∙◌, arith}
use Rattle.std.specs.declared.option.Option.{Option}
use Rattle.std.specs.declared.option.Option.TheVariants.{Some, None}

-- the sooner of two places
abbrev pub sooner : Option ℕ → Option ℕ → Option ℕ
sooner None b = b
sooner (Some a) None = Some a
sooner (Some a) (Some b) = Some (min a b)

-- the least of some places
abbrev pub least : List ℕ → Option ℕ
least [] = None
least (p ∷ ps) = sooner (Some p) (least ps)

-- a place as a fault, or else what comes after
abbrev pub fault_at : {F : Type 0} → (ℕ → F) → Option ℕ → Option F → Option F
fault_at f None later = later
fault_at f (Some p) later = Some (f p)

-- the first kind that has a place, at its least
abbrev pub first_fault : {F : Type 0} → List ((ℕ → F) × List ℕ) → Option F
first_fault [] = None
first_fault (k ∷ ks) = fault_at k.0 (least k.1) (first_fault ks)

-- a place, where there is a fault
abbrev pub place_if : Bool → ℕ → List ℕ
place_if true at = at ∷ []
place_if false at = []

sooner_assoc : (a b c : Option ℕ) → sooner (sooner a b) c ≡ sooner a (sooner b c)
sooner_assoc None b c = refl
sooner_assoc (Some x) None c = refl
sooner_assoc (Some x) (Some y) None = refl
sooner_assoc (Some x) (Some y) (Some z) = ap Some (omega arith)

pub least_append : (xs ys : List ℕ) → least (xs ++ ys) ≡ sooner (least xs) (least ys)
least_append [] ys = refl
least_append (x ∷ xs) ys = ap (sooner (Some x)) (least_append xs ys) ∙ sym (sooner_assoc (Some x) (least xs) (least ys))

-- what is found so far, and what is left
pub least_found : (found : Option ℕ) (xs ys : List ℕ) → sooner (sooner found (least xs)) (least ys) ≡ sooner found (least (xs ++ ys))
least_found found xs ys = sooner_assoc found (least xs) (least ys) ∙ ap (sooner found) (sym (least_append xs ys))

pub sooner_none : (a : Option ℕ) → sooner a None ≡ a
sooner_none None = refl
sooner_none (Some x) = refl

-- a kind that has no place is not the first fault, nor is what comes after where there is no fault
pub no_fault : {F : Type 0} (f : ℕ → F) (place : Option ℕ) (later : Option F) → fault_at f place later ≡ None → (place ≡ None) × (later ≡ None)
no_fault f None later h = (refl, h)
no_fault f (Some p) later h = absurd (some_none (f p) h)
  where
    some_none : {F : Type 0} (x : F) → Some x ≡ None → ⊥
    some_none x e = cc

-- where there is no least place there is no place
pub no_least : (places : List ℕ) → least places ≡ None → places ≡ []
no_least [] h = refl
no_least (p ∷ ps) h = absurd (sooner_some p (least ps) h)
  where
    sooner_some : (p : ℕ) (o : Option ℕ) → sooner (Some p) o ≡ None → ⊥
    sooner_some p None e = cc
    sooner_some p (Some q) e = cc
