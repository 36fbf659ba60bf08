-- The tight steps of a search that has ended: those that lead to their spots by least hops. A shortest walk goes by such steps alone.
use Rattle.std.specs.Prelude.{◌≡◌, ◌<◌, ℕ, List, [], ◌∷◌, ◌++◌, map, length, Vec, Contains, Some, slice_get}
use Rattle.std.specs.Option.{unwrap_or}
use Rattle.std.specs.declared.alloc.Global.{Global}
use Rattle.pg_meaning.specs.Bindings.{Distinct}
use Rattle.pg_short.specs.Spots.{Spot}
use Rattle.pg_short.specs.Steps.{Step}

-- The steps that are found, the numbers of those that are visited, and the spots to which these lead, belong together; and the step before
-- each is visited.
pub record AreTogether (found : List Step) (order : List ℕ) (spots : List Spot) : Type 0 where
  pub ordered : (n : ℕ) → Contains order n → n < length found
  pub as_many : length spots ≡ length order
  pub apart : Distinct spots
  pub stand : (p n : ℕ) (step : Step) → slice_get order p ≡ Some n → slice_get found n ≡ Some step → slice_get spots p ≡ Some step.spot
  pub back : (k : ℕ) (step : Step) → slice_get found k ≡ Some step → step.before < k → Contains order step.before

-- the spot of a place is that of the step that is visited there
pub record IsPlace (found : List Step) (order : List ℕ) (p : ℕ) (step : Step) : Type 0 where
  pub number : ℕ
  pub here : slice_get order p ≡ Some number
  pub there : slice_get found number ≡ Some step

-- a step, other than the first, leads to the spot of a place by as few hops as any
pub record IsTight (found : List Step) (order : List ℕ) (p k : ℕ) : Type 0 where
  pub step : Step
  pub there : slice_get found k ≡ Some step
  pub goes : step.before < k
  pub least : Step
  pub place : IsPlace found order p least
  pub spot : step.spot ≡ least.spot
  pub long : step.long ≡ least.long

-- the numbers by a place
abbrev pub list_in : List (List ℕ) → ℕ → List ℕ
list_in lists p = unwrap_or (slice_get lists p) []

abbrev pub numbers_in : List (Vec ℕ Global) → List (List ℕ)
numbers_in lists = map (λ list. list.items) lists

-- by each place, of the steps before a number, those that are tight
pub record AreTight (found : List Step) (order : List ℕ) (lists : List (List ℕ)) (n : ℕ) : Type 0 where
  pub as_many : length lists ≡ length order
  pub all : (p k : ℕ) → k < n → IsTight found order p k → Contains (list_in lists p) k
  pub only : (p k : ℕ) → Contains (list_in lists p) k → IsTight found order p k

-- a number is appended to the list of a place
pub record IsAt (lists : List (List ℕ)) (place number : ℕ) (more : List (List ℕ)) : Type 0 where
  pub as_many : length more ≡ length lists
  pub here : list_in more place ≡ list_in lists place ++ number ∷ []
  pub else : (p : ℕ) → (p ≡ place → ⊥) → list_in more p ≡ list_in lists p
