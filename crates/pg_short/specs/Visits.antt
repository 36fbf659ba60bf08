-- What is visited.
use Rattle.std.specs.Prelude.{◌≡◌, Bool, true, false, List, [], ◌∷◌, ◌++◌, Contains}

-- an item is put behind the others where it is not among them
abbrev pub IsAdded : {X : Type 0} → List X → X → List X → Bool → Type 0
IsAdded xs x ys true = (ys ≡ xs ++ x ∷ []) × (Contains xs x → ⊥)
IsAdded xs x ys false = (ys ≡ xs) × Contains xs x
