-- Putting an item behind others.
use Rattle.std.specs.Prelude.{◌≡◌, ◌⊎◌, List, [], ◌∷◌, ◌++◌, Contains}

-- the item was there, or stands behind the others
abbrev pub IsPut : {X : Type 0} → List X → X → List X → Type 0
IsPut all x more = ((more ≡ all) × Contains all x) ⊎ ((more ≡ all ++ x ∷ []) × (Contains all x → ⊥))
