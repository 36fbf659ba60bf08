-- What several tasks gave, as one list.
use Rattle.std.specs.Prelude.{◌≡◌, List, Result, Ok, map}
use Rattle.std.specs.List.{flat_map}

-- none was refused, and these are what they gave, one after another
abbrev pub AreParts : {X E : Type 0} → List (Result (List X) E) → List X → Type 0
AreParts {X} parts xs = (lists : List (List X)) × (parts ≡ map (λ list. Ok list) lists) × (xs ≡ flat_map (λ list. list) lists)
