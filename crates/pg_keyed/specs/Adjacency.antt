-- Edges in order of an end and then of their key: those at an end are a filter of the table's.
use Rattle.std.specs.Prelude.{List, [], ◌∷◌, ◌≡◌}
use Rattle.std.specs.declared.cmp.Ordering.{Ordering}
use Rattle.std.specs.declared.cmp.Ordering.TheVariants.{Less}
use Rattle.std.specs.Ordering.{is_eq, ordering_then}
use Rattle.std.specs.List.{filter}
use Rattle.pg_keyed.specs.Keyed.{Ascends}
use Rattle.pg_keyed.specs.Lists.{Each, Among}

-- a table's edges, and the same in order of an end and the key
module _ {X V K : Type 0} (place : X → V) (key : X → K) (vcmp : V → V → Ordering) (cmp : K → K → Ordering) where
  abbrev pub at_end : V → List X → List X
  at_end v xs = filter (λ x. is_eq (vcmp v (place x))) xs

  -- in order of the end, then of the key
  abbrev pub Grouped : List X → Type 0
  Grouped [] = Unit {0}
  Grouped (x ∷ xs) = Each (λ y. ordering_then (vcmp (place x) (place y)) (cmp (key x) (key y)) ≡ Less) xs × Grouped xs

  -- at each end stand the table's edges at that end, in order of their keys
  abbrev pub SameAtEnds : Type 0
  SameAtEnds =
      (rows grouped : List X) (v : V) → Ascends key cmp rows → Grouped grouped → ((x : X) → Among x rows → Among x grouped) → ((x : X) → Among x grouped → Among x rows) → at_end v grouped ≡ at_end v rows
