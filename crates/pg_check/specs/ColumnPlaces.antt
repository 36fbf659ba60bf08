-- The places of the columns of properties that were looked up.
use Rattle.std.specs.Prelude.{ℕ, ◌≡◌, List, [], ◌∷◌, Option}
use Rattle.std.proofs.Common.{Bor}
use Rattle.pg_value.specs.declared.shape.GraphNo.{GraphNo}
use Rattle.pg_rules.specs.Catalog.{Defined}
use Rattle.pg_rules.specs.Queries.CheckedQueries.{columns_of}

abbrev pub Places : Type 0
Places = List (List ℕ × List (Option ℕ))

abbrev pub places_entry : Bor (List ℕ) × List (Option ℕ) → List ℕ × List (Option ℕ)
places_entry e = (e.0.now, e.1)

-- each name has its places
abbrev pub AreColumns : Defined → GraphNo → Places → Type 0
AreColumns d g [] = Unit {0}
AreColumns d g (p ∷ places) = (p.1 ≡ columns_of d g p.0) × AreColumns d g places
