-- The rows of a table, as a walk over it lends them.
use Rattle.std.proofs.Common.{◌≡◌, ◌==◌, [], ◌∷◌, Bool, true, false, cond, map, refl, sym}
use Rattle.std.proofs.lemmas.Bool.{eqb-true}
use Rattle.pg_value.specs.declared.shape.TableNo.{TableNo}
use Rattle.pg_value.specs.Tables.{Stored, Tables, held_in}

-- a row as one of this table
abbrev pub of_table : TableNo → Stored → Stored
of_table t s = record { table = t; key = s.key; row = s.row }

-- it is one
pub all_of_table : (t : TableNo) (tables : Tables) → map (of_table t) (held_in t tables) ≡ held_in t tables
all_of_table t [] = refl
all_of_table t (s ∷ ss) = go (s.table.0 == t.0) refl (all_of_table t ss)
  where
    go : (b : Bool) → (s.table.0 == t.0) ≡ b → map (of_table t) (held_in t ss) ≡ held_in t ss → map (of_table t) (cond b (s ∷ held_in t ss) (held_in t ss)) ≡ cond b (s ∷ held_in t ss) (held_in t ss)
    go true e r = λ i. record { table = record { 0 = sym (eqb-true s.table.0 t.0 e) i }; key = s.key; row = s.row } ∷ r i
    go false e r = r
