-- What is known of a sound change over rows that fit: its expressions may be evaluated over them.
use Rattle.std.proofs.Common.{ℕ, zero, suc, ◌≡◌, ◌<◌, ◌^◌, true, refl, ap, sym, subst, ◌∙◌, List, [], ◌∷◌, length, arith, inl, inr}
use Rattle.std.specs.Prelude.{◌==◌, IfSome, slice_get}
use Rattle.std.specs.declared.option.Option.{Option}
use Rattle.std.specs.declared.option.Option.TheVariants.{Some, None}
use Rattle.std.specs.List.{AllZip}
use Rattle.std.proofs.lemmas.Bool.{eqb-true}
use Rattle.std.proofs.lemmas.Option.{none-some, same_Some}
use Rattle.pg_keyed.specs.Lists.{Each, each_map, each_filter, each_kept}
use Rattle.pg_value.specs.declared.row.Row.{Row}
use Rattle.pg_value.specs.declared.shape.TableNo.{TableNo}
use Rattle.pg_value.specs.declared.shape.TableShape.{TableShape}
use Rattle.pg_value.specs.declared.shape.Shapes.{Shapes}
use Rattle.pg_value.specs.Tables.{Stored, Tables, FitsRow, FitsBoth, FitsStored, FitTables, held_in}
use Rattle.pg_meaning.specs.declared.checked.CExpr.{CExpr}
use Rattle.pg_meaning.specs.declared.checked.CheckedSet.{CheckedSet}
use Rattle.pg_meaning.specs.declared.checked.CheckedChange.{CheckedChange}
use Rattle.pg_meaning.specs.declared.checked.CheckedChange.TheVariants.{Insert, Update, Delete}
use Rattle.pg_meaning.specs.Sound.{IsSoundCondition}
use Rattle.pg_meaning.specs.Sound.Kinds.{OfColumns}
use Rattle.pg_meaning.specs.Sound.Graphs.{AreSoundShapes, IsSoundTable}
use Rattle.pg_meaning.specs.Sound.Changes.{no_variables, IsSoundValue, IsSoundInsert, IsSoundFor}
use Rattle.pg_expr.specs.Conditions.{IsCheckedForRow}
use Rattle.pg_write.specs.JudgedRows.{no_values, IsCheckedFor, AreCheckedFor, AreStored}

-- TUPLES

values_checked : (shape : TableShape) (columns : List ℕ) (tuple : List CExpr) → AllZip (IsSoundValue shape (OfColumns [])) columns tuple → Each (IsCheckedForRow no_values) tuple
values_checked shape [] [] h = tt
values_checked shape [] (e ∷ es) h = absurd h
values_checked shape (c ∷ cs) [] h = absurd h
values_checked shape (c ∷ cs) (e ∷ es) h = (record { columns = []; sound = h.0.sound.sound; fits = inr refl }, values_checked shape cs es h.1)

pub tuples_checked : (shape : TableShape) (columns : List ℕ) (tuples : List (List CExpr)) → IsSoundInsert shape columns tuples → Each (Each (IsCheckedForRow no_values)) tuples
tuples_checked shape columns tuples h = each_map (AllZip (IsSoundValue shape (OfColumns [])) columns) (Each (IsCheckedForRow no_values)) (λ t k. values_checked shape columns t k) tuples h.values

-- ROWS

condition_checked : (shape : TableShape) (row : Row) (condition : Option CExpr) → FitsRow shape row → IsSoundCondition (OfColumns shape.columns) no_variables condition → IfSome condition (IsCheckedForRow row)
condition_checked shape row None f h = tt
condition_checked shape row (Some e) f h = record { columns = shape.columns; sound = h.sound; fits = inl f }

sets_checked : (shape : TableShape) (row : Row) (sets : List CheckedSet) → FitsRow shape row → Each (λ s. IsSoundValue shape (OfColumns shape.columns) s.column s.value) sets → Each (λ s. IsCheckedForRow row s.value) sets
sets_checked shape row sets f h = each_map (λ s. IsSoundValue shape (OfColumns shape.columns) s.column s.value) (λ s. IsCheckedForRow row s.value)
    (λ s k. record { columns = shape.columns; sound = k.sound.sound; fits = inl f }) sets h

row_checked : (shape : TableShape) (change : CheckedChange) (row : Row) → FitsRow shape row → IsSoundFor shape change → IsCheckedFor change row
row_checked shape (Insert t columns tuples) row f h = record { condition = tt; values = tt }
row_checked shape (Update t sets condition) row f h = record { condition = condition_checked shape row condition f h.condition_sound; values = sets_checked shape row sets f h.values }
row_checked shape (Delete t condition) row f h = record { condition = condition_checked shape row condition f h; values = tt }

pub rows_checked : (table : TableNo) (shape : TableShape) (tables : Tables) (change : CheckedChange) → IsSoundFor shape change → AreStored table shape tables → AreCheckedFor change (held_in table tables)
rows_checked table shape tables change h a = each_map (λ s. FitsBoth shape s.key s.row) (λ s. IsCheckedFor change s.row) (λ s f. row_checked shape change s.row f.0 h) (held_in table tables) a.each

-- TABLES

one_shape : (shapes : Shapes) (table : TableNo) (shape : TableShape) (s : Stored) → slice_get shapes.tables table.0 ≡ Some shape → (s.table.0 == table.0) ≡ true → FitsStored shapes s → FitsBoth shape s.key s.row
one_shape shapes table shape s at own f =
    subst (λ x. FitsBoth x s.key s.row) (same_Some f.0 shape (sym f.1 ∙ ap (slice_get shapes.tables) (eqb-true s.table.0 table.0 own) ∙ at)) f.3

both_hold : (shapes : Shapes) (table : TableNo) (shape : TableShape) (rows : List Stored) → slice_get shapes.tables table.0 ≡ Some shape → Each (λ s. (s.table.0 == table.0) ≡ true) rows → Each (FitsStored shapes) rows → Each (λ s. FitsBoth shape s.key s.row) rows
both_hold shapes table shape [] at o f = tt
both_hold shapes table shape (s ∷ rows) at o f = (one_shape shapes table shape s at o.0 f.0, both_hold shapes table shape rows at o.1 f.1)

pub are_stored : (shapes : Shapes) (table : TableNo) (shape : TableShape) (tables : Tables) → slice_get shapes.tables table.0 ≡ Some shape → FitTables shapes tables → AreStored table shape tables
are_stored shapes table shape tables at f = record {
  in_order = f.in_order;
  each = both_hold shapes table shape (held_in table tables) at (each_kept (λ s. s.table.0 == table.0) tables) (each_filter (FitsStored shapes) (λ s. s.table.0 == table.0) tables f.each);
}

sound_at : (tables : List TableShape) (t : ℕ) (shape : TableShape) → Each IsSoundTable tables → slice_get tables t ≡ Some shape → IsSoundTable shape
sound_at [] t shape h e = absurd (none-some shape e)
sound_at (x ∷ tables) zero shape h e = subst IsSoundTable (same_Some x shape e) h.0
sound_at (x ∷ tables) (suc t) shape h e = sound_at tables t shape h.1 e

pub table_sound : (shapes : Shapes) (table : TableNo) (shape : TableShape) → AreSoundShapes shapes → slice_get shapes.tables table.0 ≡ Some shape → IsSoundTable shape
table_sound shapes table shape h e = sound_at shapes.tables table.0 shape h.tables e

pub few_columns : (shapes : Shapes) (table : TableNo) (shape : TableShape) → AreSoundShapes shapes → slice_get shapes.tables table.0 ≡ Some shape → length shape.columns < 2 ^ 32
few_columns shapes table shape h e = let s = table_sound shapes table shape h e in let f = s.few in omega (arith, f)
