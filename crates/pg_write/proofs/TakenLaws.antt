-- One turn of a walk over the rows that a change proposes.
use Rattle.std.proofs.Common.{ℕ, ◌≡◌, ◌+◌, ◌<◌, Bool, true, false, cond, refl, ap, sym, ◌∙◌, List, [], ◌∷◌, map, filter, length, get_or, drop}
use Rattle.std.specs.Prelude.{option_to_list}
use Rattle.std.specs.Option.{option_map}
use Rattle.std.proofs.lemmas.Option.{none-some, same_Some}
use Rattle.std.specs.declared.option.Option.{Option}
use Rattle.std.specs.declared.option.Option.TheVariants.{Some, None}
use Rattle.pg_keyed.specs.Lists.{Each}
use Rattle.pg_keyed.specs.Reads.{get_key}
use Rattle.pg_value.specs.declared.value.Value.{Value}
use Rattle.pg_value.specs.declared.shape.TableNo.{TableNo}
use Rattle.pg_value.specs.declared.shape.TableShape.{TableShape}
use Rattle.pg_value.specs.declared.write.Write.{Write}
use Rattle.pg_value.specs.declared.row.Key.{Key}
use Rattle.pg_value.specs.Order.{place_cmp}
use Rattle.pg_value.specs.Orders.{places}
use Rattle.pg_value.specs.Tables.{Stored, Tables, place_of, held_in, stored_at}
use Rattle.pg_meaning.specs.Reads as reads
use Rattle.pg_value.specs.TablesLaws.{stored_in, stored_at_in}
use Rattle.pg_meaning.specs.declared.checked.CExpr.{CExpr}
use Rattle.pg_meaning.specs.declared.checked.CheckedChange.{CheckedChange}
use Rattle.pg_rules.specs.declared.fault.RowFault.{RowFault}
use Rattle.pg_rules.specs.Changes.InsertEffect.{row_of, write_of}
use Rattle.pg_rules.specs.Changes.ChangeEffect.{Context, takes}
use Rattle.pg_write.specs.declared.tables.HeldRow.{HeldRow}
use Rattle.pg_write.specs.HeldRows.{stored_of, all_stored}
use Rattle.pg_write.specs.JudgedRows.{SoFar, Fine, told, and_then, row_judged, judged, condition_of, write_for, writes_of, row_taken, rows_taken, row_at}
use Rattle.pg_write.proofs.Loops.{drop_at}
use Rattle.pg_write.proofs.ProposedLaws.{found_one}

module _ (c : Context) (insert : Bool) where
  -- TUPLES

  pub tuple_turn : (table : TableNo) (shape : TableShape) (columns : List ℕ) (s after : SoFar) (tuples : List (List CExpr)) (i : ℕ) (tuple : List CExpr) (w : Write) (f : Option RowFault)
      → i < length tuples → tuple ≡ get_or tuples i tuple → w ≡ write_of table shape (row_of shape columns tuple) → row_judged c insert s w ≡ told f after
      → judged c insert s (writes_of table shape columns (drop i tuples)) ≡ and_then (told f after) (λ t. judged c insert t (writes_of table shape columns (drop (i + 1) tuples)))
  tuple_turn table shape columns s after tuples i tuple w f inside is e h =
      ap (λ l. judged c insert s (writes_of table shape columns l)) (drop_at tuples i tuple inside is)
      ∙ ap (λ j. and_then j (λ t. judged c insert t (writes_of table shape columns (drop (i + 1) tuples)))) (ap (row_judged c insert s) (sym e) ∙ h)

  -- ROWS

  first_taken : (change : CheckedChange) (s : SoFar) (r : Stored) (rows : List Stored) → rows_taken c insert change s (r ∷ rows) ≡ and_then (row_taken c insert change s r) (λ t. rows_taken c insert change t rows)
  first_taken change s r rows = go (takes (condition_of change) r.row)
    where
      go : (b : Bool) → judged c insert s (map (write_for change) (cond b (r ∷ filter (λ s. takes (condition_of change) s.row) rows) (filter (λ s. takes (condition_of change) s.row) rows)))
          ≡ and_then (cond b (row_judged c insert s (write_for change r)) (Fine s)) (λ t. rows_taken c insert change t rows)
      go true = refl
      go false = refl

  pub row_turn : (change : CheckedChange) (s after : SoFar) (rows : List HeldRow) (i : ℕ) (r : HeldRow) (f : Option RowFault) → i < length rows → r ≡ get_or rows i r → row_taken c insert change s (stored_of r) ≡ told f after
      → rows_taken c insert change s (all_stored (drop i rows)) ≡ and_then (told f after) (λ t. rows_taken c insert change t (all_stored (drop (i + 1) rows)))
  row_turn change s after rows i r f inside is h =
      ap (λ l. rows_taken c insert change s (all_stored l)) (drop_at rows i r inside is)
      ∙ first_taken change s (stored_of r) (all_stored (drop (i + 1) rows))
      ∙ ap (λ j. and_then j (λ t. rows_taken c insert change t (all_stored (drop (i + 1) rows)))) h

-- THE ROW OF A KEY

pub each_at : (P : Stored → Type 0) (table : TableNo) (tables : Tables) (k : List Value) → Each P (held_in table tables) → Each P (row_at tables table k)
each_at P table tables k h = go (stored_at (table.0, k) tables) (stored_at_in table k tables)
  where
    go : (o : Option Stored) → stored_in k (held_in table tables) ≡ o → Each P (option_to_list o)
    go None e = tt
    go (Some s) e = (found_one P _ (held_in table tables) s h e, tt)

-- a row that is found by its key, lent beside the key
pub found_is : (tables : Tables) (held : HeldRow) → reads.row_at tables held.table held.key.now ≡ Some held.row.now → row_at tables held.table held.key.now.values ≡ all_stored (held ∷ [])
found_is tables held h = go (stored_at (held.table.0, held.key.now.values) tables) refl h
  where
    go : (o : Option Stored) → stored_at (held.table.0, held.key.now.values) tables ≡ o → option_map (λ (s : Stored). s.row) o ≡ Some held.row.now → option_to_list o ≡ all_stored (held ∷ [])
    go None e f = absurd (none-some held.row.now f)
    go (Some s) e f = let k = get_key place_of place_cmp places (held.table.0, held.key.now.values) tables s e in ap (λ (x : Stored). x ∷ []) (is s k (same_Some s.row held.row.now f))
      where
        is : (s : Stored) → (held.table.0, held.key.now.values) ≡ place_of s → s.row ≡ held.row.now → s ≡ stored_of held
        is s k r = λ i. record { table = record { 0 = (sym k i).0 }; key = record { values = (sym k i).1 }; row = r i }

-- none is found, none is taken
pub none_found : (tables : Tables) (table : TableNo) (key : Key) → reads.row_at tables table key ≡ None → row_at tables table key.values ≡ []
none_found tables table key h = go (stored_at (table.0, key.values) tables) h
  where
    go : (o : Option Stored) → option_map (λ (s : Stored). s.row) o ≡ None → option_to_list o ≡ []
    go None e = refl
    go (Some s) e = absurd (none-some s.row (sym e))
