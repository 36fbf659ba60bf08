-- Behind the test for the table, the faults over its columns are those of the change.
use Rattle.std.proofs.Common.{◌≡◌, ℕ, refl, ap, sym, ◌∙◌, Bool, true, false, not, List, [], ◌∷◌, ◌++◌, Some, None, Option}
use Rattle.std.specs.Prelude.{is_some, option_map, flat_map, map}
use Rattle.std.proofs.lemmas.Grind.{flat_map-append}
use Rattle.pg_ast.specs.declared.expr.Name.{Name}
use Rattle.pg_ast.specs.declared.statement.Insert.{Insert}
use Rattle.pg_ast.specs.declared.statement.Update.{Update}
use Rattle.pg_ast.specs.declared.statement.Delete.{Delete}
use Rattle.pg_ast.specs.declared.statement.SetItem.{SetItem}
use Rattle.pg_value.specs.declared.shape.TableNo.{TableNo}
use Rattle.pg_rules.specs.declared.entry.ColumnEntry.{ColumnEntry}
use Rattle.pg_rules.specs.declared.fault.ResolveFault.{ResolveFault}
use Rattle.pg_rules.specs.declared.fault.ResolveFault.TheVariants as faults
use Rattle.pg_rules.specs.Catalog.{Tables}
use Rattle.pg_rules.specs.Catalog.LookUps.{table_in, table_number, columns_named, key_named, column_place}
use Rattle.pg_rules.specs.Places.{least, place_if, fault_at}
use Rattle.pg_rules.specs.Definitions.Tables.{repeats}
use Rattle.pg_rules.specs.Definitions.Graphs.{missing}
use Rattle.pg_rules.specs.Changes.{OfInsert, OfUpdate, OfDelete, change_fault, names_in, named_in, named_in_condition}
use Rattle.pg_write.specs.ChangeVerdict.{delete_over, update_over, insert_over, later_update, missing_in_update}
use Rattle.pg_write.specs.ChangePasses.{missing_in_set}

past_table : (b : Bool) (at : ℕ) (later : Option ResolveFault) → b ≡ true → fault_at faults.NoTable (least (place_if (not b) at)) later ≡ later
past_table true at later h = refl
past_table false at later h = absurd (no_truth (sym h))
  where
    no_truth : true ≡ false → ⊥
    no_truth e = cc

pub no_table : (b : Bool) (at : ℕ) (later : Option ResolveFault) → b ≡ false → fault_at faults.NoTable (least (place_if (not b) at)) later ≡ Some (faults.NoTable at)
no_table false at later h = refl
no_table true at later h = absurd (no_truth h)
  where
    no_truth : true ≡ false → ⊥
    no_truth e = cc

-- where the look-up finds the table, it stands
pub stands : (o : Option ℕ) (t : Option TableNo) (missing' : Bool) → t ≡ option_map table_number o → is_some t ≡ not missing' → missing' ≡ false → is_some o ≡ true
stands None t missing' e f g = absurd (no_truth (sym (f ∙ ap not g) ∙ ap is_some e))
  where
    no_truth : true ≡ false → ⊥
    no_truth h = cc
stands (Some n) t missing' e f g = refl

pub delete_same : (tables : Tables) (x : Delete) → is_some (table_in tables x.table.text) ≡ true → change_fault tables (OfDelete x) ≡ delete_over (columns_named tables x.table.text) x
delete_same tables x h = past_table (is_some (table_in tables x.table.text)) x.table.at (delete_over (columns_named tables x.table.text) x) h

abbrev missing_one : List ColumnEntry → Name → List ℕ
missing_one columns n = place_if (not (is_some (column_place columns n.text))) n.at

nested : (columns : List ColumnEntry) (ss : List SetItem) → missing columns (flat_map (λ s. s.column ∷ named_in s.value) ss) ≡ flat_map (missing_in_set columns) ss
nested columns [] = refl
nested columns (s ∷ ss) =
    flat_map-append (missing_one columns) (s.column ∷ named_in s.value) (flat_map (λ s. s.column ∷ named_in s.value) ss)
    ∙ ap (λ l. missing columns (s.column ∷ named_in s.value) ++ l) (nested columns ss)

missing_same : (columns : List ColumnEntry) (u : Update) → missing columns (names_in (OfUpdate u)) ≡ missing_in_update columns u
missing_same columns u =
    flat_map-append (missing_one columns) (flat_map (λ s. s.column ∷ named_in s.value) u.sets) (named_in_condition u.cond)
    ∙ ap (λ l. l ++ missing columns (named_in_condition u.cond)) (nested columns u.sets)

pub update_same : (tables : Tables) (u : Update) → is_some (table_in tables u.table.text) ≡ true → change_fault tables (OfUpdate u) ≡ update_over (columns_named tables u.table.text) (key_named tables u.table.text) u
update_same tables u h =
    let columns = columns_named tables u.table.text in
    past_table (is_some (table_in tables u.table.text)) u.table.at _ h
    ∙ ap (λ places. fault_at faults.NoColumn (least places) (fault_at faults.ColumnTwice (least (repeats (map (λ s. s.column) u.sets))) (later_update columns (key_named tables u.table.text) u))) (missing_same columns u)

pub insert_same : (tables : Tables) (i : Insert) → is_some (table_in tables i.table.text) ≡ true → change_fault tables (OfInsert i) ≡ insert_over (columns_named tables i.table.text) i
insert_same tables i h = past_table (is_some (table_in tables i.table.text)) i.table.at (insert_over (columns_named tables i.table.text) i) h
