-- The property that is read from an element's row.
use Rattle.std.proofs.Common.{◌≡◌, ℕ, List, ap, sym, ◌∙◌}
use Rattle.std.specs.Prelude.{slice_get, slice_index_or, Option, Some, None}
use Rattle.std.specs.Option.{unwrap_or, option_map}
use Rattle.std.proofs.lemmas.Option.{unwrap_or-slice_get}
use Rattle.pg_value.specs.declared.value.Value.TheVariants.{Null}
use Rattle.pg_value.specs.declared.row.Row.{Row}
use Rattle.pg_value.specs.declared.shape.ElemId.{ElemId}
use Rattle.pg_value.specs.Tables.{Stored, Tables, stored_at}
use Rattle.pg_value.specs.Graph.{elem_place, property, value_in}
use Rattle.pg_meaning.specs.Reads.{row_at}

in_row : (o : Option Stored) (row : Row) (c : ℕ) → option_map (λ (s : Stored). s.row) o ≡ Some row → unwrap_or (slice_get row.values c) Null ≡ value_in o (Some c)
in_row None row c h = cc
in_row (Some s) row c h = let e : s.row ≡ row = cc in ap (λ (r : Row). unwrap_or (slice_get r.values c) Null) (sym e) ∙ unwrap_or-slice_get s.row.values c Null

-- the value of an element's row in the column that is given for its table
pub property_read : (tables : Tables) (e : ElemId) (columns : List (Option ℕ)) (c : ℕ) (row : Row) → slice_index_or columns e.table.0 None ≡ Some c → row_at tables e.table e.key ≡ Some row
    → unwrap_or (slice_get row.values c) Null ≡ property tables e columns
property_read tables e columns c row place found = in_row (stored_at (elem_place e) tables) row c found ∙ ap (value_in (stored_at (elem_place e) tables)) (sym place)
