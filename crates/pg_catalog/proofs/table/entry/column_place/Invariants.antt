use Rattle.std.proofs.Common.{◌≡◌, drop, map}
use Rattle.std.specs.List.{position_from}
use Rattle.std.specs.Str.{bytes_eq}
use Rattle.pg_catalog.proofs.table.entry.column_place.Given as goal

abbrev pub invariant-loop-column : goal.invariant-loop-column
invariant-loop-column l = record {
  counted : l.at ≡ l.column-index;
  left : position_from (bytes_eq l.name) 0 (map (λ c. c.name) l.columns) ≡ position_from (bytes_eq l.name) l.at (map (λ c. c.name) (drop l.column-index l.columns));
}
