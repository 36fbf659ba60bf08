use Rattle.std.proofs.Common.{◌≡◌, ◌++◌, drop}
use Rattle.pg_rules.specs.Definitions.Entries.{all_from}
use Rattle.pg_catalog.proofs.graph.entry.all_properties.Given as goal

abbrev pub invariant-loop-column : goal.invariant-loop-column
invariant-loop-column l = record {
  counted : l.place ≡ l.column-index;
  left : l.out ++ all_from l.place (drop l.column-index l.columns) ≡ all_from 0 l.columns;
}
