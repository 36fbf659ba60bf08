use Rattle.std.proofs.Common.{◌≡◌, map, take}
use Rattle.pgq.proofs.run.table_names.Given as goal

abbrev pub invariant-tables : goal.invariant-tables
invariant-tables l = l.names ≡ map (λ t. t.0) (take l.table l.catalog.0)
