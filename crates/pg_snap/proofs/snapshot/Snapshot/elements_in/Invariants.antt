use Rattle.std.proofs.Common.{◌≡◌}
use Rattle.pg_snap.specs.Snapshots.{tables_of}
use Rattle.pg_snap.proofs.ElementLaws.{first_elements}
use Rattle.pg_snap.proofs.snapshot.Snapshot.elements_in.Given as goal

abbrev pub invariant-loop-table : goal.invariant-loop-table
invariant-loop-table l = l.out ≡ first_elements (record { 0 = l.bits }) l.table (tables_of l.self)
