use Rattle.std.proofs.Common.{take}
use Rattle.pg_value.specs.TablesLaws.{writes_to}
use Rattle.pg_snap.proofs.FoldLaws.{Touched}
use Rattle.pg_snap.proofs.fold.Fold.touched.Given as goal

abbrev pub invariant-writes : goal.invariant-writes
invariant-writes g l = Touched l.self (take l.write-index (writes_to l.self.shape.now.table l.self.run.now.writes)) l.touched
