use Rattle.std.proofs.Common.{take}
use Rattle.pg_value.specs.Tables.{FitWrites}
use Rattle.pg_core.proofs.fits.fit_writes.Given as goal

abbrev pub invariant-loop-at : goal.invariant-loop-at
invariant-loop-at l = FitWrites l.shapes (take l.at l.writes.list)
