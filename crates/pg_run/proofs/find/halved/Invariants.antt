use Rattle.std.proofs.Common.{◌-◌, ◌+◌, ◌≤◌, length}
use Rattle.pg_chunks.specs.Digits.{digits}
use Rattle.pg_value.specs.Order.{key_cmp}
use Rattle.pg_value.specs.TablesLaws.{key_named}
use Rattle.pg_run.proofs.Halves.{Between}
use Rattle.pg_run.proofs.find.halved.Given as goal

abbrev pub invariant-halves : goal.invariant-halves
invariant-halves g l = Between key_named key_cmp l.key.values l.writes l.low l.high × (l.steps + digits (l.high - l.low) ≤ l.fn.steps + digits (length l.writes)) × (l.fn.steps ≤ l.steps)

abbrev pub decreases-halves : goal.decreases-halves
decreases-halves g l = l.high - l.low
