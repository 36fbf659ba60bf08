use Rattle.std.proofs.Common.{◌-◌, ◌+◌, ◌≤◌, length}
use Rattle.pg_chunks.specs.Digits.{digits}
use Rattle.pg_value.specs.Order.{key_cmp}
use Rattle.pg_adj.proofs.Halves.{Between}
use Rattle.pg_adj.proofs.halving.find.Given as goal

abbrev pub invariant-halves : goal.invariant-halves
invariant-halves g l =
    Between g.T.Placed.place key_cmp l.key.values l.items l.low l.high × (l.steps + digits (l.high - l.low) ≤ l.fn.steps + 1 + digits (length l.items)) × (l.fn.steps + 1 ≤ l.steps)

abbrev pub decreases-halves : goal.decreases-halves
decreases-halves g l = l.high - l.low
