use Rattle.std.proofs.Common.{◌-◌, ◌+◌, ◌<◌, ◌≤◌, length}
use Rattle.pg_keyed.specs.Keyed.{rank}
use Rattle.pg_chunks.specs.Digits.{digits}
use Rattle.pg_chunks.specs.Parts.{joined, before_part}
use Rattle.pg_chunks.proofs.search.part_of.Given as goal

abbrev pub invariant-loop-low : goal.invariant-loop-low
invariant-loop-low g l = record {
  order : l.low ≤ l.high;
  within : l.high ≤ length l.full;
  below : before_part l.low l.full ≤ rank g.T.Keyed.key_of g.T.Keyed.key_cmp (g.P.Probe.sought l.key) (joined l.full);
  above : l.high < length l.full → rank g.T.Keyed.key_of g.T.Keyed.key_cmp (g.P.Probe.sought l.key) (joined l.full) < before_part (l.high + 1) l.full;
  cost : l.steps + digits (l.high - l.low) ≤ l.fn.steps + digits (length l.full);
  counts : l.fn.steps ≤ l.steps;
  some : 0 < length l.full → l.fn.steps + 1 ≤ l.steps + (l.high - l.low);
}

abbrev pub decreases-loop-low : goal.decreases-loop-low
decreases-loop-low g l = l.high - l.low
