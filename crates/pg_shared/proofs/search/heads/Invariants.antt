use Rattle.std.proofs.Common.{◌-◌, ◌+◌, ◌<◌, ◌≤◌, length}
use Rattle.pg_chunks.specs.Digits.{digits}
use Rattle.pg_shared.specs.Parts.{heads}
use Rattle.pg_shared.proofs.search.heads.Given as goal

abbrev pub invariant-loop-low : goal.invariant-loop-low
invariant-loop-low g l = record {
  order : l.low ≤ l.high;
  within : l.high ≤ length l.parts;
  below : l.low ≤ heads g.T.Keyed.key_of g.T.Keyed.key_cmp (g.P.Probe.sought l.key) l.parts;
  above : heads g.T.Keyed.key_of g.T.Keyed.key_cmp (g.P.Probe.sought l.key) l.parts ≤ l.high;
  cost : l.steps + digits (l.high - l.low) ≤ l.fn.steps + digits (length l.parts);
  counts : l.fn.steps ≤ l.steps;
  some : 0 < length l.parts → l.fn.steps + 1 ≤ l.steps + (l.high - l.low);
}

abbrev pub decreases-loop-low : goal.decreases-loop-low
decreases-loop-low g l = l.high - l.low
