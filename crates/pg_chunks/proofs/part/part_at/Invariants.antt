use Rattle.std.proofs.Common.{◌-◌, ◌<◌, ◌≤◌, length}
use Rattle.pg_chunks.specs.Parts.{before_part}
use Rattle.pg_chunks.proofs.part.part_at.Given as goal

abbrev pub invariant-loop-high : goal.invariant-loop-high
invariant-loop-high g l = record {
  order : l.low < l.high;
  within : l.high ≤ length l.full;
  below : before_part l.low l.full ≤ l.at;
  above : l.at < before_part l.high l.full;
}

abbrev pub decreases-loop-high : goal.decreases-loop-high
decreases-loop-high g l = l.high - l.low
