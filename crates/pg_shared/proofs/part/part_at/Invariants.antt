use Rattle.std.proofs.Common.{◌-◌, ◌<◌, ◌≤◌, length}
use Rattle.pg_shared.specs.Parts.{before_part}
use Rattle.pg_shared.proofs.part.part_at.Given as goal

abbrev pub invariant-halves : goal.invariant-halves
invariant-halves g l = record {
  order : l.low < l.high;
  within : l.high ≤ length l.parts;
  below : before_part l.low l.parts ≤ l.at;
  above : l.at < before_part l.high l.parts;
}

abbrev pub decreases-halves : goal.decreases-halves
decreases-halves g l = l.high - l.low
