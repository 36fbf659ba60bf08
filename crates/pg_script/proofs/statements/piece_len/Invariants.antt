use Rattle.std.proofs.Common.{◌≤◌, ◌-◌, length}
use Rattle.pg_script.proofs.Passes.Atoms.{SoFar}
use Rattle.pg_script.proofs.statements.piece_len.Given as goal

abbrev pub invariant-atoms : goal.invariant-atoms
invariant-atoms l = record {
  within : l.at ≤ length l.bytes;
  so_far : SoFar l.bytes l.at;
}

abbrev pub decreases-atoms : goal.decreases-atoms
decreases-atoms l = length l.bytes - l.at
