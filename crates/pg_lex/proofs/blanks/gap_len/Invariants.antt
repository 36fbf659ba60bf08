use Rattle.std.proofs.Common.{◌≤◌, ◌-◌, length}
use Rattle.pg_lex.proofs.BlankLaws.{SoFar}
use Rattle.pg_lex.proofs.blanks.gap_len.Given as goal

abbrev pub invariant-blanks : goal.invariant-blanks
invariant-blanks l = record {
  within : l.at ≤ length l.bytes;
  so_far : SoFar l.bytes l.at;
}

abbrev pub decreases-blanks : goal.decreases-blanks
decreases-blanks l = length l.bytes - l.at
