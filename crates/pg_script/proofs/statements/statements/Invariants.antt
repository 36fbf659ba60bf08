use Rattle.std.proofs.Common.{◌≤◌, ◌-◌, length}
use Rattle.pg_script.proofs.Passes.Spans.{Completes}
use Rattle.pg_script.proofs.statements.statements.Given as goal

abbrev pub invariant-pieces : goal.invariant-pieces
invariant-pieces l = record {
  within : l.from ≤ length l.text;
  so_far : Completes l.at l.text l.out l.from;
}

abbrev pub decreases-pieces : goal.decreases-pieces
decreases-pieces l = length l.text - l.from
