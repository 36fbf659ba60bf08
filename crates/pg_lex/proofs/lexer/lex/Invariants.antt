use Rattle.std.proofs.Common.{◌≤◌, ◌-◌, length}
use Rattle.pg_lex.proofs.StepLaws.{Completes}
use Rattle.pg_lex.proofs.lexer.lex.Given as goal

abbrev pub invariant-tokens : goal.invariant-tokens
invariant-tokens l = record {
  within : l.at ≤ length l.text;
  so_far : Completes l.base l.text l.out l.at;
}

abbrev pub decreases-tokens : goal.decreases-tokens
decreases-tokens l = length l.text - l.at
