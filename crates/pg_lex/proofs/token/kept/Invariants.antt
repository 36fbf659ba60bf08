use Rattle.std.proofs.Common.{◌≡◌, ◌≤◌, drop}
use Rattle.std.specs.Prelude.{min}
use Rattle.pg_lex.specs.Texts.{number_after}
use Rattle.pg_lex.proofs.token.kept.Given as goal

abbrev pub invariant-loop-digit : goal.invariant-loop-digit
invariant-loop-digit l = record {
  same : min (number_after 0 l.digits) 4294967295 ≡ min (number_after l.number (drop l.digit-index l.digits)) 4294967295;
  small : l.number ≤ 4294967295;
}
