-- What the loop over the digits keeps.
use Rattle.std.proofs.Common.{ℕ, ◌≡◌, ◌<◌, ◌^◌, drop}
use Rattle.pg_ast.specs.Grammar.Exprs.{number_after}
use Rattle.pg_grammar.proofs.number.number_of.Given as goal

pub record Reached (read expected number : ℕ) : Type 0 where
  pub same : read ≡ expected
  pub below : number < 2 ^ 127

abbrev pub invariant-loop-digit : goal.invariant-loop-digit
invariant-loop-digit l = Reached (number_after 0 l.digits) (number_after l.number (drop l.digit-index l.digits)) l.number
