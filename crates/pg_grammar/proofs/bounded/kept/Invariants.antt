-- What the loop over the digits keeps.
use Rattle.std.proofs.Common.{ℕ, ◌≡◌, ◌≤◌, drop}
use Rattle.pg_ast.specs.Grammar.Parts.{kept}
use Rattle.pg_ast.specs.Grammar.Exprs.{number_after}
use Rattle.std.specs.Prelude.{min}
use Rattle.pg_grammar.proofs.bounded.kept.Given as goal

pub record Reached (read expected number : ℕ) : Type 0 where
  pub same : read ≡ expected
  pub small : number ≤ 4294967295

abbrev pub invariant-loop-digit : goal.invariant-loop-digit
invariant-loop-digit l = Reached (kept l.digits) (min (number_after l.number (drop l.digit-index l.digits)) 4294967295) l.number
