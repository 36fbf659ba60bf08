-- The limits of expressions.
use Rattle.pg_grammar.proofs.ExprLimits.{whole-nests}
use Rattle.pg_grammar.proofs.ExprCounts.{whole-counts}
use Rattle.pg_grammar.proofs.laws.whole_limits.Goals as goal

pub returns-clause-operators : goal.returns-clause-operators
returns-clause-operators c = whole-counts

pub returns-clause-nesting : goal.returns-clause-nesting
returns-clause-nesting c = whole-nests
