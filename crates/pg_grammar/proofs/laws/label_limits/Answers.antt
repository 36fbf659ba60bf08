-- The limits of label expressions.
use Rattle.pg_grammar.proofs.LabelLimits.{labels-count, labels-nest}
use Rattle.pg_grammar.proofs.laws.label_limits.Goals as goal

pub returns-clause-operators : goal.returns-clause-operators
returns-clause-operators c = labels-count

pub returns-clause-nesting : goal.returns-clause-nesting
returns-clause-nesting c = labels-nest
