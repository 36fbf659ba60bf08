-- At most one label expression.
use Rattle.pg_grammar.specs.Kit.Parses.{one_tree}
use Rattle.pg_grammar.specs.Laws.Labels.{parses-labels}
use Rattle.pg_grammar.proofs.laws.one_label_expr.Goals as goal

pub returns : goal.returns
returns c = one_tree parses-labels
