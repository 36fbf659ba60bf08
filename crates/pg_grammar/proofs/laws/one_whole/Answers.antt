-- At most one expression.
use Rattle.pg_grammar.specs.Kit.Parses.{one_tree}
use Rattle.pg_grammar.specs.Laws.Exprs.{parses-whole}
use Rattle.pg_grammar.proofs.laws.one_whole.Goals as goal

pub returns : goal.returns
returns c = λ s. one_tree (parses-whole s)
