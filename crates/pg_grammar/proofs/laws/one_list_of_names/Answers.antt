-- At most one list of names.
use Rattle.pg_grammar.specs.Kit.Parses.{one_tree}
use Rattle.pg_grammar.specs.Laws.{parses-names}
use Rattle.pg_grammar.proofs.laws.one_list_of_names.Goals as goal

pub returns : goal.returns
returns c = one_tree parses-names
