-- Words and symbols that the rules of patterns and queries ask for.
use Rattle.std.specs.Prelude.{codes}
use Rattle.pg_ast.specs.Words.Terminals.{Terminal, W, S}
pub use Rattle.pg_ast.specs.Words.Names.{comma, opening, close}
pub use Rattle.pg_ast.specs.Words.Exprs.{is_word, dot, less, greater, plus, minus, star}

abbrev pub colon : Terminal
colon = S (codes ":")

abbrev pub left_bracket : Terminal
left_bracket = S (codes "[")

abbrev pub right_bracket : Terminal
right_bracket = S (codes "]")

abbrev pub left_brace : Terminal
left_brace = S (codes "{")

abbrev pub right_brace : Terminal
right_brace = S (codes "}")

abbrev pub where_word : Terminal
where_word = W (codes "WHERE")

abbrev pub any_word : Terminal
any_word = W (codes "ANY")

abbrev pub all_word : Terminal
all_word = W (codes "ALL")

abbrev pub shortest : Terminal
shortest = W (codes "SHORTEST")

abbrev pub walk : Terminal
walk = W (codes "WALK")

abbrev pub trail : Terminal
trail = W (codes "TRAIL")

abbrev pub acyclic : Terminal
acyclic = W (codes "ACYCLIC")

abbrev pub simple : Terminal
simple = W (codes "SIMPLE")

abbrev pub path_word : Terminal
path_word = W (codes "PATH")

abbrev pub paths_word : Terminal
paths_word = W (codes "PATHS")

abbrev pub select : Terminal
select = W (codes "SELECT")

abbrev pub from_word : Terminal
from_word = W (codes "FROM")

abbrev pub graph_table : Terminal
graph_table = W (codes "GRAPH_TABLE")

abbrev pub match_word : Terminal
match_word = W (codes "MATCH")

abbrev pub columns_word : Terminal
columns_word = W (codes "COLUMNS")

abbrev pub as_word : Terminal
as_word = W (codes "AS")
