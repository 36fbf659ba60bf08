-- Words and symbols of expressions.
use Rattle.std.specs.Prelude.{codes}
use Rattle.pg_ast.specs.Words.Terminals.{Terminal, W, S}
pub use Rattle.pg_ast.specs.Words.Names.{opening, close}

abbrev pub or_word : Terminal
or_word = W (codes "OR")

abbrev pub and_word : Terminal
and_word = W (codes "AND")

abbrev pub not_word : Terminal
not_word = W (codes "NOT")

abbrev pub is_word : Terminal
is_word = W (codes "IS")

abbrev pub null : Terminal
null = W (codes "NULL")

abbrev pub true_word : Terminal
true_word = W (codes "TRUE")

abbrev pub false_word : Terminal
false_word = W (codes "FALSE")

abbrev pub count : Terminal
count = W (codes "COUNT")

abbrev pub sum_word : Terminal
sum_word = W (codes "SUM")

abbrev pub min_word : Terminal
min_word = W (codes "MIN")

abbrev pub max_word : Terminal
max_word = W (codes "MAX")

abbrev pub dot : Terminal
dot = S (codes ".")

abbrev pub equals : Terminal
equals = S (codes "=")

abbrev pub unequal : Terminal
unequal = S (codes "<>")

abbrev pub less : Terminal
less = S (codes "<")

abbrev pub at_most : Terminal
at_most = S (codes "<=")

abbrev pub greater : Terminal
greater = S (codes ">")

abbrev pub at_least : Terminal
at_least = S (codes ">=")

abbrev pub plus : Terminal
plus = S (codes "+")

abbrev pub minus : Terminal
minus = S (codes "-")

abbrev pub star : Terminal
star = S (codes "*")
