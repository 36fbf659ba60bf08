-- Symbols that several rules ask for.
use Rattle.std.specs.Prelude.{codes}
use Rattle.pg_ast.specs.Words.Terminals.{Terminal, S}

abbrev pub comma : Terminal
comma = S (codes ",")

abbrev pub opening : Terminal
opening = S (codes "(")

abbrev pub close : Terminal
close = S (codes ")")

abbrev pub percent : Terminal
percent = S (codes "%")

abbrev pub exclaim : Terminal
exclaim = S (codes "!")

abbrev pub ampersand : Terminal
ampersand = S (codes "&")

abbrev pub bar : Terminal
bar = S (codes "|")
