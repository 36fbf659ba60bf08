-- Reading names, in the order of the code.
pub mod Exprs
pub mod Labels
use Rattle.std.specs.Prelude.{List}
use Rattle.pg_ast.specs.declared.expr.Name.{Name}
use Rattle.pg_ast.specs.Words.Terminals.{AName, text_of}
use Rattle.pg_grammar.specs.Kit.Reading.{Parser, ◌>>=◌, pure, eat, listed}

unfoldable pub name : Parser Name
name = do
  t ← eat AName
  pure (record { text = text_of t; at = t.from })

unfoldable pub names : Parser (List Name)
names = listed name
