-- Names and lists of names: which tree a list of tokens is.
use Rattle.std.specs.Prelude.{List}
use Rattle.pg_ast.specs.declared.expr.Name.{Name}
use Rattle.pg_ast.specs.Words.Terminals.{AName, text_of}
use Rattle.pg_ast.specs.Grammar.Rule.{Rule, ◌>>=◌, give, the, separated}
use Rattle.pg_ast.specs.Words.Names as word

-- name
abbrev pub name : Rule Name
name = do
  t ← the AName
  give (record { text = text_of t; at = t.from })

-- '(' name { ',' name } ')'
abbrev pub names : Rule (List Name)
names = do
  _ ← the word.opening
  ns ← separated word.comma name
  _ ← the word.close
  give ns
