-- INSERT, UPDATE and DELETE: which tree a list of tokens is.
use Rattle.pg_ast.specs.declared.counted.Scope.TheVariants as scope
use Rattle.pg_ast.specs.declared.expr.Whole.{Whole}
use Rattle.pg_ast.specs.declared.statement.InsertTuple.{InsertTuple}
use Rattle.pg_ast.specs.declared.statement.Insert.{Insert}
use Rattle.pg_ast.specs.declared.statement.SetItem.{SetItem}
use Rattle.pg_ast.specs.declared.statement.Update.{Update}
use Rattle.pg_ast.specs.declared.statement.Delete.{Delete}
use Rattle.pg_ast.specs.Grammar.Rule.{Rule, ◌>>=◌, give, the, separated}
use Rattle.pg_ast.specs.Grammar.Names.{name, names}
use Rattle.pg_ast.specs.Grammar.Parts.{optional}
use Rattle.pg_ast.specs.Grammar.Exprs.{whole}
use Rattle.pg_ast.specs.Words.Names as word
use Rattle.pg_ast.specs.Words as keyword

-- '(' expr { ',' expr } ')'
abbrev pub tuple : Rule InsertTuple
tuple = do
  t ← the word.opening
  vs ← separated word.comma (whole scope.Insert)
  _ ← the word.close
  give (record { values = vs; at = t.from })

-- INSERT INTO name [ names ] VALUES tuple { ',' tuple }
abbrev pub insert : Rule Insert
insert = do
  _ ← the keyword.insert
  _ ← the keyword.into
  t ← name
  cs ← optional names
  _ ← the keyword.values
  ts ← separated word.comma tuple
  give (record { table = t; columns = cs; tuples = ts })

-- name '=' expr
abbrev pub set_item : Rule SetItem
set_item = do
  c ← name
  _ ← the keyword.equals
  v ← whole scope.Change
  give (record { column = c; value = v })

-- WHERE expr
abbrev pub condition : Rule Whole
condition = do
  _ ← the keyword.where_word
  whole scope.Change

-- UPDATE name SET name '=' expr { ',' name '=' expr } [ WHERE expr ]
abbrev pub update : Rule Update
update = do
  _ ← the keyword.update
  t ← name
  _ ← the keyword.set
  ss ← separated word.comma set_item
  c ← optional condition
  give (record { table = t; sets = ss; cond = c })

-- DELETE FROM name [ WHERE expr ]
abbrev pub delete : Rule Delete
delete = do
  _ ← the keyword.delete
  _ ← the keyword.from
  t ← name
  c ← optional condition
  give (record { table = t; cond = c })
