-- Reading INSERT, UPDATE and DELETE, in the order of the code.
use Rattle.std.specs.Prelude.{Option, List}
use Rattle.pg_ast.specs.declared.counted.Scope.TheVariants as scope
use Rattle.pg_ast.specs.declared.expr.Name.{Name}
use Rattle.pg_ast.specs.declared.expr.Whole.{Whole}
use Rattle.pg_ast.specs.declared.statement.InsertTuple.{InsertTuple}
use Rattle.pg_ast.specs.declared.statement.Insert.{Insert}
use Rattle.pg_ast.specs.declared.statement.SetItem.{SetItem}
use Rattle.pg_ast.specs.declared.statement.Update.{Update}
use Rattle.pg_ast.specs.declared.statement.Delete.{Delete}
use Rattle.pg_grammar.specs.Kit.Reading.{Parser, ◌>>=◌, pure, eat, optional, separated}
use Rattle.pg_grammar.specs.Read.{name, names}
use Rattle.pg_grammar.specs.Read.Exprs.{whole}
use Rattle.pg_ast.specs.Words.Names as word
use Rattle.pg_ast.specs.Words as keyword

abbrev pub value : Parser Whole
value = whole scope.Insert

abbrev pub value_list : Parser (List Whole)
value_list = separated word.comma value

unfoldable pub tuple : Parser InsertTuple
tuple = do
  t ← eat word.opening
  vs ← value_list
  _ ← eat word.close
  pure (record { values = vs; at = t.from })

abbrev pub tuple_list : Parser (List InsertTuple)
tuple_list = separated word.comma tuple

unfoldable pub columns : Parser (Option (List Name))
columns = optional word.opening names

unfoldable pub insert : Parser Insert
insert = do
  _ ← eat keyword.insert
  _ ← eat keyword.into
  t ← name
  cs ← columns
  _ ← eat keyword.values
  ts ← tuple_list
  pure (record { table = t; columns = cs; tuples = ts })

unfoldable pub set_item : Parser SetItem
set_item = do
  c ← name
  _ ← eat keyword.equals
  v ← whole scope.Change
  pure (record { column = c; value = v })

abbrev pub set_list : Parser (List SetItem)
set_list = separated word.comma set_item

unfoldable pub condition : Parser Whole
condition = eat keyword.where_word >>= λ _. whole scope.Change

unfoldable pub any_condition : Parser (Option Whole)
any_condition = optional keyword.where_word condition

unfoldable pub update : Parser Update
update = do
  _ ← eat keyword.update
  t ← name
  _ ← eat keyword.set
  ss ← set_list
  c ← any_condition
  pure (record { table = t; sets = ss; cond = c })

unfoldable pub delete : Parser Delete
delete = do
  _ ← eat keyword.delete
  _ ← eat keyword.from
  t ← name
  c ← any_condition
  pure (record { table = t; cond = c })
