-- Reading CREATE TABLE, in the order of the code.
use Rattle.std.specs.Prelude.{List, [], filter_map, flat_map}
use Rattle.pg_lex.specs.declared.token.Token.{Token}
use Rattle.pg_ast.specs.declared.item.Mark.{Mark}
use Rattle.pg_ast.specs.declared.item.Mark.TheVariants.{NotNull, Primary}
use Rattle.pg_ast.specs.declared.item.Item.{Item}
use Rattle.pg_ast.specs.declared.item.Item.TheVariants.{Column, Key}
use Rattle.pg_ast.specs.declared.define.ColumnType.{ColumnType}
use Rattle.pg_ast.specs.declared.define.ColumnType.TheVariants.{Integer, Boolean, Varchar}
use Rattle.pg_ast.specs.declared.define.Define.{Define}
use Rattle.pg_ast.specs.declared.define.Define.TheVariants.{Table}
use Rattle.pg_ast.specs.Words.Terminals.{ANumber, text_of}
use Rattle.pg_ast.specs.Grammar.Definitions.{column_of, keys_of}
use Rattle.pg_ast.specs.Grammar.Parts.{kept}
use Rattle.pg_grammar.specs.Kit.Reading.{Parser, ◌>>=◌, pure, eat, choose, listed, sees_either}
use Rattle.pg_grammar.specs.Read.{name, names}
use Rattle.pg_sql.specs.Read.Parts.{more}
use Rattle.pg_ast.specs.Words.Names as word
use Rattle.pg_ast.specs.Words as keyword

unfoldable pub varchar : Parser ColumnType
varchar = do
  t ← eat keyword.varchar
  choose word.opening
      (do
        _ ← eat word.opening
        n ← eat ANumber
        _ ← eat word.close
        pure (Varchar (kept (text_of n)) n.from))
      (pure (Varchar 255 t.from))

unfoldable pub kind : Parser ColumnType
kind =
    choose keyword.integer (eat keyword.integer >>= λ _. pure Integer)
    (choose keyword.int (eat keyword.int >>= λ _. pure Integer)
    (choose keyword.boolean (eat keyword.boolean >>= λ _. pure Boolean) varchar))

unfoldable pub mark : Parser Mark
mark =
    choose keyword.not_word
    (do
      _ ← eat keyword.not_word
      _ ← eat keyword.null
      pure NotNull)
    (do
      _ ← eat keyword.primary
      _ ← eat keyword.key
      pure Primary)

abbrev pub marks : Parser (List Mark)
marks = more (sees_either keyword.not_word keyword.primary) mark []

unfoldable pub column : Parser Item
column = do
  n ← name
  k ← kind
  ms ← marks
  pure (Column n k ms)

unfoldable pub item : Parser Item
item =
    choose keyword.primary
    (do
      _ ← eat keyword.primary
      _ ← eat keyword.key
      ns ← names
      pure (Key ns))
    column

unfoldable pub items : Parser (List Item)
items = listed item

-- from TABLE on, behind that CREATE
unfoldable pub table : Token → Parser Define
table t = do
  _ ← eat keyword.table
  n ← name
  is ← items
  pure (Table (record { name = n; columns = filter_map column_of is; keys = flat_map keys_of is; at = t.from }))
