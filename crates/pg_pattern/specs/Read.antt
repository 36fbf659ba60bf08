-- Reading queries, in the order of the code.
pub mod Patterns
use Rattle.std.specs.Prelude.{if◌then◌else◌, Option, Some, None, List}
use Rattle.pg_ast.specs.declared.counted.Scope.TheVariants.{Query as in_query}
use Rattle.pg_ast.specs.declared.counted.CountedWhole.{CountedWhole}
use Rattle.pg_ast.specs.declared.expr.Name.{Name}
use Rattle.pg_ast.specs.declared.expr.Expr.{Expr, Property}
use Rattle.pg_ast.specs.declared.pattern.ColumnItem.{ColumnItem}
use Rattle.pg_ast.specs.declared.pattern.PathPattern.{PathPattern}
use Rattle.pg_ast.specs.declared.pattern.Query.{Query}
use Rattle.pg_ast.specs.Words.Terminals.{AName}
use Rattle.pg_grammar.specs.Kit.Reading.{Parser, ◌>>=◌, pure, eat, choose, separated, listed}
use Rattle.pg_grammar.specs.Read.{name}
use Rattle.pg_grammar.specs.Read.Exprs.{counted_whole}
use Rattle.pg_ast.specs.Words.Patterns as word
use Rattle.pg_pattern.specs.Read.Patterns.{path, condition}

-- COLUMNS

-- the property's name, where an expression is no more than a property
abbrev pub property_name : Expr → Option Name
property_name (Property v n) = Some n
property_name _ = None

-- the name of a column without AS
abbrev pub own_name : CountedWhole → Option Name
own_name x = if x.plain then property_name x.whole.expr else None

unfoldable pub title : Parser Name
title = eat word.as_word >>= λ _. name

unfoldable pub column_name : Option Name → Parser Name
column_name (Some n) = choose word.as_word title (pure n)
column_name None = title

unfoldable pub column : Parser ColumnItem
column = do
  x ← counted_whole in_query
  n ← column_name (own_name x)
  pure (record { expr = x.whole; name = n })

-- QUERIES

abbrev pub paths : Parser (List PathPattern)
paths = separated word.comma path

unfoldable pub columns : Parser (List ColumnItem)
columns = listed column

unfoldable pub head : Parser (Unit {0})
head = do
  _ ← eat word.select
  _ ← eat word.star
  _ ← eat word.from_word
  _ ← eat word.graph_table
  pure tt

unfoldable pub column_list : Parser (List ColumnItem)
column_list = eat word.columns_word >>= λ _. columns

unfoldable pub inside : Parser Query
inside = do
  g ← name
  _ ← eat word.match_word
  ps ← paths
  c ← condition
  cs ← column_list
  pure (record { graph = g; paths = ps; cond = c; columns = cs })

unfoldable pub bare_query : Parser Query
bare_query = do
  _ ← head
  _ ← eat word.opening
  q ← inside
  _ ← eat word.close
  pure q

-- behind AS or in its place
unfoldable pub aliased : Query → Parser Query
aliased q =
    choose word.as_word (eat word.as_word >>= λ _. eat AName >>= λ _. pure q)
    (choose AName (eat AName >>= λ _. pure q) (pure q))

unfoldable pub query : Parser Query
query = bare_query >>= aliased
