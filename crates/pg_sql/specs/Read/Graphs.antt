-- Reading CREATE PROPERTY GRAPH, in the order of the code.
use Rattle.std.specs.Prelude.{Option, List, []}
use Rattle.std.specs.Option.{unwrap_or}
use Rattle.pg_lex.specs.declared.token.Token.{Token}
use Rattle.pg_ast.specs.declared.expr.Name.{Name}
use Rattle.pg_ast.specs.declared.define.PropDef.{PropDef}
use Rattle.pg_ast.specs.declared.define.Props.{Props}
use Rattle.pg_ast.specs.declared.define.Props.TheVariants.{All, Listed}
use Rattle.pg_ast.specs.declared.define.LabelDef.{LabelDef}
use Rattle.pg_ast.specs.declared.define.Labels.{Labels}
use Rattle.pg_ast.specs.declared.define.Labels.TheVariants.{Own, Given}
use Rattle.pg_ast.specs.declared.define.VertexDef.{VertexDef}
use Rattle.pg_ast.specs.declared.define.EndDef.{EndDef}
use Rattle.pg_ast.specs.declared.define.EdgeDef.{EdgeDef}
use Rattle.pg_ast.specs.declared.define.Define.{Define}
use Rattle.pg_ast.specs.declared.define.Define.TheVariants.{Graph}
use Rattle.pg_grammar.specs.Kit.Reading.{Parser, ◌>>=◌, pure, eat, choose, choose_if, optional, listed, sees_either}
use Rattle.pg_grammar.specs.Read.{name, names}
use Rattle.pg_sql.specs.Read.Parts.{skip, several}
use Rattle.pg_ast.specs.Words.Names as word
use Rattle.pg_ast.specs.Words as keyword

unfoldable pub new_name : Parser (Option Name)
new_name = optional keyword.as_word (eat keyword.as_word >>= λ _. name)

unfoldable pub prop : Parser PropDef
prop = do
  c ← name
  n ← new_name
  pure (record { column = c; name = unwrap_or n c })

unfoldable pub prop_items : Parser (List PropDef)
prop_items = listed prop

unfoldable pub all_columns : Parser Props
all_columns = do
  _ ← skip keyword.are
  _ ← eat keyword.all
  _ ← eat keyword.columns
  pure All

unfoldable pub properties : Parser Props
properties = do
  _ ← eat keyword.properties
  choose word.opening (prop_items >>= λ ps. pure (Listed ps)) all_columns

unfoldable pub props : Parser Props
props =
    choose keyword.no_word
    (do
      _ ← eat keyword.no_word
      _ ← eat keyword.properties
      pure (Listed []))
    properties

unfoldable pub any_props : Parser Props
any_props = choose_if (sees_either keyword.no_word keyword.properties) props (pure All)

unfoldable pub default_label : Name → Parser LabelDef
default_label table = do
  t ← eat keyword.default_word
  _ ← eat keyword.label
  ps ← any_props
  pure (record { name = record { text = table.text; at = t.from }; props = ps; at = t.from })

unfoldable pub label : Name → Parser LabelDef
label table =
    choose keyword.label
    (do
      t ← eat keyword.label
      n ← name
      ps ← any_props
      pure (record { name = n; props = ps; at = t.from }))
    (default_label table)

abbrev pub label_list : Name → Parser (List LabelDef)
label_list table = several (sees_either keyword.label keyword.default_word) (label table)

unfoldable pub labels : Name → Parser Labels
labels table =
    choose_if (sees_either keyword.label keyword.default_word)
    (label_list table >>= λ ls. pure (Given ls))
    (any_props >>= λ ps. pure (Own ps))

unfoldable pub key : Parser (List Name)
key = eat keyword.key >>= λ _. names

unfoldable pub own_key : Parser (Option (List Name))
own_key = optional keyword.key key

unfoldable pub vertex : Parser VertexDef
vertex = do
  t ← name
  k ← own_key
  ls ← labels t
  pure (record { table = t; key = k; labels = ls })

unfoldable pub vertices : Parser (List VertexDef)
vertices = listed vertex

unfoldable pub end_point : Parser EndDef
end_point = do
  cs ← key
  _ ← eat keyword.references
  t ← name
  target ← names
  pure (record { columns = cs; table = t; target = target })

unfoldable pub edge : Parser EdgeDef
edge = do
  t ← name
  k ← own_key
  _ ← eat keyword.source
  s ← end_point
  _ ← eat keyword.destination
  d ← end_point
  ls ← labels t
  pure (record { table = t; key = k; source = s; dest = d; labels = ls })

unfoldable pub edges : Parser (List EdgeDef)
edges = listed edge

unfoldable pub edge_tables : Parser (List EdgeDef)
edge_tables =
    choose keyword.edge
    (do
      _ ← eat keyword.edge
      _ ← eat keyword.tables
      edges)
    (pure [])

unfoldable pub vertex_tables : Parser (List VertexDef)
vertex_tables = do
  _ ← eat keyword.vertex
  _ ← eat keyword.tables
  vertices

-- from PROPERTY on, behind that CREATE
unfoldable pub graph : Token → Parser Define
graph t = do
  _ ← eat keyword.property
  _ ← eat keyword.graph
  n ← name
  vs ← vertex_tables
  es ← edge_tables
  pure (Graph (record { name = n; vertices = vs; edges = es; at = t.from }))
