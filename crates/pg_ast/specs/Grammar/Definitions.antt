-- CREATE TABLE and CREATE PROPERTY GRAPH (ISO/IEC 9075-16:2023): which tree a list of tokens is.
use Rattle.std.specs.Prelude.{Bool, true, false, Option, Some, None, List, [], ◌∷◌, map, filter, filter_map, flat_map}
use Rattle.std.specs.List.{list_any}
use Rattle.std.specs.Option.{unwrap_or}
use Rattle.pg_lex.specs.declared.token.Token.{Token}
use Rattle.pg_ast.specs.declared.expr.Name.{Name}
use Rattle.pg_ast.specs.declared.item.Mark.{Mark}
use Rattle.pg_ast.specs.declared.item.Mark.TheVariants.{NotNull, Primary}
use Rattle.pg_ast.specs.declared.item.Item.{Item}
use Rattle.pg_ast.specs.declared.item.Item.TheVariants.{Column, Key}
use Rattle.pg_ast.specs.declared.define.ColumnType.{ColumnType}
use Rattle.pg_ast.specs.declared.define.ColumnType.TheVariants.{Integer, Boolean, Varchar}
use Rattle.pg_ast.specs.declared.define.ColumnDef.{ColumnDef}
use Rattle.pg_ast.specs.declared.define.PropDef.{PropDef}
use Rattle.pg_ast.specs.declared.define.Props.{Props}
use Rattle.pg_ast.specs.declared.define.Props.TheVariants.{All, Listed}
use Rattle.pg_ast.specs.declared.define.LabelDef.{LabelDef}
use Rattle.pg_ast.specs.declared.define.Labels.{Labels}
use Rattle.pg_ast.specs.declared.define.Labels.TheVariants.{Own, Given}
use Rattle.pg_ast.specs.declared.define.VertexDef.{VertexDef}
use Rattle.pg_ast.specs.declared.define.EndDef.{EndDef}
use Rattle.pg_ast.specs.declared.define.EdgeDef.{EdgeDef}
use Rattle.pg_ast.specs.declared.define.Define.{Define}
use Rattle.pg_ast.specs.declared.define.Define.TheVariants.{Table, Graph}
use Rattle.pg_ast.specs.Words.Terminals.{ANumber, text_of}
use Rattle.pg_ast.specs.Grammar.Rule.{Rule, ◌>>=◌, give, the, ◌or◌}
use Rattle.pg_ast.specs.Grammar.Names.{name, names}
use Rattle.pg_ast.specs.Grammar.Parts.{kept, optional, skip, many, several, listed}
use Rattle.pg_ast.specs.Words.Names as word
use Rattle.pg_ast.specs.Words as keyword

-- TYPES

-- [ '(' number ')' ], behind that token
abbrev pub size : Token → Rule ColumnType
size t =
    (do
      _ ← the word.opening
      n ← the ANumber
      _ ← the word.close
      give (Varchar (kept (text_of n)) n.from))
    or give (Varchar 255 t.from)

-- INTEGER | INT | BOOLEAN | VARCHAR [ '(' number ')' ]
abbrev pub kind : Rule ColumnType
kind =
    (the keyword.integer >>= λ _. give Integer)
    or (the keyword.int >>= λ _. give Integer)
    or (the keyword.boolean >>= λ _. give Boolean)
    or (the keyword.varchar >>= size)

-- CREATE TABLE

-- NOT NULL | PRIMARY KEY
abbrev pub mark : Rule Mark
mark =
    (do
      _ ← the keyword.not_word
      _ ← the keyword.null
      give NotNull)
    or (do
      _ ← the keyword.primary
      _ ← the keyword.key
      give Primary)

-- PRIMARY KEY names | name type { NOT NULL | PRIMARY KEY }
abbrev pub item : Rule Item
item =
    (do
      _ ← the keyword.primary
      _ ← the keyword.key
      ns ← names
      give (Key ns))
    or (do
      n ← name
      k ← kind
      ms ← many mark
      give (Column n k ms))

abbrev pub is_not_null : Mark → Bool
is_not_null NotNull = true
is_not_null Primary = false

abbrev pub is_primary : Mark → Bool
is_primary NotNull = false
is_primary Primary = true

-- the column that an item defines
abbrev pub column_of : Item → Option ColumnDef
column_of (Column n k ms) = Some (record { name = n; kind = k; not_null = list_any is_not_null ms })
column_of (Key ns) = None

-- the PRIMARY KEY clauses of an item: a column's own name the column alone
abbrev pub keys_of : Item → List (List Name)
keys_of (Column n k ms) = map (λ _. n ∷ []) (filter is_primary ms)
keys_of (Key ns) = ns ∷ []

-- CREATE TABLE name '(' item { ',' item } ')'
abbrev pub create_table : Rule Define
create_table = do
  t ← the keyword.create
  _ ← the keyword.table
  n ← name
  is ← listed item
  give (Table (record { name = n; columns = filter_map column_of is; keys = flat_map keys_of is; at = t.from }))

-- CREATE PROPERTY GRAPH

-- name [ AS name ]
abbrev pub prop : Rule PropDef
prop = do
  c ← name
  n ← optional (the keyword.as_word >>= λ _. name)
  give (record { column = c; name = unwrap_or n c })

-- NO PROPERTIES | PROPERTIES '(' prop { ',' prop } ')' | PROPERTIES [ ARE ] ALL COLUMNS
abbrev pub props : Rule Props
props =
    (do
      _ ← the keyword.no_word
      _ ← the keyword.properties
      give (Listed []))
    or (do
      _ ← the keyword.properties
      ps ← listed prop
      give (Listed ps))
    or (do
      _ ← the keyword.properties
      _ ← skip keyword.are
      _ ← the keyword.all
      _ ← the keyword.columns
      give All)

-- [ props ]
abbrev pub any_props : Rule Props
any_props = props or give All

-- ( LABEL name | DEFAULT LABEL ) [ props ], of the table of that name
abbrev pub label : Name → Rule LabelDef
label table =
    (do
      t ← the keyword.label
      n ← name
      ps ← any_props
      give (record { name = n; props = ps; at = t.from }))
    or (do
      t ← the keyword.default_word
      _ ← the keyword.label
      ps ← any_props
      give (record { name = record { text = table.text; at = t.from }; props = ps; at = t.from }))

-- label { label } | [ props ], of the table of that name
abbrev pub labels : Name → Rule Labels
labels table =
    (several (label table) >>= λ ls. give (Given ls))
    or (any_props >>= λ ps. give (Own ps))

-- KEY names
abbrev pub key : Rule (List Name)
key = do
  _ ← the keyword.key
  names

-- name [ KEY names ] labels
abbrev pub vertex : Rule VertexDef
vertex = do
  t ← name
  k ← optional key
  ls ← labels t
  give (record { table = t; key = k; labels = ls })

-- KEY names REFERENCES name names
abbrev pub end_point : Rule EndDef
end_point = do
  cs ← key
  _ ← the keyword.references
  t ← name
  target ← names
  give (record { columns = cs; table = t; target = target })

-- name [ KEY names ] SOURCE KEY names REFERENCES name names DESTINATION KEY names REFERENCES name names labels
abbrev pub edge : Rule EdgeDef
edge = do
  t ← name
  k ← optional key
  _ ← the keyword.source
  s ← end_point
  _ ← the keyword.destination
  d ← end_point
  ls ← labels t
  give (record { table = t; key = k; source = s; dest = d; labels = ls })

-- VERTEX TABLES '(' vertex { ',' vertex } ')'
abbrev pub vertex_tables : Rule (List VertexDef)
vertex_tables = do
  _ ← the keyword.vertex
  _ ← the keyword.tables
  listed vertex

-- [ EDGE TABLES '(' edge { ',' edge } ')' ]
abbrev pub edge_tables : Rule (List EdgeDef)
edge_tables =
    (do
      _ ← the keyword.edge
      _ ← the keyword.tables
      listed edge)
    or give []

-- CREATE PROPERTY GRAPH name vertex_tables edge_tables
abbrev pub create_graph : Rule Define
create_graph = do
  t ← the keyword.create
  _ ← the keyword.property
  _ ← the keyword.graph
  n ← name
  vs ← vertex_tables
  es ← edge_tables
  give (Graph (record { name = n; vertices = vs; edges = es; at = t.from }))
