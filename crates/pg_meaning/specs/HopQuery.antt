-- The query of one edge: MATCH (x)-[e]->(y) under WALK, without a selector, without conditions and without a final WHERE.
-- Its bindings are the edges of the graph, each once, and its answer is one row for each edge, in any order.
use Rattle.std.specs.Prelude.{ℕ, List, [], ◌∷◌, map, Contains, Option, Some, None, option_map, filter_map, slice_get, slice_index_or, IsPermutation}
use Rattle.pg_value.specs.declared.row.Row.{Row}
use Rattle.pg_value.specs.declared.shape.EdgeNo.{EdgeNo}
use Rattle.pg_value.specs.declared.shape.TableNo.{TableNo}
use Rattle.pg_value.specs.declared.shape.TableSet.{TableSet}
use Rattle.pg_value.specs.declared.shape.Shapes.{Shapes}
use Rattle.pg_value.specs.declared.shape.GraphShape.{GraphShape}
use Rattle.pg_value.specs.Tables.{Tables, IsInOrder}
use Rattle.pg_value.specs.Graph.{Edge, edges}
use Rattle.pg_ast.specs.declared.pattern.Arrow.TheVariants.{Right}
use Rattle.pg_ast.specs.declared.pattern.Mode.TheVariants.{Walk}
use Rattle.pg_ast.specs.declared.pattern.Selector.TheVariants.{Every}
use Rattle.pg_meaning.specs.declared.checked.CFiller.{CFiller}
use Rattle.pg_meaning.specs.declared.checked.CPart.{CPart}
use Rattle.pg_meaning.specs.declared.checked.CPart.TheVariants.{Node, Edge as EdgePart}
use Rattle.pg_meaning.specs.declared.checked.CheckedPath.{CheckedPath}
use Rattle.pg_meaning.specs.declared.checked.CheckedColumn.{CheckedColumn}
use Rattle.pg_meaning.specs.declared.checked.CheckedQuery.{CheckedQuery}
use Rattle.pg_meaning.specs.CExprs.{ctree_of}
use Rattle.pg_meaning.specs.Meaning.{Assignment, OfVars, value_of}
use Rattle.pg_meaning.specs.Walks.{graph_of}
use Rattle.pg_meaning.specs.Fits.{HasTable}
use Rattle.pg_meaning.specs.Bindings.{Binding, Distinct, Selected}
use Rattle.pg_meaning.specs.Answers.{Answer}

-- THE QUERY

-- what asks nothing but a table of the set
abbrev pub of_table : ℕ → TableSet → CFiller
of_table x set = record { var = Some x; tables = set; cond = None }

abbrev pub one_hop_parts : TableSet → TableSet → List CPart
one_hop_parts vs es = Node (of_table 0 vs) ∷ EdgePart Right (of_table 1 es) None ∷ Node (of_table 2 vs) ∷ []

abbrev pub one_hop_path : GraphShape → TableSet → TableSet → CheckedPath
one_hop_path g vs es = record { graph = g; selector = Every; mode = Walk; parts = one_hop_parts vs es; vars = 0 ∷ 1 ∷ 2 ∷ [] }

-- (x)-[e]->(y), x being variable 0, e variable 1 and y variable 2, over sets of vertex tables and of edge tables
abbrev pub one_hop_query : GraphShape → TableSet → TableSet → List CheckedColumn → CheckedQuery
one_hop_query g vs es columns = record { graph = g; paths = one_hop_path g vs es ∷ []; cond = None; columns = columns; vars = 3 }

-- the set has all of these tables
abbrev pub AdmitsAll : TableSet → List TableNo → Type 0
AdmitsAll set tables = (t : TableNo) → Contains tables t → HasTable set t

-- the set of the tables 0 to 63, which are all that there can be
abbrev pub all_tables : TableSet
all_tables = record { 0 = 18446744073709551615 }

-- the tables of a graph's edges
abbrev pub table_of : Shapes → EdgeNo → Option TableNo
table_of shapes e = option_map (λ s. s.table) (slice_get shapes.edges e.0)

abbrev pub edge_tables : Shapes → GraphShape → List TableNo
edge_tables shapes g = filter_map (table_of shapes) g.edges

-- what an edge binds
abbrev pub bind : Edge → Binding
bind e = record {
  start = e.source;
  hops = record { edge = e.elem; to = e.dest } ∷ [];
  vars = (e.source ∷ []) ∷ (e.elem ∷ []) ∷ (e.dest ∷ []) ∷ [];
}

abbrev pub one_hop_vars : Edge → Assignment
one_hop_vars e x = slice_index_or (bind e).vars x []

-- the row of an edge
abbrev pub one_hop_row : Tables → List CheckedColumn → Edge → Row
one_hop_row tables columns e = record { values = map (λ c. value_of (ctree_of c.expr) (OfVars tables (one_hop_vars e))) columns }

-- THE LAW

-- tables in order, edge tables that differ, and sets that have the tables of the graph
pub record Suits (shapes : Shapes) (g : GraphShape) (tables : Tables) (vs es : TableSet) : Type 0 where
  pub in_order : IsInOrder tables
  pub differ : Distinct (edge_tables shapes g)
  pub vertices : AdmitsAll vs g.vertices
  pub edges : AdmitsAll es (edge_tables shapes g)

-- the bindings are the edges, each once
abbrev pub OneHopBindings : Type 0
OneHopBindings = (shapes : Shapes) (g : GraphShape) (tables : Tables) (vs es : TableSet) → Suits shapes g tables vs es
    → Selected (graph_of shapes g tables) (one_hop_path g vs es) (map bind (edges shapes g tables))

-- one row for each edge, in any order, is the answer
abbrev pub OneHopAnswers : Type 0
OneHopAnswers = (shapes : Shapes) (g : GraphShape) (tables : Tables) (vs es : TableSet) (columns : List CheckedColumn) (rows : List Row) → Suits shapes g tables vs es
    → IsPermutation (map (one_hop_row tables columns) (edges shapes g tables)) rows → Answer shapes tables (one_hop_query g vs es columns) rows
