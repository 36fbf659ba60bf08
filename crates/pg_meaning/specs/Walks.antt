-- A graph, and the walks on it. A walk is a vertex and hops, each an edge and the vertex behind it. It records no direction.
use Rattle.std.specs.Prelude.{List, [], ◌∷◌, map, Contains, ◌⊎◌}
use Rattle.pg_value.specs.declared.shape.ElemId.{ElemId}
use Rattle.pg_value.specs.declared.shape.Shapes.{Shapes}
use Rattle.pg_value.specs.declared.shape.GraphShape.{GraphShape}
use Rattle.pg_value.specs.Tables.{Tables}
use Rattle.pg_value.specs.Graph.{Edge, vertices, edges}
use Rattle.pg_ast.specs.declared.pattern.Arrow.{Arrow}
use Rattle.pg_ast.specs.declared.pattern.Arrow.TheVariants.{Right, Left, Either}

-- vertices, edges with their ends, and the tables, over which conditions are judged
pub record Graph : Type 0 where
  pub vertices : List ElemId
  pub edges : List Edge
  pub tables : Tables

abbrev pub graph_of : Shapes → GraphShape → Tables → Graph
graph_of shapes g tables = record { vertices = vertices g tables; edges = edges shapes g tables; tables = tables }

pub record Hop : Type 0 where
  pub edge : ElemId
  pub to : ElemId

-- the edge, from one vertex to another
abbrev pub HasEdge : Graph → ElemId → ElemId → ElemId → Type 0
HasEdge g edge a b = Contains g.edges (record { elem = edge; source = a; dest = b })

-- the arrow leads from the vertex over the hop
abbrev pub Leads : Graph → Arrow → ElemId → Hop → Type 0
Leads g Right v hop = HasEdge g hop.edge v hop.to
Leads g Left v hop = HasEdge g hop.edge hop.to v
Leads g Either v hop = HasEdge g hop.edge v hop.to ⊎ HasEdge g hop.edge hop.to v

-- where a walk ends
abbrev pub last_vertex : ElemId → List Hop → ElemId
last_vertex v [] = v
last_vertex v (hop ∷ hops) = last_vertex hop.to hops

abbrev pub vertices_of : ElemId → List Hop → List ElemId
vertices_of v hops = v ∷ map (λ hop. hop.to) hops

abbrev pub edges_of : List Hop → List ElemId
edges_of hops = map (λ hop. hop.edge) hops
