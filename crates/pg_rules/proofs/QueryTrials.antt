-- The rules of queries, tried: each kind of refusal at its place, two kinds in one query, and the widths of accepted queries. The places are
-- those of the bytes in scripts that are run.
use Rattle.std.proofs.Common.{◌≡◌, ℕ, true, false, List, [], ◌∷◌, map, Option, Some, None, refl}
use Rattle.std.specs.Prelude.{codes}
use Rattle.pg_value.specs.declared.value.Kind.{Kind}
use Rattle.pg_value.specs.declared.value.Kind.TheVariants as kinds
use Rattle.pg_ast.specs.declared.expr.Name.{Name}
use Rattle.pg_ast.specs.declared.expr.Expr.{Expr}
use Rattle.pg_ast.specs.declared.expr.Expr.TheVariants.{Property, Binary, Agg}
use Rattle.pg_ast.specs.declared.expr.Expr.TheBlock.{hidden-the_row-Expr-0}
use denote.Hole.Carrier.{hidden}
use Rattle.pg_ast.specs.declared.expr.BinOp.TheVariants.{Plus, Times}
use Rattle.pg_ast.specs.declared.expr.Agg.TheVariants.{Sum}
use Rattle.pg_ast.specs.declared.expr.Whole.{Whole}
use Rattle.pg_ast.specs.declared.pattern.LabelExpr.{LabelExpr}
use Rattle.pg_ast.specs.declared.pattern.LabelExpr.TheVariants as labels
use Rattle.pg_ast.specs.declared.pattern.Filler.{Filler}
use Rattle.pg_ast.specs.declared.pattern.Quant.{Quant}
use Rattle.pg_ast.specs.declared.pattern.Arrow.TheVariants as arrows
use Rattle.pg_ast.specs.declared.pattern.Mode.TheVariants as modes
use Rattle.pg_ast.specs.declared.pattern.Selector.{Selector}
use Rattle.pg_ast.specs.declared.pattern.Selector.TheVariants as selectors
use Rattle.pg_ast.specs.declared.pattern.Part.{Part}
use Rattle.pg_ast.specs.declared.pattern.Part.TheVariants as parts
use Rattle.pg_ast.specs.declared.pattern.PathPattern.{PathPattern}
use Rattle.pg_ast.specs.declared.pattern.ColumnItem.{ColumnItem}
use Rattle.pg_ast.specs.declared.pattern.Query.{Query}
use Rattle.pg_rules.specs.declared.entry.ColumnEntry.{ColumnEntry}
use Rattle.pg_rules.specs.declared.entry.PropertyEntry.{PropertyEntry}
use Rattle.pg_rules.specs.declared.entry.ElementEntry.{ElementEntry}
use Rattle.pg_rules.specs.declared.entry.EdgeEntry.{EdgeEntry}
use Rattle.pg_rules.specs.declared.entry.GraphEntry.{GraphEntry}
use Rattle.pg_rules.specs.declared.fault.QueryFault.TheVariants as faults
use Rattle.pg_rules.specs.Catalog.{Tables, Defined}
use Rattle.pg_rules.specs.Queries.{query_fault}
use Rattle.pg_rules.specs.Queries.CheckedQueries.{checked_query}

-- A CATALOG

abbrev pub column : List ℕ → Kind → ColumnEntry
column name kind = record { name = name; shape = record { kind = kind; not_null = false; max_bytes = 20 } }

-- a key column
abbrev pub key : List ℕ → ColumnEntry
key name = record { name = name; shape = record { kind = kinds.Int; not_null = true; max_bytes = 0 } }

abbrev pub property : List ℕ → ℕ → Kind → PropertyEntry
property name place kind = record { name = name; column = place; kind = kind }

-- person (id, name) and knows (id, a, b, w)
abbrev pub tables : Tables
tables =
    (codes "PERSON", record { columns = key (codes "ID") ∷ column (codes "NAME") kinds.Text ∷ []; key = 0 ∷ [] }) ∷
    (codes "KNOWS", record { columns = key (codes "ID") ∷ column (codes "A") kinds.Int ∷ column (codes "B") kinds.Int ∷ column (codes "W") kinds.Int ∷ []; key = 0 ∷ [] }) ∷ []

abbrev pub persons : ElementEntry
persons = record {
  table = record { 0 = 0 };
  labels = record { name = codes "PERSON"; properties = property (codes "ID") 0 kinds.Int ∷ property (codes "NAME") 1 kinds.Text ∷ [] } ∷ [];
}

abbrev pub acquaintances : EdgeEntry
acquaintances = record {
  element = record {
    table = record { 0 = 1 };
    labels = record {
      name = codes "KNOWS";
      properties = property (codes "ID") 0 kinds.Int ∷ property (codes "A") 1 kinds.Int ∷ property (codes "B") 2 kinds.Int ∷ property (codes "W") 3 kinds.Int ∷ [];
    } ∷ [];
  };
  source = record { 0 = 0 };
  source_columns = 1 ∷ [];
  dest = record { 0 = 0 };
  dest_columns = 2 ∷ [];
}

-- the graph of persons who know each other
abbrev pub graph : GraphEntry
graph = record { vertices = persons ∷ []; edges = acquaintances ∷ [] }

abbrev pub catalog : Defined
catalog = (tables, (codes "SOCIAL", graph) ∷ [])

-- QUERIES

abbrev name : List ℕ → ℕ → Name
name text at = record { text = text; at = at }

abbrev of_label : Option LabelExpr → Filler
of_label label = record { var = None; label = label; cond = None; at = 0 }

-- (x)
abbrev node : List ℕ → ℕ → Part
node x at = parts.Node (record { var = Some (name x at); label = None; cond = None; at = at })

-- (x WHERE ..)
abbrev node_where : List ℕ → Expr → ℕ → Part
node_where x c at = parts.Node (record { var = Some (name x 0); label = None; cond = Some (record { expr = c; at = at }); at = 0 })

-- -[e]->, ->
abbrev edge : List ℕ → Option Quant → Part
edge e quant = parts.Edge arrows.Right (record { var = Some (name e 0); label = None; cond = None; at = 0 }) quant

abbrev arrow : Option Quant → Part
arrow quant = parts.Edge arrows.Right (of_label None) quant

-- ((x)->(y))
abbrev pair : List ℕ → List ℕ → Option Quant → Part
pair x y quant =
    parts.Group (record { var = Some (name x 0); label = None; cond = None; at = 0 } ∷ record { var = Some (name y 0); label = None; cond = None; at = 0 } ∷ [])
    (arrows.Right ∷ []) (of_label None ∷ []) None quant

abbrev times : ℕ → Option ℕ → ℕ → Option Quant
times low high at = Some (record { low = low; high = high; at = at })

abbrev path : Selector → List Part → ℕ → PathPattern
path selector ps at = record { selector = selector; mode = modes.Walk; parts = ps; at = at }

abbrev whole : Expr → Whole
whole e = record { expr = e; at = 0 }

abbrev item : Expr → ColumnItem
item e = record { expr = whole e; name = name (codes "P") 0 }

-- x.p
abbrev of : List ℕ → List ℕ → ℕ → Expr
of x p at = Property (name x at) (name p at)

abbrev id_of : List ℕ → ℕ → Expr
id_of x at = of x (codes "ID") at

abbrev query : List ℕ → List PathPattern → Option Whole → List Expr → Query
query of_graph paths condition columns = record { graph = name of_graph 7; paths = paths; cond = condition; columns = map item columns }

abbrev x : List ℕ
x = codes "X"

abbrev y : List ℕ
y = codes "Y"

abbrev z : List ℕ
z = codes "Z"

abbrev e : List ℕ
e = codes "E"

abbrev social : List PathPattern → Option Whole → List Expr → Query
social paths condition columns = query (codes "SOCIAL") paths condition columns

-- MATCH one path pattern, without a selector or with ANY
abbrev walk : List Part → List Expr → Query
walk ps columns = social (path selectors.Every ps 133 ∷ []) None columns

abbrev any : List Part → List Expr → Query
any ps columns = social (path selectors.Any ps 133 ∷ []) None columns

-- EACH KIND AT ITS PLACE

no_graph : query_fault catalog (query (codes "NOWHERE") (path selectors.Every (node x 0 ∷ []) 0 ∷ []) None (id_of x 0 ∷ [])) ≡ Some (faults.NoGraph 7)
no_graph = refl

-- an unknown label, and one of the edges' table, which may stand in a node
labelled : List ℕ → ℕ → Query
labelled label at = walk (parts.Node (of_label (Some (labels.Is (name label at)))) ∷ node x 0 ∷ []) (id_of x 0 ∷ [])

no_label : query_fault catalog (labelled (codes "TEAM") 35) ≡ Some (faults.NoLabel 35)
unfolding labelled
no_label = refl

edge_label : query_fault catalog (labelled (codes "KNOWS") 35) ≡ None
unfolding labelled
edge_label = refl

-- also where the variable is unknown
no_property : query_fault catalog (walk (node x 0 ∷ []) (of z (codes "AGE") 60 ∷ [])) ≡ Some (faults.NoProperty 60)
no_property = refl

-- (x)->*(y), which ANY bounds
unbounded : query_fault catalog (walk (node x 0 ∷ arrow (times 0 None 138) ∷ node y 0 ∷ []) (id_of x 0 ∷ [])) ≡ Some (faults.Unbounded 138)
unbounded = refl

bounded : query_fault catalog (any (node x 0 ∷ arrow (times 0 None 138) ∷ node y 0 ∷ []) (id_of x 0 ∷ [])) ≡ None
bounded = refl

-- (x)->{3,1}(y)
bounds : query_fault catalog (walk (node x 0 ∷ arrow (times 3 (Some 1) 138) ∷ node y 0 ∷ []) (id_of x 0 ∷ [])) ≡ Some (faults.Bounds 138)
bounds = refl

-- a variable that no pattern names
unknown : query_fault catalog (walk (node x 0 ∷ []) (id_of z 70 ∷ [])) ≡ Some (faults.BadVariable 70)
unknown = refl

-- (x)-[x]->(y)
node_and_edge : query_fault catalog (walk (node x 30 ∷ edge x None ∷ node y 0 ∷ node x 50 ∷ []) (id_of y 0 ∷ [])) ≡ Some (faults.BadVariable 0)
node_and_edge = refl

-- ANY (x)->*(y)->(x) may return as first and as last node, and ANY (x)->(x)->*(y) may not
returns : query_fault catalog (any (node x 20 ∷ arrow (times 0 None 0) ∷ node y 0 ∷ arrow None ∷ node x 40 ∷ []) (id_of x 0 ∷ [])) ≡ None
returns = refl

no_return : query_fault catalog (any (node x 20 ∷ arrow None ∷ node x 30 ∷ arrow (times 0 None 0) ∷ node y 0 ∷ []) (id_of x 0 ∷ [])) ≡ Some (faults.BadVariable 30)
no_return = refl

-- ((x)->(y)){2}(y): a group variable that also stands outside its part
leaves : query_fault catalog (walk (pair x y (times 2 (Some 2) 0) ∷ node y 44 ∷ []) (id_of y 0 ∷ [])) ≡ Some (faults.BadVariable 44)
leaves = refl

-- ANY ((x)->(y))+(z) COLUMNS (x.id): a group variable outside an aggregate
group_use : query_fault catalog (any (pair x y (times 1 None 0) ∷ node z 0 ∷ []) (id_of x 161 ∷ [])) ≡ Some (faults.GroupUse 161)
group_use = refl

-- SUM(x.id), x being a singleton
of_singleton : query_fault catalog (walk (node x 0 ∷ []) (Agg Sum (id_of x 0) 55 ∷ [])) ≡ Some (faults.GroupUse 55)
unfolding hidden-the_row-Expr-0 hidden
of_singleton = refl

-- x.name + x.id
types : query_fault catalog (walk (node x 0 ∷ []) (Binary Plus (of x (codes "NAME") 0) (id_of x 0) 64 ∷ [])) ≡ Some (faults.Types 64)
unfolding hidden-the_row-Expr-0 hidden
types = refl

-- a condition that is a number
no_truth : query_fault catalog (walk (node_where x (id_of x 0) 48 ∷ []) (id_of x 0 ∷ [])) ≡ Some (faults.Types 48)
no_truth = refl

-- x.id * x.id * x.id * x.id, and a fifth
abbrev four : Expr
four = Binary Times (Binary Times (Binary Times (id_of x 0) (id_of x 0) 585) (id_of x 0) 596) (id_of x 0) 607

wide : query_fault catalog (walk (node x 0 ∷ []) (Binary Times four (id_of x 0) 618 ∷ [])) ≡ Some (faults.Wide 618)
unfolding hidden-the_row-Expr-0 hidden
wide = refl

width_124 : map (λ c. c.width) (checked_query catalog (walk (node x 0 ∷ []) (four ∷ []))).columns ≡ 124 ∷ []
unfolding hidden-the_row-Expr-0 hidden
width_124 = refl

-- (x)-[e]->{1}(y) COLUMNS (SUM(e.w * e.w)), and with a third factor
abbrev pub square : Expr
square = Binary Times (of e (codes "W") 0) (of e (codes "W") 0) 0

abbrev pub summed : Expr → Query
summed argument = walk (node x 0 ∷ edge e (times 1 (Some 1) 0) ∷ node y 0 ∷ []) (Agg Sum argument 604 ∷ [])

wide_sum : query_fault catalog (summed (Binary Times square (of e (codes "W") 0) 0)) ≡ Some (faults.Wide 604)
unfolding hidden-the_row-Expr-0 hidden
wide_sum = refl

pub accepted_sum : query_fault catalog (summed square) ≡ None
unfolding hidden-the_row-Expr-0 hidden
accepted_sum = refl

width_110 : map (λ c. c.width) (checked_query catalog (summed square)).columns ≡ 110 ∷ []
unfolding hidden-the_row-Expr-0 hidden
width_110 = refl

-- (x)->{n}(y)->{n}(z)->{n}(e)->{n}(w)
abbrev long : ℕ → Query
long n = walk (
    node x 0 ∷ arrow (times n (Some n) 0) ∷ node y 0 ∷ arrow (times n (Some n) 0) ∷ node z 0 ∷ arrow (times n (Some n) 0) ∷ node e 0 ∷ arrow (times n (Some n) 0) ∷ node (codes "W") 0 ∷ [])
    (id_of x 0 ∷ [])

length_1020 : query_fault catalog (long 255) ≡ Some (faults.Limit 133)
length_1020 = refl

length_1000 : query_fault catalog (long 250) ≡ None
length_1000 = refl

-- TWO KINDS IN ONE QUERY

-- a lower number above the upper, and before it a property of a wrong kind: the earlier kind decides
two_kinds : query_fault catalog (walk (node_where x (id_of x 0) 48 ∷ arrow (times 3 (Some 1) 138) ∷ node y 0 ∷ []) (id_of x 0 ∷ [])) ≡ Some (faults.Bounds 138)
two_kinds = refl
