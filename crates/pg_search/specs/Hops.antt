-- The hops out of a vertex over a leg, as a search reads them of a view.
use Rattle.std.specs.Prelude.{ℕ, ◌+◌, cond, List, [], map, filter, flat_map, Option, IfSome, sum_by}
use Rattle.pg_value.specs.declared.value.Dir.{Dir}
use Rattle.pg_value.specs.declared.value.Dir.TheVariants.{Out, In}
use Rattle.pg_value.specs.declared.row.Key.{Key}
use Rattle.pg_value.specs.declared.shape.ElemId.{ElemId}
use Rattle.pg_value.specs.declared.shape.EdgeNo.{EdgeNo}
use Rattle.pg_value.specs.declared.shape.TableSet.{TableSet}
use Rattle.pg_value.specs.declared.shape.GraphShape.{GraphShape}
use Rattle.pg_value.specs.declared.shape.Shapes.{Shapes}
use Rattle.pg_value.specs.Tables.{Tables}
use Rattle.pg_ast.specs.declared.pattern.Arrow.{Arrow}
use Rattle.pg_ast.specs.declared.pattern.Arrow.TheVariants.{Right, Left, Either}
use Rattle.pg_meaning.specs.declared.checked.CExpr.{CExpr}
use Rattle.pg_meaning.specs.declared.checked.CFiller.{CFiller}
use Rattle.pg_meaning.specs.Walks.{Hop, graph_of}
use Rattle.pg_meaning.specs.Rounds.{Leg}
use Rattle.pg_view.specs.declared.view.Neighbour.{Neighbour}
use Rattle.pg_view.specs.Neighbours.{neighbour}
use Rattle.pg_auto.specs.Tests.{leg_admits}
use Rattle.pg_auto.specs.Successors.{led_to, is_read}
use Rattle.pg_expr.specs.Conditions.{IsCheckedForOnes}

-- WHAT MAY BE JUDGED

-- a condition, where there is one, was checked over the shapes
abbrev pub IsChecked : Shapes → Option CExpr → Type 0
IsChecked shapes condition = IfSome condition (IsCheckedForOnes shapes)

abbrev pub IsCheckedNode : Shapes → Option CFiller → Type 0
IsCheckedNode shapes node = IfSome node (λ filler. IsChecked shapes filler.cond)

pub record IsCheckedLeg (shapes : Shapes) (leg : Leg) : Type 0 where
  pub edge : IsChecked shapes leg.edge.cond
  pub node : IsCheckedNode shapes leg.node

-- THE HOPS

-- the hops to which an arrow leads over an edge table, where a set of tables admits that
abbrev pub read_over : Shapes → Tables → Arrow → TableSet → ElemId → EdgeNo → List Hop
read_over shapes tables arrow set v e = cond (is_read shapes set e) (led_to shapes tables arrow v e) []

-- over some edge tables, one after another
abbrev pub read_at : Shapes → Tables → Arrow → TableSet → ElemId → List EdgeNo → List Hop
read_at shapes tables arrow set v edges = flat_map (led_to shapes tables arrow v) (filter (is_read shapes set) edges)

-- those of them that the leg admits: its edge first, and only then the vertex behind it
abbrev pub hops_of : Shapes → GraphShape → Tables → Leg → ElemId → List Hop
hops_of shapes g tables leg v = filter (leg_admits (graph_of shapes g tables) leg) (read_at shapes tables leg.arrow leg.edge.tables v g.edges)

-- WHAT THE READS COST

-- by the cost of the edges of an edge table that have the vertex of a key at an end
abbrev pub led_cost : (EdgeNo → Dir → Key → ℕ) → Arrow → Key → EdgeNo → ℕ
led_cost cost Right key e = cost e Out key
led_cost cost Left key e = cost e In key
led_cost cost Either key e = cost e Out key + cost e In key

abbrev pub over_cost : (EdgeNo → Dir → Key → ℕ) → Shapes → Arrow → TableSet → Key → EdgeNo → ℕ
over_cost cost shapes arrow set key e = cond (is_read shapes set e) (led_cost cost arrow key e) 0

abbrev pub read_cost : (EdgeNo → Dir → Key → ℕ) → Shapes → Arrow → TableSet → Key → List EdgeNo → ℕ
read_cost cost shapes arrow set key edges = sum_by (over_cost cost shapes arrow set key) edges

-- HOPS AS A VIEW GIVES THEM

abbrev pub neighbours_over : Shapes → Tables → Arrow → TableSet → ElemId → EdgeNo → List Neighbour
neighbours_over shapes tables arrow set v e = map neighbour (read_over shapes tables arrow set v e)

abbrev pub hop_view : Neighbour → Hop
hop_view n = record { edge = n.edge; to = n.other }
