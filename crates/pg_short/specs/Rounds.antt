-- The rounds from a vertex, as a search reads them, and what may be judged of a stage.
use Rattle.std.specs.Prelude.{List, [], ◌∷◌, map, cond}
use Rattle.pg_value.specs.declared.shape.ElemId.{ElemId}
use Rattle.pg_value.specs.declared.shape.Shapes.{Shapes}
use Rattle.pg_value.specs.declared.shape.GraphShape.{GraphShape}
use Rattle.pg_value.specs.Tables.{Tables}
use Rattle.pg_ast.specs.declared.pattern.Mode.TheVariants.{Walk}
use Rattle.pg_meaning.specs.Walks.{Hop}
use Rattle.pg_meaning.specs.Rounds.{Leg}
use Rattle.pg_view.specs.declared.view.Neighbour.{Neighbour}
use Rattle.pg_auto.specs.Stages.{Stage}
use Rattle.pg_auto.specs.States.{Task}
use Rattle.pg_auto.specs.Successors.{is_round, longer}
use Rattle.pg_search.specs.Hops.{hop_view}

abbrev pub hops_in : List Neighbour → List Hop
hops_in ns = map hop_view ns

abbrev pub all_hops : List (List Neighbour) → List (List Hop)
all_hops found = map hops_in found

-- a graph over tables, from a vertex; a round rests on nothing else
abbrev pub reading : Shapes → Tables → GraphShape → ElemId → Task
reading shapes tables graph start = record { shapes = shapes; graph = graph; tables = tables; stages = []; mode = Walk; start = start }

-- hops that have come so far, with each hop over the next leg
abbrev pub longer_over : Task → Leg → ElemId → List Neighbour → List (List Hop)
longer_over t leg v front = longer t leg v (hops_in front)

-- hops, where they are a round
abbrev pub fitting_one : Task → Stage → ElemId → List Neighbour → List (List Neighbour)
fitting_one t stage v hops = cond (is_round t stage v (hops_in hops)) (hops ∷ []) []
