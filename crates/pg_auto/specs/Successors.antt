-- The states that follow a state, in the order in which a search finds them: each of one round more that fits, over the neighbours that
-- a view reads, and then the state that leaves the stage.
use Rattle.std.specs.Prelude.{◌+◌, Bool, false, ◌&&◌, cond, List, [], ◌∷◌, ◌++◌, map, filter, flat_map, slice_get, Some, None}
use Rattle.pg_value.specs.declared.value.Dir.TheVariants.{Out, In}
use Rattle.pg_value.specs.declared.shape.ElemId.{ElemId}
use Rattle.pg_value.specs.declared.shape.EdgeNo.{EdgeNo}
use Rattle.pg_value.specs.declared.shape.TableSet.{TableSet}
use Rattle.pg_value.specs.declared.shape.Shapes.{Shapes}
use Rattle.pg_value.specs.Tables.{Tables}
use Rattle.pg_ast.specs.declared.pattern.Arrow.{Arrow}
use Rattle.pg_ast.specs.declared.pattern.Arrow.TheVariants.{Right, Left, Either}
use Rattle.pg_meaning.specs.Walks.{Hop, last_vertex}
use Rattle.pg_meaning.specs.Rounds.{Leg}
use Rattle.pg_meaning.specs.Fits.{scope_of, firsts, seen_in}
use Rattle.pg_meaning.specs.Reads.{neighbours_of}
use Rattle.pg_auto.specs.Stages.{Stage}
use Rattle.pg_auto.specs.Counts.{may_enter, may_leave, next_of}
use Rattle.pg_auto.specs.States.{Task, State, graph_in, singles_in, groups_in}
use Rattle.pg_auto.specs.Tests.{has_table, meets, node_admits, leg_admits, agrees, permits}

-- OVER A LEG

-- the edges of an edge table to which an arrow leads
abbrev pub led_to : Shapes → Tables → Arrow → ElemId → EdgeNo → List Hop
led_to shapes tables Right v e = neighbours_of shapes tables e Out v
led_to shapes tables Left v e = neighbours_of shapes tables e In v
led_to shapes tables Either v e = neighbours_of shapes tables e Out v ++ neighbours_of shapes tables e In v

-- an edge table that a set of tables admits
abbrev pub is_read : Shapes → TableSet → EdgeNo → Bool
is_read shapes set e = elim (slice_get shapes.edges e.0) [ None ↦ false | Some shape ↦ has_table set shape.table ]

-- the hops over a leg: of the edge tables that it admits alone
abbrev pub hops_over : Task → Leg → ElemId → List Hop
hops_over t leg v = filter (leg_admits (graph_in t) leg) (flat_map (led_to t.shapes t.tables leg.arrow v) (filter (is_read t.shapes leg.edge.tables) t.graph.edges))

-- OVER A ROUND

-- hops that have come so far, with each hop over the next leg
abbrev pub longer : Task → Leg → ElemId → List Hop → List (List Hop)
longer t leg v hops = map (λ hop. hops ++ hop ∷ []) (hops_over t leg (last_vertex v hops))

abbrev pub along : Task → List Leg → ElemId → List (List Hop) → List (List Hop)
along t [] v found = found
along t (leg ∷ legs) v found = along t legs v (flat_map (longer t leg v) found)

-- the variables of the round agree, and its condition is true over each of them once
abbrev pub is_round : Task → Stage → ElemId → List Hop → Bool
is_round t stage v hops = agrees (seen_in stage.round v hops) && meets stage.round.cond (scope_of (graph_in t) (firsts (seen_in stage.round v hops)))

-- the hops of each round that fits from the vertex
abbrev pub rounds_from : Task → Stage → ElemId → List (List Hop)
rounds_from t stage v = filter (is_round t stage v) (cond (node_admits (graph_in t) stage.round.node v) (along t stage.round.legs v ([] ∷ [])) [])

-- THE STATES THAT FOLLOW

abbrev pub enter : State → Stage → List Hop → State
enter s stage hops = record {
  stage = s.stage;
  done = next_of stage s.done;
  at = last_vertex s.at hops;
  hops = s.hops ++ hops;
  singles = s.singles ++ singles_in stage s.at hops;
  groups = s.groups ++ groups_in stage s.at hops;
}

abbrev pub leave : State → State
leave s = record { stage = s.stage + 1; done = 0; at = s.at; hops = s.hops; singles = s.singles; groups = s.groups }

-- the walk with these hops more is permitted, and its variables agree
abbrev pub goes_on : Task → State → Stage → List Hop → Bool
goes_on t s stage hops = permits t.mode t.start (s.hops ++ hops) && agrees (s.singles ++ singles_in stage s.at hops)

abbrev pub entered : Task → State → Stage → List State
entered t s stage = map (enter s stage) (filter (goes_on t s stage) (rounds_from t stage s.at))

-- of a state in a stage
abbrev pub successors : Task → State → Stage → List State
successors t s stage = cond (may_enter stage s.done) (entered t s stage) [] ++ cond (may_leave stage s.done) (leave s ∷ []) []

abbrev pub next_states : Task → State → List State
next_states t s = elim (slice_get t.stages s.stage) [ None ↦ [] | Some stage ↦ successors t s stage ]
