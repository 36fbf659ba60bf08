-- Where a walk of the automaton stands, and what completes it from there.
use Rattle.std.specs.Prelude.{◌≡◌, ℕ, List, [], ◌∷◌, ◌++◌, cond, map, flat_map, drop}
use Rattle.pg_value.specs.declared.shape.ElemId.{ElemId}
use Rattle.pg_value.specs.declared.shape.Shapes.{Shapes}
use Rattle.pg_value.specs.declared.shape.GraphShape.{GraphShape}
use Rattle.pg_value.specs.Tables.{Tables}
use Rattle.pg_ast.specs.declared.pattern.Mode.{Mode}
use Rattle.pg_meaning.specs.Meaning.{Assignment}
use Rattle.pg_meaning.specs.Walks.{Graph, Hop, last_vertex, graph_of}
use Rattle.pg_meaning.specs.Fits.{Mention, Agree, elements, firsts, join, seen_in}
use Rattle.pg_meaning.specs.Bindings.{Binding, Permits}
use Rattle.pg_auto.specs.Stages.{Stage}
use Rattle.pg_auto.specs.Counts.{Rest}

-- WHAT IS WALKED

-- a pattern's stages over a graph, under a mode, from one vertex
pub record Task : Type 0 where
  pub shapes : Shapes
  pub graph : GraphShape
  pub tables : Tables
  pub stages : List Stage
  pub mode : Mode
  pub start : ElemId

abbrev pub graph_in : Task → Graph
graph_in t = graph_of t.shapes t.graph t.tables

-- where a walk stands in the pattern and in the graph
pub record Place : Type 0 where
  pub stage : ℕ
  -- how many rounds of the stage are done, as far as they are told apart
  pub done : ℕ
  pub at : ElemId

-- a place, and the way to it: its hops, what the parts that stand once have named, and what the quantified parts have
pub record State : Type 0 where
  pub stage : ℕ
  pub done : ℕ
  pub at : ElemId
  pub hops : List Hop
  pub singles : List Mention
  pub groups : List Mention

abbrev pub first_state : ElemId → State
first_state start = record { stage = 0; done = 0; at = start; hops = []; singles = []; groups = [] }

-- a walk through the whole pattern, and what it names
pub record Walked : Type 0 where
  pub hops : List Hop
  pub singles : List Mention
  pub groups : List Mention

abbrev pub walked : State → Walked
walked s = record { hops = s.hops; singles = s.singles; groups = s.groups }

-- WHAT A ROUND NAMES

-- what a round adds to what the parts that stand once name, and to what the quantified parts name
abbrev pub singles_in : Stage → ElemId → List Hop → List Mention
singles_in stage v hops = cond stage.grouped [] (seen_in stage.round v hops)

abbrev pub groups_in : Stage → ElemId → List Hop → List Mention
groups_in stage v hops = cond stage.grouped (firsts (seen_in stage.round v hops)) []

-- the same of rounds one after another, and of the stages of a pattern
abbrev pub over_rounds : (Stage → ElemId → List Hop → List Mention) → Stage → ElemId → List (List Hop) → List Mention
over_rounds names stage v [] = []
over_rounds names stage v (hops ∷ rounds) = names stage v hops ++ over_rounds names stage (last_vertex v hops) rounds

abbrev pub over_stages : (Stage → ElemId → List Hop → List Mention) → List Stage → ElemId → List (List (List Hop)) → List Mention
over_stages names [] v cuts = []
over_stages names (stage ∷ stages) v [] = []
over_stages names (stage ∷ stages) v (rounds ∷ cuts) = over_rounds names stage v rounds ++ over_stages names stages (last_vertex v (join rounds)) cuts

-- WHAT COMPLETES A STATE

-- the stages from a place on
abbrev pub stages_from : Task → ℕ → List Stage
stages_from t k = drop k t.stages

-- some way through what is left of the pattern makes the walk out of the state's own
pub record Completes (t : Task) (s : State) (w : Walked) : Type 0 where
  pub cuts : List (List (List Hop))
  pub left : Rest (graph_in t) (stages_from t s.stage) s.done s.at cuts
  pub hops : w.hops ≡ s.hops ++ flat_map join cuts
  pub singles : w.singles ≡ s.singles ++ over_stages singles_in (stages_from t s.stage) s.at cuts
  pub groups : w.groups ≡ s.groups ++ over_stages groups_in (stages_from t s.stage) s.at cuts
  -- a variable that stands in several parts that stand once names one element
  pub agree : Agree w.singles
  pub permitted : Permits t.mode t.start w.hops

-- THE BINDING

abbrev pub lists_in : Walked → Assignment
lists_in w = elements (firsts w.singles ++ w.groups)

abbrev pub binding_of : ElemId → List ℕ → Walked → Binding
binding_of start vars w = record { start = start; hops = w.hops; vars = map (lists_in w) vars }
