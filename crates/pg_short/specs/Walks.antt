-- The walk to a step of a search, as the rounds that it goes through one after another; its binding; and the bindings that a search finds.
use Rattle.std.specs.Prelude.{◌≡◌, ◌≤◌, ◌<◌, ◌==◌, ℕ, Bool, nat_le, cond, List, [], ◌∷◌, ◌++◌, length, map, filter, flat_map, Option, Some, None, option_map, slice_get}
use Rattle.std.specs.List.{list_any}
use Rattle.std.specs.Option.{unwrap_or, option_to_list}
use Rattle.pg_value.specs.declared.shape.ElemId.{ElemId}
use Rattle.pg_meaning.specs.declared.checked.PathBinding.{PathBinding}
use Rattle.pg_meaning.specs.Walks.{Hop}
use Rattle.pg_meaning.specs.Fits.{Mention, firsts}
use Rattle.pg_meaning.specs.Bindings.{Binding, path_binding}
use Rattle.pg_auto.specs.Stages.{Stage}
use Rattle.pg_auto.specs.Autos.{stage_view}
use Rattle.pg_auto.specs.States.{Task, State, Walked, first_state, singles_in, groups_in, binding_of, walked}
use Rattle.pg_short.specs.Rounds.{hops_in}
use Rattle.pg_short.specs.Spots.{spot_of}
use Rattle.pg_short.specs.Steps.{Step, states_of}
use Rattle.pg_short.specs.declared.bindings.WalkedRound.{WalkedRound}

-- ROUNDS ONE AFTER ANOTHER

-- a round of a stage, from a vertex over hops
pub record Round : Type 0 where
  pub stage : Stage
  pub from : ElemId
  pub hops : List Hop

abbrev pub round_view : WalkedRound → Round
round_view r = record { stage = stage_view r.stage.now; from = r.from.now; hops = hops_in r.hops.now }

abbrev pub rounds_in : List WalkedRound → List Round
rounds_in rounds = map round_view rounds

abbrev pub hops_along : List Round → List Hop
hops_along rounds = flat_map (λ r. r.hops) rounds

-- what a round names for the parts that stand once, and for the quantified parts
abbrev pub singles_at : Round → List Mention
singles_at r = singles_in r.stage r.from r.hops

abbrev pub groups_at : Round → List Mention
groups_at r = groups_in r.stage r.from r.hops

abbrev pub singles_along : List Round → List Mention
singles_along rounds = flat_map singles_at rounds

abbrev pub groups_along : List Round → List Mention
groups_along rounds = flat_map groups_at rounds

-- the walk that they make, and what it names
abbrev pub walk_along : List Round → Walked
walk_along rounds = record { hops = hops_along rounds; singles = singles_along rounds; groups = groups_along rounds }

-- EACH VARIABLE ONCE

abbrev pub has_variable : List Mention → ℕ → Bool
has_variable seen x = list_any (λ m. m.var == x) seen

-- with a mention behind the others, where its variable is not mentioned yet
abbrev pub with_first : List Mention → Mention → List Mention
with_first seen m = cond (has_variable seen m.var) seen (seen ++ m ∷ [])

-- each variable of the parts that stand once at its first element, and those of the quantified parts
abbrev pub named_along : List Round → List Mention
named_along rounds = firsts (singles_along rounds) ++ groups_along rounds

-- an element, where it stands for a variable
abbrev pub named_at : ℕ → Mention → List ElemId
named_at x m = cond (m.var == x) (m.elem ∷ []) []

-- TRACED BACK

-- the round by which a step goes on from another; none where it leaves the stage
abbrev pub round_of : List Stage → Step → Step → Option Round
round_of stages before step = cond (step.spot.stage == before.spot.stage) (option_map (λ stage. record { stage = stage; from = before.spot.at; hops = step.hops }) (slice_get stages before.spot.stage)) None

-- the rounds that lead from the start to the step of a number, by the steps before it
pub data IsTraced (stages : List Stage) (found : List Step) : ℕ → List Round → Type 0 where
  first : (k : ℕ) (step : Step) → slice_get found k ≡ Some step → k ≤ step.before → IsTraced stages found k []
  next : (k : ℕ) (step before : Step) (rounds : List Round) → slice_get found k ≡ Some step → step.before < k → slice_get found step.before ≡ Some before
      → IsTraced stages found step.before rounds → IsTraced stages found k (rounds ++ option_to_list (round_of stages before step))

-- THE BINDINGS THAT ARE FOUND

-- a state behind the last stage
abbrev pub is_end : List Stage → State → Bool
is_end stages s = nat_le (length stages) s.stage

-- the bindings of the states behind the last stage
abbrev pub bindings_in : Task → List ℕ → List State → List Binding
bindings_in t vars all = map (λ s. binding_of t.start vars (walked s)) (filter (is_end t.stages) all)

-- the state of the step of a number
abbrev pub state_to : List Stage → ElemId → List Step → ℕ → State
state_to stages start found k = unwrap_or (slice_get (states_of stages start found) k) (first_state start)

-- each step leads to where its state stands
abbrev pub Stand : List Stage → ElemId → List Step → Type 0
Stand stages start found = (k : ℕ) (step : Step) → slice_get found k ≡ Some step → step.spot ≡ spot_of stages (state_to stages start found k)

-- the binding of a state, where it is behind the last stage
abbrev pub end_at : List Stage → ElemId → List ℕ → State → List PathBinding
end_at stages start vars s = cond (is_end stages s) (path_binding (binding_of start vars (walked s)) ∷ []) []

-- of the step of a number
abbrev pub end_to : List Stage → ElemId → List ℕ → List Step → ℕ → List PathBinding
end_to stages start vars found k = end_at stages start vars (state_to stages start found k)
