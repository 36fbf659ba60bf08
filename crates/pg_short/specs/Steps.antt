-- The steps of a search: each goes on from an earlier one by a round of a stage, or leaves the stage. What they stand for are states.
use Rattle.std.specs.Prelude.{ℕ, ◌+◌, ◌==◌, Bool, true, nat_lt, cond, List, [], ◌∷◌, ◌++◌, map, filter, length, Option, Some, None, slice_get}
use Rattle.std.specs.List.{list_all}
use Rattle.pg_value.specs.declared.shape.ElemId.{ElemId}
use Rattle.pg_value.specs.declared.shape.Shapes.{Shapes}
use Rattle.pg_value.specs.declared.shape.GraphShape.{GraphShape}
use Rattle.pg_value.specs.Tables.{Tables}
use Rattle.pg_view.specs.declared.view.Neighbour.{Neighbour}
use Rattle.pg_meaning.specs.Walks.{Hop, last_vertex}
use Rattle.pg_meaning.specs.Fits.{Mention}
use Rattle.pg_auto.specs.Stages.{Stage}
use Rattle.pg_auto.specs.Counts.{may_enter, may_leave, next_of}
use Rattle.pg_auto.specs.States.{State, first_state, singles_in}
use Rattle.pg_auto.specs.Tests.{fits_mention}
use Rattle.pg_auto.specs.Successors.{enter, leave, rounds_from}
use Rattle.pg_short.specs.Spots.{Spot, needed}
use Rattle.pg_short.specs.Rounds.{hops_in, reading}
use Rattle.pg_short.specs.declared.spots.Named.{Named}
use Rattle.pg_short.specs.declared.spots.Spot.{Spot as HeldSpot}
use Rattle.pg_short.specs.declared.steps.Step.{Step as HeldStep}

-- AS THEY ARE HELD

abbrev pub named_view : Named → Mention
named_view n = record { var = n.var; elem = n.elem }

abbrev pub spot_view : HeldSpot → Spot
spot_view s = record { stage = s.stage; done = s.done; at = s.at; names = map named_view s.names.items }

-- the number of the step before, where it leads, by which hops, and how many hops lead there from the start
pub record Step : Type 0 where
  pub before : ℕ
  pub spot : Spot
  pub hops : List Hop
  pub long : ℕ

abbrev pub step_view : HeldStep → Step
step_view s = record { before = s.before; spot = spot_view s.spot; hops = hops_in s.hops; long = s.long }

-- THE STEPS FROM A STEP

-- a count is below a greatest number, where there is one
abbrev pub is_below : Option ℕ → ℕ → Bool
is_below high done = elim high [ None ↦ true | Some most ↦ nat_lt done most ]

abbrev pub cap : ℕ → Option ℕ → ℕ
cap low high = elim high [ None ↦ low | Some most ↦ most ]

-- where a round that names this leads
abbrev pub spot_in : List Stage → Spot → Stage → List Hop → List Mention → Spot
spot_in stages from stage hops seen = record {
  stage = from.stage;
  done = next_of stage from.done;
  at = last_vertex from.at hops;
  names = needed stages from.stage (from.names ++ seen);
}

-- what a round names agrees with what is kept of what was named before
abbrev pub fits_names : List Mention → List Mention → Bool
fits_names names more = list_all (λ m. list_all (fits_mention m) names) more

abbrev pub spot_if : List Stage → Spot → Stage → List Hop → Option Spot
spot_if stages from stage hops = cond (fits_names from.names (singles_in stage from.at hops)) (Some (spot_in stages from stage hops (singles_in stage from.at hops))) None

abbrev pub step_in : List Stage → ℕ → Step → Stage → List Hop → Step
step_in stages number s stage hops = record {
  before = number;
  spot = spot_in stages s.spot stage hops (singles_in stage s.spot.at hops);
  hops = hops;
  long = s.long + length hops;
}

abbrev pub step_out : List Stage → ℕ → Step → Step
step_out stages number s = record {
  before = number;
  spot = record { stage = s.spot.stage + 1; done = 0; at = s.spot.at; names = needed stages (s.spot.stage + 1) (s.spot.names ++ []) };
  hops = [];
  long = s.long;
}

abbrev pub goes_with : Step → Stage → List Hop → Bool
goes_with s stage hops = fits_names s.spot.names (singles_in stage s.spot.at hops)

abbrev pub step_if : List Stage → ℕ → Step → Stage → List Neighbour → List Step
step_if stages number s stage hops = cond (goes_with s stage (hops_in hops)) (step_in stages number s stage (hops_in hops) ∷ []) []

abbrev pub steps_in : List Stage → ℕ → Step → Stage → List (List Hop) → List Step
steps_in stages number s stage rounds = map (step_in stages number s stage) (filter (goes_with s stage) rounds)

abbrev pub steps_entered : Shapes → Tables → GraphShape → List Stage → ℕ → Step → Stage → List Step
steps_entered shapes tables graph stages number s stage =
    cond (may_enter stage s.spot.done) (steps_in stages number s stage (rounds_from (reading shapes tables graph s.spot.at) stage s.spot.at)) []

abbrev pub steps_left : List Stage → ℕ → Step → Stage → List Step
steps_left stages number s stage = cond (may_leave stage s.spot.done) (step_out stages number s ∷ []) []

abbrev pub steps_of : Shapes → Tables → GraphShape → List Stage → ℕ → Step → Stage → List Step
steps_of shapes tables graph stages number s stage = steps_entered shapes tables graph stages number s stage ++ steps_left stages number s stage

-- of a step with a number
abbrev pub next_steps : Shapes → Tables → GraphShape → List Stage → ℕ → Step → List Step
next_steps shapes tables graph stages number s = elim (slice_get stages s.spot.stage) [ None ↦ [] | Some stage ↦ steps_of shapes tables graph stages number s stage ]

-- WHAT THEY STAND FOR

-- a state, by a round of its stage or out of it
abbrev pub moved : List Stage → State → Step → State
moved stages s step = elim (slice_get stages s.stage) [ None ↦ s | Some stage ↦ cond (step.spot.stage == s.stage) (enter s stage step.hops) (leave s) ]

abbrev pub came : List Stage → ElemId → List State → Step → State
came stages start all step = elim (slice_get all step.before) [ None ↦ first_state start | Some s ↦ moved stages s step ]

-- the states of some steps, one after another
abbrev pub grown : List Stage → ElemId → List State → List Step → List State
grown stages start all [] = all
grown stages start all (step ∷ steps) = grown stages start (all ++ came stages start all step ∷ []) steps

abbrev pub states_of : List Stage → ElemId → List Step → List State
states_of stages start steps = grown stages start [] steps
