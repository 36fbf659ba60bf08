-- What a search for least lengths keeps. Some states are visited, and others wait; what follows a visited state is at a spot that is visited, or
-- that waits, with no more hops.
use Rattle.std.specs.Prelude.{◌≡◌, ◌≤◌, ◌<◌, ◌+◌, ◌⊎◌, ℕ, true, List, [], length, map, Contains, slice_get, Some}
use Rattle.std.specs.Option.{unwrap_or}
use Rattle.pg_value.specs.declared.shape.ElemId.{ElemId}
use Rattle.pg_meaning.specs.Walks.{Hop}
use Rattle.pg_meaning.specs.Bindings.{Distinct}
use Rattle.pg_auto.specs.Stages.{Stage}
use Rattle.pg_auto.specs.Counts.{may_enter, may_leave}
use Rattle.pg_auto.specs.States.{Task, State, first_state}
use Rattle.pg_auto.specs.Successors.{rounds_from, enter, leave, goes_on}
use Rattle.pg_short.specs.Spots.{spot_of}
use Rattle.pg_short.specs.Steps.{Step, states_of}

-- THE STATES THAT A WALK COMES TO

-- a state follows another, by a round of its stage or out of it
pub data Follows (t : Task) (s : State) : State → Type 0 where
  enters : (stage : Stage) → slice_get t.stages s.stage ≡ Some stage → may_enter stage s.done ≡ true → (hops : List Hop) → Contains (rounds_from t stage s.at) hops → goes_on t s stage hops ≡ true
      → Follows t s (enter s stage hops)
  leaves : (stage : Stage) → slice_get t.stages s.stage ≡ Some stage → may_leave stage s.done ≡ true → Follows t s (leave s)

pub data IsReached (t : Task) : State → Type 0 where
  first : IsReached t (first_state t.start)
  next : (s : State) → IsReached t s → (c : State) → Follows t s c → IsReached t c

-- WHAT IS VISITED AND WHAT WAITS

-- one of some states is of the spot of this one, and no longer
pub record IsCovered (t : Task) (some_states : List State) (s : State) : Type 0 where
  pub by : State
  pub there : Contains some_states by
  pub same : spot_of t.stages by ≡ spot_of t.stages s
  pub short : length by.hops ≤ length s.hops

pub record Searches (t : Task) (all wait : List State) : Type 0 where
  pub reached : (s : State) → Contains all s → IsReached t s
  pub waits : (s : State) → Contains wait s → IsReached t s
  pub begun : IsCovered t all (first_state t.start) ⊎ IsCovered t wait (first_state t.start)
  pub closed : (s c : State) → Contains all s → Follows t s c → IsCovered t all c ⊎ IsCovered t wait c
  -- what is visited is of least length
  pub least : (s r : State) → Contains all s → IsReached t r → spot_of t.stages s ≡ spot_of t.stages r → length s.hops ≤ length r.hops
  -- no spot is visited twice
  pub apart : Distinct (map (spot_of t.stages) all)

-- THE STEPS OF A SEARCH

-- what a step stands for
pub record StandsFor (t : Task) (s : State) (step : Step) : Type 0 where
  pub spot : step.spot ≡ spot_of t.stages s
  pub long : step.long ≡ length s.hops

abbrev pub states : Task → List Step → List State
states t found = states_of t.stages t.start found

abbrev pub state_at : Task → List Step → ℕ → State
state_at t found k = unwrap_or (slice_get (states t found) k) (first_state t.start)

abbrev pub visited : Task → List Step → List ℕ → List State
visited t found order = map (state_at t found) order

abbrev pub waiting : Task → List Step → List (ℕ × ℕ) → List State
waiting t found queue = map (λ e. state_at t found e.1) queue

-- a count of hops and a number, of a step
pub record IsQueued (found : List Step) (e : ℕ × ℕ) : Type 0 where
  pub step : Step
  pub there : slice_get found e.1 ≡ Some step
  pub long : e.0 ≡ step.long

pub record IsSearch (t : Task) (found : List Step) (order : List ℕ) (queue : List (ℕ × ℕ)) : Type 0 where
  pub searches : Searches t (visited t found order) (waiting t found queue)
  pub stands : (k : ℕ) (step : Step) → slice_get found k ≡ Some step → StandsFor t (state_at t found k) step
  pub ordered : (k : ℕ) → Contains order k → k < length found
  pub queued : (e : ℕ × ℕ) → Contains queue e → IsQueued found e

-- nothing but this is taken from what waits
pub record IsOut (e : ℕ × ℕ) (queue rest : List (ℕ × ℕ)) : Type 0 where
  pub own : Contains queue e
  pub back : (x : ℕ × ℕ) → Contains rest x → Contains queue x
  pub stays : (x : ℕ × ℕ) → Contains queue x → (e ≡ x) ⊎ Contains rest x

-- more steps wait, by the numbers that they have behind those that were found
pub record IsMore (n : ℕ) (new : List Step) (rest queue : List (ℕ × ℕ)) : Type 0 where
  pub keeps : (x : ℕ × ℕ) → Contains rest x → Contains queue x
  pub adds : (k : ℕ) (y : Step) → slice_get new k ≡ Some y → Contains queue (y.long, n + k)
  pub whence : (x : ℕ × ℕ) → Contains queue x → Contains rest x ⊎ ((k : ℕ) × (y : Step) × (slice_get new k ≡ Some y) × ((y.long, n + k) ≡ x))

-- the step that every other goes on from
abbrev pub first_step : ElemId → Step
first_step start = record { before = 0; spot = record { stage = 0; done = 0; at = start; names = [] }; hops = []; long = 0 }
