-- What a search does to its numbers and to the states that it keeps.
use Rattle.std.specs.Prelude.{◌≡◌, ◌<◌, ◌==◌, ◌&&◌, ◌++◌, cond, ℕ, Bool, true, List, [], ◌∷◌, map, length, Contains, Some, slice_get}
use Rattle.pg_keyed.specs.Lists.{Each}
use Rattle.std.specs.List.{list_any}
use Rattle.pg_value.specs.declared.shape.TableNo.{TableNo}
use Rattle.pg_value.specs.declared.shape.ElemId.{ElemId}
use Rattle.pg_value.specs.declared.shape.GraphShape.{GraphShape}
use Rattle.pg_value.specs.declared.shape.Shapes.{Shapes}
use Rattle.pg_value.specs.Tables.{Tables}
use Rattle.pg_ast.specs.declared.pattern.Mode.{Mode}
use Rattle.pg_meaning.specs.Walks.{Hop}
use Rattle.pg_meaning.specs.Fits.{Mention}
use Rattle.pg_auto.specs.Stages.{Stage}
use Rattle.pg_auto.specs.States.{Task, State, Walked, Completes, first_state}
use Rattle.pg_auto.specs.Ranks.{IsValid}
use Rattle.pg_meaning.specs.Bindings.{Distinct}
use Rattle.pg_auto.specs.Successors.{is_round, goes_on, enter, successors}
use Rattle.pg_auto.specs.Tests.{permits, agrees}
use Rattle.pg_search.specs.declared.states.Kept.{Kept}
use Rattle.pg_search.specs.Numbers.{Numbers, Grow, IsWithin, hops_at, mentions_at, state_of}
use Rattle.pg_search.specs.Puts.{IsPut}

abbrev pub task_at : Shapes → GraphShape → Tables → List Stage → Mode → ElemId → Task
task_at shapes g tables stages mode start = record { shapes = shapes; graph = g; tables = tables; stages = stages; mode = mode; start = start }

-- what a round adds to what the parts that stand once name
abbrev pub singles_of : Stage → List Mention → List Mention
singles_of stage seen = cond stage.grouped [] seen

-- hops that fit a round's legs are one, and the walk with it goes on
abbrev pub passes : Task → State → Stage → List Hop → Bool
passes t s stage hops = is_round t stage s.at hops && goes_on t s stage hops

-- a walk that goes on from a state's own over a round's legs
pub record IsRoundWalk (n : Numbers) (state : Kept) (stage : Stage) (walk : ℕ) (hops : List Hop) : Type 0 where
  pub stands : hops_at n walk ≡ hops_at n state.walk ++ hops
  pub long : length hops ≡ length stage.round.legs

-- the number of such a walk
pub record IsSomeRound (n : Numbers) (state : Kept) (stage : Stage) (walk : ℕ) : Type 0 where
  pub within : walk < length n.walks
  pub hops : List Hop
  pub round : IsRoundWalk n state stage walk hops

-- the hops of the rounds with which some walks go on from a state's own
pub record AreRounds (n : Numbers) (state : Kept) (stage : Stage) (walks : List ℕ) (rounds : List (List Hop)) : Type 0 where
  pub stand : map (hops_at n) walks ≡ map (λ hops. hops_at n state.walk ++ hops) rounds
  pub long : Each (λ hops. length hops ≡ length stage.round.legs) rounds

-- what has come so far is permitted, and agrees
pub record IsFine (n : Numbers) (mode : Mode) (state : Kept) : Type 0 where
  pub within : IsWithin n state
  pub permitted : permits mode n.start (hops_at n state.walk) ≡ true
  pub agree : agrees (mentions_at n state.singles) ≡ true

-- the state of a round, where it fits
abbrev pub entered_if : Task → State → Stage → List Hop → List State
entered_if t s stage hops = cond (passes t s stage hops) (enter s stage hops ∷ []) []

-- numbers of a state
pub record IsEntered (n m : Numbers) (next : Kept) (state : State) : Type 0 where
  pub grow : Grow n m
  pub within : IsWithin m next
  pub stands : state_of m next ≡ state

-- states stand behind the others, one after another, where they are not among them
abbrev pub ArePut : List State → List State → List State → Type 0
ArePut all [] more = all ≡ more
ArePut all (c ∷ cs) more = (next : List State) × IsPut all c next × ArePut next cs more

pub record PutStates (n m : Numbers) (old new : List Kept) (put : List State) : Type 0 where
  pub grow : Grow n m
  pub within : Each (IsWithin m) new
  pub are : ArePut (map (state_of m) old) put (map (state_of m) new)

-- VISITING

-- one list of states without doubles: those before a place are visited, the others wait
pub record Visits (t : Task) (all : List State) (i : ℕ) : Type 0 where
  pub begun : Contains all (first_state t.start)
  pub distinct : Distinct all
  -- what follows a visited state is there
  pub closed : (k : ℕ) (s : State) (stage : Stage) → k < i → slice_get all k ≡ Some s → slice_get t.stages s.stage ≡ Some stage → (c : State) → Contains (successors t s stage) c → Contains all c
  pub valid : (s : State) → Contains all s → IsValid t s
  -- what completes a state that is there completes the first one
  pub leads : (s : State) (w : Walked) → Contains all s → Completes t s w → Completes t (first_state t.start) w

-- the numbers of such a list
pub record IsVisiting (t : Task) (n : Numbers) (states : List Kept) (i : ℕ) : Type 0 where
  pub start : n.start ≡ t.start
  pub within : Each (IsWithin n) states
  pub visits : Visits t (map (state_of n) states) i

-- a table stands among some
abbrev pub is_among : List TableNo → TableNo → Bool
is_among tables t = list_any (λ other. other.0 == t.0) tables
