-- What is left of a walk: its hops from some spot on, and what it names from there on. By numbers it is kept from its end on, so that
-- walks that end alike share their ends.
use Rattle.std.specs.Prelude.{◌≡◌, ◌<◌, ◌≤◌, ◌==◌, ℕ, List, [], ◌∷◌, ◌++◌, map, flat_map, cond, length, reverse, Contains, Option, Some, None, slice_get}
use Rattle.pg_value.specs.declared.shape.ElemId.{ElemId}
use Rattle.pg_meaning.specs.declared.checked.PathBinding.{PathBinding}
use Rattle.pg_meaning.specs.Walks.{Hop}
use Rattle.pg_meaning.specs.Fits.{Mention}
use Rattle.pg_meaning.specs.Bindings.{Distinct, path_binding}
use Rattle.pg_auto.specs.Stages.{Stage}
use Rattle.pg_auto.specs.States.{Walked, binding_of}
use Rattle.pg_search.specs.declared.states.Kept.{Kept}
use Rattle.pg_search.specs.Numbers.{Numbers, Grow, hops_at, mentions_at}
use Rattle.pg_short.specs.Steps.{Step}
use Rattle.pg_short.specs.Walks.{Round, round_of, singles_at, groups_at}
use Rattle.pg_short.specs.Tight.{IsPlace, IsTight}

-- ONE BEHIND ANOTHER

abbrev pub joined : Walked → Walked → Walked
joined a b = record { hops = a.hops ++ b.hops; singles = a.singles ++ b.singles; groups = a.groups ++ b.groups }

abbrev pub nothing : Walked
nothing = record { hops = []; singles = []; groups = [] }

-- a round alone, where there is one
abbrev pub round_walk : Option Round → Walked
round_walk None = nothing
round_walk (Some r) = record { hops = r.hops; singles = singles_at r; groups = groups_at r }

-- BACK OVER TIGHT STEPS

-- a place, and what is left of a walk from its spot on
abbrev pub Rest : Type 0
Rest = ℕ × Walked

abbrev pub IsEndPlace : List Stage → List Step → List ℕ → ℕ → Type 0
IsEndPlace stages found order p = (step : Step) × IsPlace found order p step × (length stages ≤ step.spot.stage)

-- with the step of a number in front, from the place of the spot before it
pub record IsBefore (stages : List Stage) (found : List Step) (order : List ℕ) (k : ℕ) (w : Walked) (rest : Rest) : Type 0 where
  pub step : Step
  pub there : slice_get found k ≡ Some step
  pub before : Step
  pub from : slice_get found step.before ≡ Some before
  pub least : Step
  pub place : IsPlace found order rest.0 least
  pub spot : least.spot ≡ before.spot
  pub walk : rest.1 ≡ joined (round_walk (round_of stages before step)) w

-- tight steps lead from the spot of a place to one behind the last stage, and this is the walk that they make
pub data IsLed (stages : List Stage) (found : List Step) (order : List ℕ) : Rest → Type 0 where
  ended : (p : ℕ) → IsEndPlace stages found order p → IsLed stages found order (p, nothing)
  back : (rest more : Rest) (k : ℕ) → IsLed stages found order rest → IsTight found order rest.0 k → IsBefore stages found order k rest.1 more → IsLed stages found order more

-- of the rests that are kept, the first so many have been gone back from
pub record AreLed (stages : List Stage) (found : List Step) (order : List ℕ) (rests : List Rest) (n : ℕ) : Type 0 where
  pub led : (rest : Rest) → Contains rests rest → IsLed stages found order rest
  pub ended : (p : ℕ) → IsEndPlace stages found order p → Contains rests (p, nothing)
  pub closed : (j k : ℕ) (rest : Rest) → j < n → slice_get rests j ≡ Some rest → IsTight found order rest.0 k
      → (more : Rest) × IsBefore stages found order k rest.1 more × Contains rests more

-- BY NUMBERS

-- a walk with hops behind it has this number
pub record IsFarther (n : Numbers) (walk : ℕ) (hops : List Hop) (k : ℕ) (m : Numbers) : Type 0 where
  pub grow : Grow n m
  pub within : k < length m.walks
  pub stands : hops_at m k ≡ hops_at n walk ++ hops

-- mentions with others behind them have this number
pub record IsNamedOn (n : Numbers) (names : ℕ) (seen : List Mention) (k : ℕ) (m : Numbers) : Type 0 where
  pub grow : Grow n m
  pub within : k < length m.names
  pub stands : mentions_at m k ≡ mentions_at n names ++ seen

-- from its end on
abbrev pub left_of : Numbers → Kept → Walked
left_of n a = record { hops = reverse (hops_at n a.walk); singles = reverse (mentions_at n a.singles); groups = reverse (mentions_at n a.groups) }

abbrev pub rest_of : Numbers → Kept → Rest
rest_of n a = (a.stage, left_of n a)

abbrev pub rests_of : Numbers → List Kept → List Rest
rests_of n all = map (rest_of n) all

-- its numbers stand for something, and it has no rounds
pub record IsWithin (n : Numbers) (a : Kept) : Type 0 where
  pub walk : a.walk < length n.walks
  pub singles : a.singles < length n.names
  pub groups : a.groups < length n.names
  pub done : a.done ≡ 0

-- what the numbers stand for, where more are given
pub record IsRest (n m : Numbers) (a : Kept) (rest : Rest) : Type 0 where
  pub grow : Grow n m
  pub within : IsWithin m a
  pub stands : rest_of m a ≡ rest

abbrev pub AreWithin : Numbers → List Kept → Type 0
AreWithin n all = (a : Kept) → Contains all a → IsWithin n a

-- some rests are put behind others
pub record PutRests (n m : Numbers) (all more : List Kept) (Given : Rest → Type 0) : Type 0 where
  pub grow : Grow n m
  pub within : AreWithin m more
  pub new : List Rest
  pub whole : rests_of m more ≡ rests_of n all ++ new
  pub given : (rest : Rest) → Contains new rest → Given rest

-- with each of some steps in front
pub record PutBack (stages : List Stage) (found : List Step) (order ks : List ℕ) (w : Walked) (n m : Numbers) (all more : List Kept) : Type 0 where
  pub puts : PutRests n m all more (λ rest. (k : ℕ) × Contains ks k × IsBefore stages found order k w rest)
  pub each : (k : ℕ) → Contains ks k → (rest : Rest) × IsBefore stages found order k w rest × Contains (rests_of m more) rest

-- nothing is left at a place
abbrev pub end_kept : ℕ → Kept
end_kept p = record { stage = p; done = 0; walk = 0; singles = 0; groups = 0 }

-- of the places before a number, those behind the last stage, with nothing left
pub record AreEnds (stages : List Stage) (found : List Step) (order : List ℕ) (all : List Kept) (n : ℕ) : Type 0 where
  pub only : (a : Kept) → Contains all a → (end_kept a.stage ≡ a) × IsEndPlace stages found order a.stage
  pub each : (p : ℕ) → p < n → IsEndPlace stages found order p → Contains all (end_kept p)

-- FROM THE START

-- the binding of what is left from the place of the start, which is a whole walk
abbrev pub whole_at : ElemId → List ℕ → ℕ → Rest → List PathBinding
whole_at start vars p rest = cond (rest.0 == p) (path_binding (binding_of start vars rest.1) ∷ []) []

abbrev pub whole_in : Numbers → List ℕ → ℕ → Option Kept → List PathBinding
whole_in n vars p o = elim o [ None ↦ [] | Some a ↦ whole_at n.start vars p (rest_of n a) ]

-- of everything that tight steps lead from, each once, what is left from the place of the first step
pub record AreWhole (stages : List Stage) (start : ElemId) (vars : List ℕ) (found : List Step) (order : List ℕ) (out : List PathBinding) : Type 0 where
  pub rests : List Rest
  pub led : AreLed stages found order rests (length rests)
  pub distinct : Distinct rests
  pub place : ℕ
  pub least : Step
  pub here : IsPlace found order place least
  pub first : Step
  pub begins : slice_get found 0 ≡ Some first
  pub spot : least.spot ≡ first.spot
  pub given : out ≡ flat_map (whole_at start vars place) rests
