-- How the rounds of a stage are counted, and what is left of a pattern at a place in it.
use Rattle.std.specs.Prelude.{◌≡◌, ◌+◌, ℕ, Bool, true, cond, nat_le, nat_lt, List, [], ◌∷◌, Some, None}
use Rattle.pg_value.specs.declared.shape.ElemId.{ElemId}
use Rattle.pg_meaning.specs.Walks.{Graph, Hop, last_vertex}
use Rattle.pg_meaning.specs.Fits.{RoundFits, join}
use Rattle.pg_auto.specs.Stages.{Stage}

-- another round may begin where so many are done
abbrev pub may_enter : Stage → ℕ → Bool
may_enter stage done = elim stage.high [ None ↦ true | Some high ↦ nat_lt done high ]

-- enough rounds are done
abbrev pub may_leave : Stage → ℕ → Bool
may_leave stage done = nat_le stage.low done

-- how many rounds are told apart: without an upper number only whether there are enough
abbrev pub cap : Stage → ℕ
cap stage = elim stage.high [ None ↦ stage.low | Some high ↦ high ]

-- the count after another round
abbrev pub next_of : Stage → ℕ → ℕ
next_of stage done = cond (nat_lt done (cap stage)) (done + 1) done

-- these rounds, and no more, are left of a stage of which some are done
abbrev pub RoundsLeft : Graph → Stage → ℕ → ElemId → List (List Hop) → Type 0
RoundsLeft g stage done v [] = may_leave stage done ≡ true
RoundsLeft g stage done v (hops ∷ rounds) = (may_enter stage done ≡ true) × RoundFits g stage.round v hops × RoundsLeft g stage (next_of stage done) (last_vertex v hops) rounds

-- these cuts are left of some stages, of the first of which some rounds are done
abbrev pub Rest : Graph → List Stage → ℕ → ElemId → List (List (List Hop)) → Type 0
Rest g [] done v [] = Unit {0}
Rest g [] done v (rounds ∷ cuts) = ⊥
Rest g (stage ∷ stages) done v [] = ⊥
Rest g (stage ∷ stages) done v (rounds ∷ cuts) = RoundsLeft g stage done v rounds × Rest g stages 0 (last_vertex v (join rounds)) cuts
