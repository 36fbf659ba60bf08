-- Ways from place to place, each with a length: what searches for least lengths go over. A way to the end of the pattern is as long as a
-- walk that fits.
use Rattle.std.specs.Prelude.{◌≡◌, ◌↔◌, ◌+◌, ℕ, true, List, length, flat_map, slice_get, Some}
use Rattle.pg_value.specs.declared.shape.ElemId.{ElemId}
use Rattle.pg_meaning.specs.Walks.{Hop, last_vertex}
use Rattle.pg_meaning.specs.Fits.{RoundFits, join}
use Rattle.pg_auto.specs.Stages.{Stage}
use Rattle.pg_auto.specs.Counts.{may_enter, may_leave, next_of, Rest}
use Rattle.pg_auto.specs.States.{Task, Place, graph_in}

abbrev pub first_place : Task → Place
first_place t = record { stage = 0; done = 0; at = t.start }

-- behind the last stage
abbrev pub end_place : Task → ElemId → Place
end_place t v = record { stage = length t.stages; done = 0; at = v }

abbrev pub place_left : Place → Place
place_left p = record { stage = p.stage + 1; done = 0; at = p.at }

abbrev pub place_entered : Place → Stage → List Hop → Place
place_entered p stage hops = record { stage = p.stage; done = next_of stage p.done; at = last_vertex p.at hops }

-- ways from a place to q, with their lengths: a round is as long as its hops are many, and to leave a stage takes none
pub data Way (t : Task) (q : Place) : Place → ℕ → Type 0 where
  stop : Way t q q 0
  leave : {n : ℕ} → (p : Place) (stage : Stage) → slice_get t.stages p.stage ≡ Some stage → may_leave stage p.done ≡ true → Way t q (place_left p) n → Way t q p n
  enter : {n : ℕ} → (p : Place) (stage : Stage) → slice_get t.stages p.stage ≡ Some stage → may_enter stage p.done ≡ true → (hops : List Hop) → RoundFits (graph_in t) stage.round p.at hops
      → Way t q (place_entered p stage hops) n → Way t q p (length hops + n)

-- cuts from the first stage on, of this length and to this vertex
pub record IsWalkTo (t : Task) (v : ElemId) (n : ℕ) : Type 0 where
  pub cuts : List (List (List Hop))
  pub rest : Rest (graph_in t) t.stages 0 t.start cuts
  pub long : length (flat_map join cuts) ≡ n
  pub ends : last_vertex t.start (flat_map join cuts) ≡ v

abbrev pub WaysAreWalks : Type 0
WaysAreWalks = (t : Task) (v : ElemId) (n : ℕ) → Way t (end_place t v) (first_place t) n ↔ IsWalkTo t v n
