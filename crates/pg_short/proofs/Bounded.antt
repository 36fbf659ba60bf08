-- The steps from spots, none of them twice, cost no more than a visit to each vertex from each place of the automaton.
use Rattle.std.proofs.Common.{◌≡◌, ◌≤◌, ◌<◌, ◌+◌, ◌*◌, ℕ, zero, suc, Bool, true, false, cond, max, ◌==◌, ◌||◌, List, [], ◌∷◌, length, map, Contains, ◌⊎◌, inl, inr, refl, arith, ap, sym, ◌∙◌, subst, mul-le-mul_right}
use Rattle.std.specs.Prelude.{Option, Some, None, slice_get, sum_by}
use Rattle.pg_value.specs.declared.shape.ElemId.{ElemId}
use Rattle.pg_value.specs.Graph.{vertices}
use Rattle.pg_value.specs.Tables.{IsInOrder}
use Rattle.pg_meaning.specs.declared.checked.CheckedPath.{CheckedPath}
use Rattle.pg_meaning.specs.declared.checked.CPart.{CPart}
use Rattle.pg_meaning.specs.Rounds.{Leg, round_of, quant_of}
use Rattle.pg_ast.specs.declared.pattern.Quant.{Quant}
use Rattle.pg_meaning.specs.Sound.Graphs.{IsSoundGraph}
use Rattle.std.proofs.lemmas.Bool.{eqb-true}
use Rattle.pg_value.specs.declared.shape.TableNo.{TableNo}
use Rattle.pg_meaning.specs.EdgeKeys.{same_table}
use Rattle.pg_search.specs.Searches.{is_among}
use Rattle.pg_meaning.specs.Reads.{HopsAreNeighbours}
use Rattle.pg_auto.specs.Stages.{Stage, Pattern, stage_of, stages_of, pattern_of, low_of, high_of}
use Rattle.std.specs.Prelude.{is_some}
use Rattle.pg_auto.specs.Counts.{cap, may_enter}
use Rattle.pg_auto.specs.States.{Task, State}
use Rattle.pg_auto.specs.Steps.{IsSoundTask}
use Rattle.pg_short.specs.Spots.{Spot, needed, spot_of}
use Rattle.pg_short.specs.Searches.{IsReached}
use Rattle.pg_short.specs.Found.{task_over}
use Rattle.pg_short.specs.Costs.{Costs, NamesOnce, IsRead, IsReachedSpot, greatest, visits_cost, visit_cost, most_edges, legs_cost, stage_cost, spot_cost, spots_cost}
use Rattle.pg_short.proofs.Counting.{counted}
use Rattle.pg_short.proofs.FixedNames.{StandOnce, same_names}
use Rattle.pg_short.proofs.Placed.{IsPlaced, placed}
use Rattle.pg_short.proofs.Places.{turns, in_turns, places, in_places, all_at, in_all, cost_all, few_places, few_edges}
use Rattle.pg_short.proofs.VisitCosts.{if_within, legs_within}

-- the parts of a path pattern that have no quantifier stand once

low_once : (quant : Option Quant) → is_some quant ≡ false → low_of quant ≡ 1
low_once None h = refl
low_once (Some q) h = absurd (let z : true ≡ false = h in cc)

high_once : (quant : Option Quant) → is_some quant ≡ false → high_of quant ≡ Some 1
high_once None h = refl
high_once (Some q) h = absurd (let z : true ≡ false = h in cc)

stage_in : (parts : List CPart) (k : ℕ) (stage : Stage) → slice_get (map stage_of parts) k ≡ Some stage → (part : CPart) × (stage_of part ≡ stage)
stage_in [] k stage h = absurd (cc)
stage_in (part ∷ parts) zero stage h = (part, let same : stage_of part ≡ stage = cc in same)
stage_in (part ∷ parts) (suc k) stage h = stage_in parts k stage h

stand_once : (path : CheckedPath) → StandOnce (stages_of path)
stand_once path = record {
  low = λ k stage h g. let m = stage_in path.parts k stage h in sym (ap (λ (x : Stage). x.low) m.1) ∙ low_once (quant_of m.0) (ap (λ (x : Stage). x.grouped) m.1 ∙ g);
  high = λ k stage h g. let m = stage_in path.parts k stage h in sym (ap (λ (x : Stage). x.high) m.1) ∙ high_once (quant_of m.0) (ap (λ (x : Stage). x.grouped) m.1 ∙ g);
}

module _ (near : HopsAreNeighbours) (costs : Costs) (path : CheckedPath) (start : ElemId) (graph : IsSoundGraph costs.shapes path.graph) (order : IsInOrder costs.tables)
    (vertex : Contains (vertices path.graph costs.tables) start) (once : NamesOnce (stages_of path)) where
  abbrev task : Task
  task = task_over costs.shapes costs.tables (pattern_of path) start

  sound : IsSoundTask task
  sound = record { graph = graph; tables = order }

  place_of : (s : State) → IsReached task s → IsPlaced task s
  place_of s r = placed near task sound vertex s r

  -- a round of edges may begin there
  record Reads (x : Spot) : Type 0 where
    spot : IsReachedSpot task x
    stage : Stage
    here : slice_get (stages_of path) x.stage ≡ Some stage
    may : may_enter stage x.done ≡ true

  abbrev key : Spot → (ℕ × ℕ) × ElemId
  key x = ((x.stage, x.done), x.at)

  abbrev cost : Spot → ℕ
  cost x = spot_cost costs.hop costs.shapes costs.tables path.graph (stages_of path) x

  abbrev weight : (ℕ × ℕ) × ElemId → ℕ
  weight y = visit_cost costs path.graph (most_edges path) y.1

  at_stage : (x : Spot) (o : Option Stage) → slice_get (stages_of path) x.stage ≡ o → cost x ≡ elim o as (λ _. ℕ) [ None ↦ 0 | Some stage ↦ stage_cost costs.hop costs.shapes costs.tables path.graph stage x.done x.at ]
  at_stage x o h = ap (λ (z : Option Stage). elim z as (λ _. ℕ) [ None ↦ 0 | Some stage ↦ stage_cost costs.hop costs.shapes costs.tables path.graph stage x.done x.at ]) h

  small : (x : Spot) → Reads x → cost x ≤ weight (key x)
  small x r =
      let e = at_stage x (Some r.stage) r.here in
      let l = legs_within costs path.graph (most_edges path) r.stage.round.legs x.at (few_edges path x.stage r.stage r.here) in
      let k = if_within (may_enter r.stage x.done) (legs_cost costs.hop costs.shapes costs.tables path.graph r.stage.round.legs x.at) _ l in
      omega arith

  apart : (x z : Spot) → Reads x → Reads z → key x ≡ key z → x ≡ z
  apart x z r q e = λ i. record { stage = stages i; done = (e i).0.1; at = (e i).1; names = names i }
    where
      stages : x.stage ≡ z.stage
      stages = ap (λ (y : (ℕ × ℕ) × ElemId). y.0.0) e

      s : State
      s = r.spot.state

      u : State
      u = q.spot.state

      s_at : s.stage ≡ x.stage
      s_at = ap (λ (y : Spot). y.stage) r.spot.spot

      u_at : u.stage ≡ z.stage
      u_at = ap (λ (y : Spot). y.stage) q.spot.spot

      names : x.names ≡ z.names
      names = sym (ap (λ (y : Spot). y.names) r.spot.spot)
          ∙ same_names task (stand_once path) once (λ w d. (place_of w d).counted) s u r.spot.reached q.spot.reached (s_at ∙ stages ∙ sym u_at) r.stage (ap (slice_get (stages_of path)) s_at ∙ r.here)
          (ap (may_enter r.stage) (ap (λ (y : Spot). y.done) r.spot.spot) ∙ r.may)
          (ap (may_enter r.stage) (ap (λ (y : Spot). y.done) q.spot.spot ∙ sym (ap (λ (y : (ℕ × ℕ) × ElemId). y.0.1) e)) ∙ r.may)
          ∙ ap (λ (y : Spot). y.names) q.spot.spot

  abbrev pairs : List ((ℕ × ℕ) × ElemId)
  pairs = all_at (places (stages_of path)) (vertices path.graph costs.tables)

  each : (x : Spot) → IsReachedSpot task x → (cost x ≡ 0) ⊎ (Reads x × Contains pairs (key x))
  each x r = go (slice_get (stages_of path) x.stage) refl
    where
      there : (stage : Stage) → slice_get (stages_of path) x.stage ≡ Some stage → may_enter stage x.done ≡ true → 0 < length stage.round.legs → Contains pairs (key x)
      there stage h may l =
          let p = place_of r.state r.reached in
          let c = p.counted stage (ap (λ (y : Spot). slice_get (stages_of path) y.stage) r.spot ∙ h) in
          let d = ap (λ (y : Spot). y.done) r.spot in
          in_all (places (stages_of path)) (vertices path.graph costs.tables) (x.stage, x.done) x.at (in_places (stages_of path) x.stage x.done stage h (in_turns stage x.done l may (omega arith)))
          (subst (λ (v : ElemId). Contains (vertices path.graph costs.tables) v) (ap (λ (y : Spot). y.at) r.spot) p.vertex)

      of_legs : (stage : Stage) → slice_get (stages_of path) x.stage ≡ Some stage → may_enter stage x.done ≡ true → (legs : List Leg) → stage.round.legs ≡ legs → (cost x ≡ 0) ⊎ (Reads x × Contains pairs (key x))
      of_legs stage h may [] e = inl (at_stage x (Some stage) h ∙ ap (λ b. cond b (legs_cost costs.hop costs.shapes costs.tables path.graph stage.round.legs x.at) 0) may ∙ ap (λ (ls : List Leg). legs_cost costs.hop costs.shapes costs.tables path.graph ls x.at) e)
      of_legs stage h may (leg ∷ legs) e = inr (record { spot = r; stage = stage; here = h; may = may }, there stage h may (let l = ap length e in omega arith))

      of_turn : (stage : Stage) → slice_get (stages_of path) x.stage ≡ Some stage → (b : Bool) → may_enter stage x.done ≡ b → (cost x ≡ 0) ⊎ (Reads x × Contains pairs (key x))
      of_turn stage h false e = inl (at_stage x (Some stage) h ∙ ap (λ b. cond b (legs_cost costs.hop costs.shapes costs.tables path.graph stage.round.legs x.at) 0) e)
      of_turn stage h true e = of_legs stage h e stage.round.legs refl

      go : (o : Option Stage) → slice_get (stages_of path) x.stage ≡ o → (cost x ≡ 0) ⊎ (Reads x × Contains pairs (key x))
      go None h = inl (at_stage x None h)
      go (Some stage) h = of_turn stage h (may_enter stage x.done) refl

  pub within : (before now : ℕ) → IsRead costs.hop task [] before now → now ≤ before + visits_cost costs path
  within before now r =
      let a : now + 0 ≤ before + spots_cost costs.hop task r.spots = r.within in
      let b : spots_cost costs.hop task r.spots ≤ sum_by weight pairs = counted cost key weight Reads small apart r.spots pairs r.apart (λ x c. each x (r.reached x c)) in
      let c : sum_by weight pairs ≡ length (places (stages_of path)) * sum_by (visit_cost costs path.graph (most_edges path)) (vertices path.graph costs.tables) =
      cost_all (visit_cost costs path.graph (most_edges path)) (places (stages_of path)) (vertices path.graph costs.tables) in
      let d : length (places (stages_of path)) * sum_by (visit_cost costs path.graph (most_edges path)) (vertices path.graph costs.tables) ≤ visits_cost costs path =
      mul-le-mul_right (sum_by (visit_cost costs path.graph (most_edges path)) (vertices path.graph costs.tables)) (few_places path) in
      omega arith

-- the same of an automaton's own stages
pub read_within : HopsAreNeighbours → (costs : Costs) (path : CheckedPath) (start : ElemId) → IsSoundGraph costs.shapes path.graph → IsInOrder costs.tables → Contains (vertices path.graph costs.tables) start → NamesOnce (stages_of path)
    → (p : Pattern) → p ≡ pattern_of path → (before now : ℕ) → IsRead costs.hop (task_over costs.shapes costs.tables p start) [] before now → now ≤ before + visits_cost costs path
read_within near costs path start graph order vertex once p e before now r =
    within near costs path start graph order vertex once before now (subst (λ (q : Pattern). IsRead costs.hop (task_over costs.shapes costs.tables q start) [] before now) e r)

-- the row of a vertex table costs no more than the greatest
pub row_within : (row : TableNo → ℕ) (tables : List TableNo) (t : TableNo) → cond (is_among tables t) (row t) 0 ≤ greatest (map row tables)
row_within row [] t = omega arith
row_within row (x ∷ xs) t = go (x.0 == t.0) refl (row_within row xs t)
  where
    go : (b : Bool) → (x.0 == t.0) ≡ b → cond (is_among xs t) (row t) 0 ≤ greatest (map row xs) → cond (b || is_among xs t) (row t) 0 ≤ max (row x) (greatest (map row xs))
    go true e l = let same = ap row (same_table x t (eqb-true x.0 t.0 e)) in omega arith
    go false e l = omega arith
