-- What the reads of rounds cost, leg by leg, is what those over the first leg cost, and those over the others from where it leads.
use Rattle.std.proofs.Common.{◌≡◌, ◌≤◌, ◌+◌, ℕ, List, [], ◌∷◌, ◌++◌, map, refl, arith, ap, sym, ◌∙◌}
use Rattle.std.specs.Prelude.{flat_map, sum_by}
use Rattle.std.proofs.lemmas.List.Sums.{sum_by-cons, sum_by-append}
use Rattle.pg_value.specs.declared.value.Dir.{Dir}
use Rattle.pg_value.specs.declared.row.Key.{Key}
use Rattle.pg_value.specs.declared.shape.ElemId.{ElemId}
use Rattle.pg_value.specs.declared.shape.EdgeNo.{EdgeNo}
use Rattle.pg_value.specs.declared.shape.Shapes.{Shapes}
use Rattle.pg_value.specs.declared.shape.GraphShape.{GraphShape}
use Rattle.pg_value.specs.Tables.{Tables}
use Rattle.pg_view.specs.declared.view.Neighbour.{Neighbour}
use Rattle.pg_meaning.specs.Walks.{Hop, last_vertex}
use Rattle.pg_meaning.specs.Rounds.{Leg}
use Rattle.pg_auto.specs.Successors.{longer}
use Rattle.pg_search.specs.Hops.{hops_of}
use Rattle.pg_short.specs.Rounds.{hops_in, all_hops, reading}
use Rattle.pg_short.specs.Costs.{leg_cost, legs_cost, front_cost, fronts_cost}

pub last_more : (v : ElemId) (front : List Hop) (hop : Hop) → last_vertex v (front ++ hop ∷ []) ≡ hop.to
last_more v [] hop = refl
last_more v (h ∷ front) hop = last_more h.to front hop

module _ (cost : EdgeNo → Dir → Key → ℕ) (shapes : Shapes) (tables : Tables) (graph : GraphShape) where
  -- from where hops with one hop more end
  one_longer : (legs : List Leg) (v : ElemId) (front : List Hop) (hops : List Hop)
      → fronts_cost cost shapes tables graph legs v (map (λ hop. front ++ hop ∷ []) hops) ≡ sum_by (λ hop. legs_cost cost shapes tables graph legs hop.to) hops
  one_longer legs v front [] = refl
  one_longer legs v front (hop ∷ hops) =
      let a = sum_by-cons (λ (f : List Hop). legs_cost cost shapes tables graph legs (last_vertex v f)) (front ++ hop ∷ []) (map (λ h. front ++ h ∷ []) hops) in
      let b = sum_by-cons (λ (h : Hop). legs_cost cost shapes tables graph legs h.to) hop hops in
      let first = ap (legs_cost cost shapes tables graph legs) (last_more v front hop) in
      let rest = one_longer legs v front hops in
      omega arith

  -- over the first leg, and over the others behind it
  pub leg_first : (leg : Leg) (legs : List Leg) (v w : ElemId) (fronts : List (List Neighbour))
      → sum_by (front_cost cost shapes graph leg v) fronts + fronts_cost cost shapes tables graph legs v (flat_map (longer (reading shapes tables graph w) leg v) (all_hops fronts))
      ≡ fronts_cost cost shapes tables graph (leg ∷ legs) v (all_hops fronts)
  leg_first leg legs v w [] = refl
  leg_first leg legs v w (front ∷ fronts) =
      let more = λ (f : List Hop). longer (reading shapes tables graph w) leg v f in
      let over = λ (f : List Hop). legs_cost cost shapes tables graph legs (last_vertex v f) in
      let a = sum_by-cons (front_cost cost shapes graph leg v) front fronts in
      let b = sum_by-append over (more (hops_in front)) (flat_map more (all_hops fronts)) in
      let d = sum_by-cons (λ (f : List Hop). legs_cost cost shapes tables graph (leg ∷ legs) (last_vertex v f)) (hops_in front) (all_hops fronts) in
      let e = one_longer legs v (hops_in front) (hops_of shapes graph tables leg (last_vertex v (hops_in front))) in
      let rest = leg_first leg legs v w fronts in
      omega arith

  -- hops of none alone
  pub first_front : (legs : List Leg) (v : ElemId) → fronts_cost cost shapes tables graph legs v ([] ∷ []) ≡ legs_cost cost shapes tables graph legs v
  first_front legs v = omega arith
