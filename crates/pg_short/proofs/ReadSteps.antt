-- What the steps from a spot cost, and what has been read of the spots that a search has visited.
use Rattle.std.proofs.Common.{◌≡◌, ◌≤◌, ◌+◌, ℕ, Bool, true, false, cond, List, [], ◌∷◌, ◌++◌, map, Contains, inl, inr, refl, arith, ap, sym, ◌∙◌, subst}
use Rattle.std.specs.Prelude.{Some, None, Option, slice_get, OnErr, OnOk}
use Rattle.std.specs.declared.result.Result.{Result}
use Rattle.std.specs.declared.result.Result.TheVariants.{Ok, Err}
use Rattle.std.proofs.lemmas.List.Sums.{sum_by_push}
use Rattle.pg_value.specs.declared.value.Dir.{Dir}
use Rattle.pg_value.specs.declared.row.Key.{Key}
use Rattle.pg_value.specs.declared.shape.EdgeNo.{EdgeNo}
use Rattle.pg_value.specs.declared.shape.Shapes.{Shapes}
use Rattle.pg_value.specs.declared.shape.GraphShape.{GraphShape}
use Rattle.pg_value.specs.Tables.{Tables}
use Rattle.pg_meaning.specs.Bindings.{Distinct}
use Rattle.pg_meaning.specs.Members.{in_nil, in_cons, in_one, in_append, in_map, from_map, distinct_append}
use Rattle.pg_auto.specs.Stages.{Stage}
use Rattle.pg_auto.specs.States.{Task, State}
use Rattle.pg_short.specs.Spots.{Spot, spot_of}
use Rattle.pg_short.specs.Steps.{Step, spot_view}
use Rattle.pg_short.specs.Searches.{IsSearch, state_at, visited}
use Rattle.pg_short.specs.Visits.{IsAdded}
use Rattle.pg_short.specs.declared.search.Search.{Search}
use Rattle.pg_short.specs.Found.{IsSearching, IsPopped, steps_in, AreVisited}
use Rattle.pg_short.specs.Costs.{IsRead, IsReachedSpot, stage_cost, spot_cost, spots_cost}

pub if_true : (b : Bool) (n : ℕ) → b ≡ true → cond b n 0 ≡ n
if_true true n h = refl
if_true false n h = absurd (cc)

pub on_err : {A E : Type 0} (r : Result A E) (P : Type 0) → P → OnErr r P
on_err (Ok x) P h = tt
on_err (Err e) P h = h

pub spot_some : (cost : EdgeNo → Dir → Key → ℕ) (shapes : Shapes) (tables : Tables) (graph : GraphShape) (stages : List Stage) (s : Spot) (stage : Stage) → slice_get stages s.stage ≡ Some stage
    → spot_cost cost shapes tables graph stages s ≡ stage_cost cost shapes tables graph stage s.done s.at
spot_some cost shapes tables graph stages s stage h = ap (λ (o : Option Stage). elim o as (λ _. ℕ) [ None ↦ 0 | Some x ↦ stage_cost cost shapes tables graph x s.done s.at ]) h

-- the spots that are visited, none of them twice
record AreSpots (t : Task) (spots : List Spot) : Type 0 where
  apart : Distinct spots
  reached : (s : Spot) → Contains spots s → IsReachedSpot t s

spots_of : (t : Task) (found : List Step) (order : List ℕ) (queue : List (ℕ × ℕ)) (spots : List Spot) → IsSearch t found order queue → spots ≡ map (spot_of t.stages) (visited t found order) → AreSpots t spots
spots_of t found order queue spots v e = record {
  apart = subst (λ (xs : List Spot). Distinct xs) (sym e) v.searches.apart;
  reached = λ s c. let m = from_map (spot_of t.stages) (visited t found order) s (subst (λ (xs : List Spot). Contains xs s) e c) in record { state = m.0; reached = v.searches.reached m.0 m.1; spot = m.2 };
}

module _ (cost : EdgeNo → Dir → Key → ℕ) (t : Task) where
  pub searching_read : (s : Search) → IsSearching t s → (others : List Spot) (before now : ℕ) → now + spots_cost cost t others ≤ before + spots_cost cost t (map spot_view s.spots.keys) → IsRead cost t others before now
  searching_read s v others before now l =
      let a = spots_of t (steps_in s) s.order.items s.waiting (map spot_view s.spots.keys) v.search v.spots in
      record { spots = map spot_view s.spots.keys; apart = a.apart; reached = a.reached; within = l }

  -- nothing is read
  pub none_read : (e : ℕ × ℕ) (s : Search) → IsPopped t e s → (n : ℕ) → IsRead cost t (map spot_view s.spots.keys) n n
  none_read e s p n =
      let a = spots_of t (steps_in s) s.order.items p.waited (map spot_view s.spots.keys) p.search p.spots in
      record { spots = map spot_view s.spots.keys; apart = a.apart; reached = a.reached; within = omega arith }

  pub begun_read : (n : ℕ) → IsRead cost t [] n n
  begun_read n = record { spots = []; apart = tt; reached = λ s c. absurd (in_nil s c); within = omega arith }

  -- the steps from one spot more
  pub one_read : (e : ℕ × ℕ) (s : Search) → IsPopped t e s → (step : Step) → slice_get (steps_in s) e.1 ≡ Some step → (Contains (map spot_view s.spots.keys) step.spot → ⊥)
      → (before now : ℕ) → now ≤ before + spot_cost cost t.shapes t.tables t.graph t.stages step.spot → IsRead cost t (map spot_view s.spots.keys) before now
  one_read e s p step here fresh before now l =
      let old = map spot_view s.spots.keys in
      let a = spots_of t (steps_in s) s.order.items p.waited old p.search p.spots in
      record {
        spots = old ++ step.spot ∷ [];
        apart = distinct_append old (step.spot ∷ []) a.apart ((λ c. in_nil step.spot c), tt) (λ x c d. fresh (subst (λ (z : Spot). Contains old z) (sym (in_one step.spot x d)) c));
        reached = λ x c. elim (in_append old (step.spot ∷ []) x c) [
          | inl m ↦ a.reached x m
          | inr m ↦ record {
            state = state_at t (steps_in s) e.1;
            reached = p.search.searches.waits (state_at t (steps_in s) e.1) (in_map (λ (y : ℕ × ℕ). state_at t (steps_in s) y.1) p.waited e p.out.own);
            spot = sym (p.search.stands e.1 step here).spot ∙ in_one step.spot x m;
          }
        ];
        within = let b = sum_by_push (spot_cost cost t.shapes t.tables t.graph t.stages) old step.spot in omega arith;
      }

  -- what is read is added to what was read
  pub read_on : (others own : List Spot) (before between now : ℕ) → between + spots_cost cost t others ≤ before + spots_cost cost t own → IsRead cost t own between now → IsRead cost t others before now
  read_on others own before between now l r = record { spots = r.spots; apart = r.apart; reached = r.reached; within = let k = r.within in omega arith }

  pub one_more_read : (old new : List Spot) (spot : Spot) (before now : ℕ) → new ≡ old ++ spot ∷ [] → now ≤ before + spot_cost cost t.shapes t.tables t.graph t.stages spot → now + spots_cost cost t old ≤ before + spots_cost cost t new
  one_more_read old new spot before now e l =
      let a = sum_by_push (spot_cost cost t.shapes t.tables t.graph t.stages) old spot in
      let b = ap (spots_cost cost t) e in
      omega arith
