-- A search goes on: the step that is taken from what waits is visited, or passed over.
use Rattle.std.proofs.Common.{◌≡◌, ℕ, true, false, List, [], ◌∷◌, ◌++◌, length, map, Contains, ap, sym, ◌∙◌, subst}
use Rattle.std.specs.Prelude.{Some, slice_get}
use Rattle.std.proofs.lemmas.List.{length-map}
use Rattle.pg_meaning.specs.Outlines.{is_walk}
use Rattle.pg_auto.specs.States.{Task}
use Rattle.pg_auto.specs.Tests.{TestsTell}
use Rattle.pg_short.specs.Spots.{Spot, spot_of}
use Rattle.pg_short.specs.Steps.{Step, step_view, spot_view, next_steps}
use Rattle.pg_short.specs.Searches.{IsMore, IsSearch, visited}
use Rattle.pg_short.specs.Visits.{IsAdded}
use Rattle.pg_short.specs.declared.search.Search.{Search}
use Rattle.pg_short.specs.Found.{IsVisit, IsSearching, IsPopped, AreMade, steps_in}
use Rattle.pg_short.proofs.Lists.{one_get}
use Rattle.pg_short.proofs.Searching.{pass_step, visit_step, visited_grow, map_both, moves}
use Rattle.pg_short.proofs.Made.{made_more}

module _ (tells : TestsTell) (t : Task) (walk : is_walk t.mode ≡ true) (e : ℕ × ℕ) (s : Search) (step : Step) (here : slice_get (steps_in s) e.1 ≡ Some step) (p : IsPopped t e s) where
  pub go_pass : (keys : List Spot) (u : Search) → IsAdded (map spot_view s.spots.keys) step.spot keys false → keys ≡ map spot_view u.spots.keys → steps_in s ≡ steps_in u → s.order.items ≡ u.order.items → s.waiting ≡ u.waiting
      → IsSearching t u
  go_pass keys u added k f o w =
      let known = subst (λ (xs : List Spot). Contains xs step.spot) p.spots added.1 in
      record {
        search = subst (IsSearch t (steps_in u) u.order.items) w (subst (λ (xs : List ℕ). IsSearch t (steps_in u) xs s.waiting) o (subst (λ (xs : List Step). IsSearch t xs s.order.items s.waiting) f
            (pass_step tells t walk (steps_in s) s.order.items p.waited s.waiting e step here p.out known p.search)));
        spots = sym k ∙ added.0 ∙ p.spots ∙ (λ i. map (spot_of t.stages) (visited t (f i) (o i)));
        made = subst (λ (xs : List ℕ). AreMade t (steps_in u) xs) o (subst (λ (xs : List Step). AreMade t xs s.order.items) f p.made);
      }

  pub go_visit : (r u : Search) → IsAdded (map spot_view s.spots.keys) step.spot (map spot_view r.spots.keys) true → steps_in s ≡ steps_in r → s.order.items ≡ r.order.items → s.waiting ≡ r.waiting
      → IsVisit t.shapes t.tables t.graph t.stages e.1 r u → IsSearching t u
  go_visit r u added f o w d =
      let same = one_get (slice_get (steps_in r) e.1) d.step step d.here (ap (λ (xs : List Step). slice_get xs e.1) (sym f) ∙ here) in
      let new = next_steps t.shapes t.tables t.graph t.stages e.1 step in
      let pushed : IsMore (length (steps_in s)) new s.waiting u.waiting =
      subst (λ (q : List (ℕ × ℕ)). IsMore (length (steps_in s)) new q u.waiting) (sym w)
      (subst (λ (n : ℕ). IsMore n new r.waiting u.waiting) (sym (length-map r.found.items step_view) ∙ ap length (sym f))
      (subst (λ (x : Step). IsMore (length r.found.items) (next_steps t.shapes t.tables t.graph t.stages e.1 x) r.waiting u.waiting) same d.waiting)) in
      let fresh : Contains (map (spot_of t.stages) (visited t (steps_in s) s.order.items)) step.spot → ⊥ = λ c. added.1 (subst (λ (xs : List Spot). Contains xs step.spot) (sym p.spots) c) in
      let found : steps_in s ++ new ≡ steps_in u = (λ i. f i ++ next_steps t.shapes t.tables t.graph t.stages e.1 (sym same i)) ∙ sym d.found in
      let order : s.order.items ++ e.1 ∷ [] ≡ u.order.items = ap (λ (xs : List ℕ). xs ++ e.1 ∷ []) o ∙ sym d.order in
      let grow = visited_grow tells t walk (steps_in s) s.order.items p.waited s.waiting e step here p.out p.low p.search u.waiting pushed in
      record {
        search = subst (λ (xs : List ℕ). IsSearch t (steps_in u) xs u.waiting) order (subst (λ (xs : List Step). IsSearch t xs (s.order.items ++ e.1 ∷ []) u.waiting) found
            (visit_step tells t walk (steps_in s) s.order.items p.waited s.waiting e step here p.out p.low p.search u.waiting pushed fresh));
        spots = ap (map spot_view) d.spots ∙ added.0 ∙ (λ i. p.spots i ++ (p.search.stands e.1 step here).spot i ∷ [])
            ∙ sym (map_both (spot_of t.stages) (visited t (steps_in s) s.order.items) _)
            ∙ ap (map (spot_of t.stages)) (sym grow) ∙ (λ i. map (spot_of t.stages) (visited t (found i) (order i)));
        made = subst (λ (xs : List ℕ). AreMade t (steps_in u) xs) order (subst (λ (xs : List Step). AreMade t xs (s.order.items ++ e.1 ∷ [])) found
            (made_more t (steps_in s) s.order.items e.1 step here
            (λ next c. (moves tells t walk (steps_in s) s.order.items p.waited s.waiting e step here p.out p.low p.search u.waiting pushed next c).before) p.search.ordered p.made));
      }
