-- A search that has found the start alone keeps what a search keeps.
use Rattle.std.proofs.Common.{◌≡◌, ℕ, zero, suc, List, [], ◌∷◌, map, Contains, inl, inr, refl, arith, ap, sym, ◌∙◌, subst}
use Rattle.std.specs.Prelude.{Some, slice_get}
use Rattle.pg_meaning.specs.Members.{in_nil, in_map, from_map}
use Rattle.pg_auto.specs.States.{Task, first_state}
use Rattle.pg_short.specs.Spots.{spot_of}
use Rattle.pg_short.specs.Steps.{Step, spot_view}
use Rattle.pg_short.specs.Searches.{IsReached, IsOut, IsQueued, IsSearch, StandsFor, first_step, state_at, visited}
use Rattle.pg_short.specs.Searches.IsReached.{first}
use Rattle.pg_short.specs.declared.search.Search.{Search}
use Rattle.pg_short.specs.Found.{IsBegun, IsSearching, AreMade, steps_in}
use Rattle.pg_short.proofs.Made.{made_first}

module _ (t : Task) (queue : List (ℕ × ℕ)) (out : IsOut (0, 0) queue []) where
  abbrev found : List Step
  found = first_step t.start ∷ []

  one : (e : ℕ × ℕ) → Contains queue e → (0, 0) ≡ e
  one e c = elim (out.stays e c) [ inl a ↦ a | inr b ↦ absurd (in_nil e b) ]

  stands : (k : ℕ) (step : Step) → slice_get found k ≡ Some step → StandsFor t (state_at t found k) step
  stands zero step h = let same : first_step t.start ≡ step = cc in subst (λ x. StandsFor t (first_state t.start) x) same (record { spot = refl; long = refl })
  stands (suc k) step h = absurd (cc)

  pub begins_search : IsSearch t found [] queue
  begins_search = record {
    searches = record {
      reached = λ s c. absurd (in_nil s c);
      waits = λ s c. let m = from_map (λ (x : ℕ × ℕ). state_at t found x.1) queue s c in
          subst (IsReached t) (ap (λ (x : ℕ × ℕ). state_at t found x.1) (one m.0 m.1) ∙ m.2) first;
      begun = inr (record { by = first_state t.start; there = in_map (λ (x : ℕ × ℕ). state_at t found x.1) queue (0, 0) out.own; same = refl; short = omega arith });
      closed = λ s c m f. absurd (in_nil s m);
      least = λ s r m h e. absurd (in_nil s m);
      apart = tt;
    };
    stands = stands;
    ordered = λ k c. absurd (in_nil k c);
    queued = λ e c. subst (IsQueued found) (one e c) (record { step = first_step t.start; there = refl; long = refl });
  }

pub begun_searching : (t : Task) (s : Search) → IsBegun t.start s → IsSearching t s
begun_searching t s b = record {
  search = subst (λ (xs : List ℕ). IsSearch t (steps_in s) xs s.waiting) (sym b.order)
      (subst (λ (xs : List Step). IsSearch t xs [] s.waiting) (sym b.found) (begins_search t s.waiting b.waiting));
  spots = ap (map spot_view) b.spots ∙ (λ i. map (spot_of t.stages) (visited t (steps_in s) (sym b.order i)));
  made = subst (λ (xs : List ℕ). AreMade t (steps_in s) xs) (sym b.order) (subst (λ (xs : List Step). AreMade t xs []) (sym b.found) (made_first t));
}
