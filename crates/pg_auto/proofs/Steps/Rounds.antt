-- The rounds from a vertex are exactly those that fit.
use Rattle.std.proofs.Common.{◌≡◌, Bool, true, false, cond, List, [], ◌∷◌, ◌++◌, Contains, inl, inr, refl, ap, sym, ◌∙◌, subst, append_assoc, append-nil}
use Rattle.std.specs.Prelude.{flat_map}
use Rattle.pg_value.specs.declared.shape.ElemId.{ElemId}
use Rattle.pg_meaning.specs.Walks.{Hop, last_vertex}
use Rattle.pg_meaning.specs.Rounds.{Leg}
use Rattle.pg_meaning.specs.Fits.{LegsFit, RoundFits, scope_of, firsts, seen_in}
use Rattle.pg_meaning.specs.Members.{in_nil, in_here, in_cons, in_map, from_map, in_filter, from_flat_map}
use Rattle.pg_meaning.specs.Reads.{HopsAreNeighbours}
use Rattle.pg_auto.specs.Stages.{Stage}
use Rattle.pg_auto.specs.States.{Task, graph_in}
use Rattle.pg_auto.specs.Tests.{node_admits}
use Rattle.pg_auto.specs.Successors.{hops_over, longer, along, is_round, rounds_from}
use Rattle.pg_auto.specs.Steps.{IsSoundTask}
use Rattle.pg_auto.proofs.Members.{kept, in_flat}
use Rattle.pg_auto.proofs.Steps.Fronts.{last_append}
use Rattle.pg_auto.proofs.Steps.Tests.{both_true, and_true, agrees_test, agrees_means, meets_test, meets_means, node_test, node_means}
use Rattle.pg_auto.proofs.Steps.Hops.{in_hops, from_hops}

-- hops that have come so far, and hops that fit the legs from there
record IsAlong (t : Task) (legs : List Leg) (v : ElemId) (found : List (List Hop)) (hops : List Hop) : Type 0 where
  front : List Hop
  rest : List Hop
  begun : Contains found front
  whole : hops ≡ front ++ rest
  fits : LegsFit (graph_in t) legs (last_vertex v front) rest

module _ (near : HopsAreNeighbours) (t : Task) (sound : IsSoundTask t) where
  in_along : (legs : List Leg) (v : ElemId) (found : List (List Hop)) (p rest : List Hop) → Contains found p → LegsFit (graph_in t) legs (last_vertex v p) rest → Contains (along t legs v found) (p ++ rest)
  in_along [] v found p [] c f = subst (λ xs. Contains found xs) (sym (append-nil p)) c
  in_along [] v found p (hop ∷ hops) c f = absurd f
  in_along (leg ∷ legs) v found p [] c f = absurd f
  in_along (leg ∷ legs) v found p (hop ∷ hops) c f =
      subst (λ xs. Contains (along t (leg ∷ legs) v found) xs) (append_assoc p (hop ∷ []) hops)
      (in_along legs v (flat_map (longer t leg v) found) (p ++ hop ∷ []) hops
      (in_flat (longer t leg v) found p (p ++ hop ∷ []) c (in_map (λ (h : Hop). p ++ h ∷ []) (hops_over t leg (last_vertex v p)) hop (in_hops near t sound leg (last_vertex v p) hop f.0 f.1 f.2)))
      (subst (λ u. LegsFit (graph_in t) legs u hops) (sym (last_append v p (hop ∷ []))) f.3))

  from_along : (legs : List Leg) (v : ElemId) (found : List (List Hop)) (hops : List Hop) → Contains (along t legs v found) hops → IsAlong t legs v found hops
  from_along [] v found hops c = record { front = hops; rest = []; begun = c; whole = sym (append-nil hops); fits = tt }
  from_along (leg ∷ legs) v found hops c =
      let h = from_along legs v (flat_map (longer t leg v) found) hops c in
      let x = from_flat_map (longer t leg v) found h.front h.begun in
      let y = from_map (λ (k : Hop). x.0 ++ k ∷ []) (hops_over t leg (last_vertex v x.0)) h.front x.2 in
      let l = from_hops near t sound leg (last_vertex v x.0) y.0 y.1 in record {
        front = x.0;
        rest = y.0 ∷ h.rest;
        begun = x.1;
        whole = h.whole ∙ ap (λ q. q ++ h.rest) (sym y.2) ∙ append_assoc x.0 (y.0 ∷ []) h.rest;
        fits = (l.0, l.1, l.2, subst (λ u. LegsFit (graph_in t) legs u h.rest) (last_append v x.0 (y.0 ∷ [])) (subst (λ q. LegsFit (graph_in t) legs (last_vertex v q) h.rest) (sym y.2) h.fits));
      }

  pub in_rounds : (stage : Stage) (v : ElemId) (hops : List Hop) → RoundFits (graph_in t) stage.round v hops → Contains (rounds_from t stage v) hops
  in_rounds stage v hops f =
      kept (is_round t stage v) _ hops
      (subst (λ b. Contains (cond b (along t stage.round.legs v ([] ∷ [])) []) hops) (sym (node_test (graph_in t) stage.round.node v f.0)) (in_along stage.round.legs v ([] ∷ []) [] hops (in_here [] [] [] refl) f.1))
      (both_true _ _ (agrees_test (seen_in stage.round v hops) f.2) (meets_test stage.round.cond (scope_of (graph_in t) (firsts (seen_in stage.round v hops))) f.3))

  from_begun : (stage : Stage) (v : ElemId) (hops : List Hop) → Contains (along t stage.round.legs v ([] ∷ [])) hops → LegsFit (graph_in t) stage.round.legs v hops
  from_begun stage v hops c =
      let h = from_along stage.round.legs v ([] ∷ []) hops c in
      elim (in_cons [] [] h.front h.begun) [
        | inr r ↦ absurd (in_nil h.front r)
        | inl same ↦ subst (λ xs. LegsFit (graph_in t) stage.round.legs v xs) (sym (h.whole ∙ ap (λ q. q ++ h.rest) (sym same)))
            (subst (λ q. LegsFit (graph_in t) stage.round.legs (last_vertex v q) h.rest) (sym same) h.fits)
      ]

  pub from_rounds : (stage : Stage) (v : ElemId) (hops : List Hop) → Contains (rounds_from t stage v) hops → RoundFits (graph_in t) stage.round v hops
  from_rounds stage v hops c = go (node_admits (graph_in t) stage.round.node v) refl f.0
    where
      f : Contains (cond (node_admits (graph_in t) stage.round.node v) (along t stage.round.legs v ([] ∷ [])) []) hops × (is_round t stage v hops ≡ true)
      f = in_filter (is_round t stage v) (cond (node_admits (graph_in t) stage.round.node v) (along t stage.round.legs v ([] ∷ [])) []) hops c

      go : (b : Bool) → node_admits (graph_in t) stage.round.node v ≡ b → Contains (cond b (along t stage.round.legs v ([] ∷ [])) []) hops → RoundFits (graph_in t) stage.round v hops
      go false e d = absurd (in_nil hops d)
      go true e d =
          let k = and_true _ _ f.1 in (
            node_means (graph_in t) stage.round.node v e,
            from_begun stage v hops d,
            agrees_means (seen_in stage.round v hops) k.0,
            meets_means stage.round.cond (scope_of (graph_in t) (firsts (seen_in stage.round v hops))) k.1,
          )
