-- A walk completes a state exactly where it completes one that follows it.
pub mod Tests
pub mod Fronts
pub mod Hops
pub mod Rounds
pub mod Follows
use Rattle.std.proofs.Common.{◌≡◌, ℕ, ◌+◌, zero, suc, Bool, true, false, cond, List, [], ◌∷◌, ◌++◌, drop, Contains, ◌⊎◌, inl, inr, refl, ap, sym, ◌∙◌, subst, append_assoc, append-nil, add-one}
use Rattle.std.specs.Prelude.{filter, flat_map, slice_get, Some, None}
use Rattle.pg_value.specs.declared.shape.ElemId.{ElemId}
use Rattle.pg_meaning.specs.Walks.{Hop, last_vertex}
use Rattle.pg_meaning.specs.Fits.{Mention, RoundFits, Agree, join}
use Rattle.pg_meaning.specs.Bindings.{Permits}
use Rattle.pg_meaning.specs.Members.{in_nil, in_here, in_cons, in_left, in_right, in_append, in_map, from_map, in_filter}
use Rattle.pg_meaning.specs.Reads.{HopsAreNeighbours}
use Rattle.pg_auto.specs.Stages.{Stage}
use Rattle.pg_auto.specs.Counts.{may_enter, may_leave, next_of, Rest}
use Rattle.pg_auto.specs.States.{Task, State, Walked, Completes, graph_in, singles_in, groups_in, over_rounds, over_stages, walked, stages_from}
use Rattle.pg_auto.specs.Successors.{rounds_from, enter, leave, goes_on, entered}
use Rattle.pg_auto.specs.Steps.{IsSoundTask, IsPermitted, IsStep, StepsOn, StepsEnd}
use Rattle.pg_auto.proofs.Members.{kept}
use Rattle.pg_auto.proofs.Steps.Fronts.{last_append, permits_front, agree_front}
use Rattle.pg_auto.proofs.Steps.Tests.{both_true, agrees_test, permits_test}
use Rattle.pg_auto.proofs.Steps.Rounds.{in_rounds, from_rounds}

-- WHERE A STATE STANDS

-- the stage at a place, and what is left from it on
pub stage_here : {X : Type 0} (xs : List X) (k : ℕ) (x : X) → slice_get xs k ≡ Some x → drop k xs ≡ x ∷ drop (k + 1) xs
stage_here [] k x h = absurd (cc)
stage_here (y ∷ ys) zero x h = let same : y ≡ x = cc in ap (λ z. z ∷ ys) same
stage_here (y ∷ ys) (suc k) x h = rw add-one (rw add-one at (stage_here ys k x h))

pub none_left : {X : Type 0} (xs : List X) (k : ℕ) → slice_get xs k ≡ None → drop k xs ≡ []
none_left [] zero h = refl
none_left [] (suc k) h = refl
none_left (y ∷ ys) zero h = absurd (cc)
none_left (y ∷ ys) (suc k) h = none_left ys k h

-- WHAT IS LEFT

-- as `Completes`, by the stages that are left
record From (t : Task) (stages : List Stage) (s : State) (w : Walked) : Type 0 where
  cuts : List (List (List Hop))
  left : Rest (graph_in t) stages s.done s.at cuts
  hops : w.hops ≡ s.hops ++ flat_map join cuts
  singles : w.singles ≡ s.singles ++ over_stages singles_in stages s.at cuts
  groups : w.groups ≡ s.groups ++ over_stages groups_in stages s.at cuts
  agree : Agree w.singles
  permitted : Permits t.mode t.start w.hops

from_of : (t : Task) (s : State) (w : Walked) (stages : List Stage) → stages_from t s.stage ≡ stages → Completes t s w → From t stages s w
from_of t s w stages e c = subst (λ (ss : List Stage). From t ss s w) e (record { cuts = c.cuts; left = c.left; hops = c.hops; singles = c.singles; groups = c.groups; agree = c.agree; permitted = c.permitted })

of_from : (t : Task) (s : State) (w : Walked) (stages : List Stage) → stages_from t s.stage ≡ stages → From t stages s w → Completes t s w
of_from t s w stages e f =
    let g : From t (stages_from t s.stage) s w = subst (λ (ss : List Stage). From t ss s w) (sym e) f in
    record { cuts = g.cuts; left = g.left; hops = g.hops; singles = g.singles; groups = g.groups; agree = g.agree; permitted = g.permitted }

-- one round more of the first stage, as part of what was and as part of what comes
module _ (stage : Stage) (stages : List Stage) (v : ElemId) (hops : List Hop) (rounds : List (List Hop)) (cuts : List (List (List Hop))) where
  named_more : (names : Stage → ElemId → List Hop → List Mention) (seen : List Mention)
      → seen ++ over_stages names (stage ∷ stages) v ((hops ∷ rounds) ∷ cuts) ≡ (seen ++ names stage v hops) ++ over_stages names (stage ∷ stages) (last_vertex v hops) (rounds ∷ cuts)
  named_more names seen =
      ap (λ ms. seen ++ ms) (append_assoc (names stage v hops) (over_rounds names stage (last_vertex v hops) rounds) (over_stages names stages (last_vertex v (hops ++ join rounds)) cuts)
      ∙ ap (λ u. names stage v hops ++ (over_rounds names stage (last_vertex v hops) rounds ++ over_stages names stages u cuts)) (last_append v hops (join rounds)))
      ∙ sym (append_assoc seen (names stage v hops) (over_stages names (stage ∷ stages) (last_vertex v hops) (rounds ∷ cuts)))

  hops_more : (before : List Hop) → before ++ flat_map join ((hops ∷ rounds) ∷ cuts) ≡ (before ++ hops) ++ flat_map join (rounds ∷ cuts)
  hops_more before = ap (λ xs. before ++ xs) (append_assoc hops (join rounds) (flat_map join cuts)) ∙ sym (append_assoc before hops (join rounds ++ flat_map join cuts))

leaves : (t : Task) (stage : Stage) (stages : List Stage) (s : State) (w : Walked) → may_leave stage s.done ≡ true → From t stages (leave s) w → From t (stage ∷ stages) s w
leaves t stage stages s w enough f = record { cuts = [] ∷ f.cuts; left = (enough, f.left); hops = f.hops; singles = f.singles; groups = f.groups; agree = f.agree; permitted = f.permitted }

enters : (t : Task) (stage : Stage) (stages : List Stage) (s : State) (w : Walked) (hops : List Hop) → may_enter stage s.done ≡ true → RoundFits (graph_in t) stage.round s.at hops
    → From t (stage ∷ stages) (enter s stage hops) w → From t (stage ∷ stages) s w
enters t stage stages s w hops may fits f = go f.cuts f.left f.hops f.singles f.groups
  where
    go : (cuts : List (List (List Hop))) → Rest (graph_in t) (stage ∷ stages) (next_of stage s.done) (last_vertex s.at hops) cuts
        → w.hops ≡ (s.hops ++ hops) ++ flat_map join cuts
        → w.singles ≡ (s.singles ++ singles_in stage s.at hops) ++ over_stages singles_in (stage ∷ stages) (last_vertex s.at hops) cuts
        → w.groups ≡ (s.groups ++ groups_in stage s.at hops) ++ over_stages groups_in (stage ∷ stages) (last_vertex s.at hops) cuts
        → From t (stage ∷ stages) s w
    go [] l h e g = absurd l
    go (rounds ∷ cuts) l h e g = record {
      cuts = (hops ∷ rounds) ∷ cuts;
      left = ((may, fits, l.0), subst (λ v. Rest (graph_in t) stages 0 v cuts) (sym (last_append s.at hops (join rounds))) l.1);
      hops = h ∙ sym (hops_more stage stages s.at hops rounds cuts s.hops);
      singles = e ∙ sym (named_more stage stages s.at hops rounds cuts singles_in s.singles);
      groups = g ∙ sym (named_more stage stages s.at hops rounds cuts groups_in s.groups);
      agree = f.agree;
      permitted = f.permitted;
    }

-- another round of the stage is made
record IsEntered (t : Task) (stage : Stage) (stages : List Stage) (s : State) (w : Walked) : Type 0 where
  hops : List Hop
  may : may_enter stage s.done ≡ true
  fits : RoundFits (graph_in t) stage.round s.at hops
  permitted : Permits t.mode t.start (s.hops ++ hops)
  agree : Agree (s.singles ++ singles_in stage s.at hops)
  rest : From t (stage ∷ stages) (enter s stage hops) w

-- the stage is left
record IsLeft (t : Task) (stage : Stage) (stages : List Stage) (s : State) (w : Walked) : Type 0 where
  may : may_leave stage s.done ≡ true
  rest : From t stages (leave s) w

splits : (t : Task) (stage : Stage) (stages : List Stage) (s : State) (w : Walked) → From t (stage ∷ stages) s w → IsLeft t stage stages s w ⊎ IsEntered t stage stages s w
splits t stage stages s w f = go f.cuts f.left f.hops f.singles f.groups
  where
    go : (cuts : List (List (List Hop))) → Rest (graph_in t) (stage ∷ stages) s.done s.at cuts → w.hops ≡ s.hops ++ flat_map join cuts
        → w.singles ≡ s.singles ++ over_stages singles_in (stage ∷ stages) s.at cuts → w.groups ≡ s.groups ++ over_stages groups_in (stage ∷ stages) s.at cuts
        → IsLeft t stage stages s w ⊎ IsEntered t stage stages s w
    go [] l h e g = absurd l
    go ([] ∷ cuts) l h e g = inl (record { may = l.0; rest = record { cuts = cuts; left = l.1; hops = h; singles = e; groups = g; agree = f.agree; permitted = f.permitted } })
    go ((hops ∷ rounds) ∷ cuts) l h e g =
        let whole = h ∙ hops_more stage stages s.at hops rounds cuts s.hops in
        let named = e ∙ named_more stage stages s.at hops rounds cuts singles_in s.singles in
        inr (record {
          hops = hops;
          may = l.0.0;
          fits = l.0.1;
          permitted = permits_front t.mode t.start (s.hops ++ hops) (flat_map join (rounds ∷ cuts)) (subst (λ xs. Permits t.mode t.start xs) whole f.permitted);
          agree = agree_front (s.singles ++ singles_in stage s.at hops) (over_stages singles_in (stage ∷ stages) (last_vertex s.at hops) (rounds ∷ cuts)) (subst Agree named f.agree);
          rest = record {
            cuts = rounds ∷ cuts;
            left = (l.0.2, subst (λ v. Rest (graph_in t) stages 0 v cuts) (last_append s.at hops (join rounds)) l.1);
            hops = whole;
            singles = named;
            groups = g ∙ named_more stage stages s.at hops rounds cuts groups_in s.groups;
            agree = f.agree;
            permitted = f.permitted;
          };
        })

-- STEPS

module _ (near : HopsAreNeighbours) (t : Task) (sound : IsSoundTask t) (s : State) (stage : Stage) (is_at : slice_get t.stages s.stage ≡ Some stage) (w : Walked) where
  here : stages_from t s.stage ≡ stage ∷ stages_from t (s.stage + 1)
  here = stage_here t.stages s.stage stage is_at

  unfolds : Completes t s w → IsStep t s stage w
  unfolds c = elim (splits t stage (stages_from t (s.stage + 1)) s w (from_of t s w (stage ∷ stages_from t (s.stage + 1)) here c)) [
    | inl x ↦ record {
      next = leave s;
      follows = in_right (cond (may_enter stage s.done) (entered t s stage) []) _ (leave s) (subst (λ b. Contains (cond b (leave s ∷ []) []) (leave s)) (sym x.may) (in_here (leave s) [] (leave s) refl));
      completes = of_from t (leave s) w (stages_from t (s.stage + 1)) refl x.rest;
    }
    | inr x ↦ record {
      next = enter s stage x.hops;
      follows = in_left _ (cond (may_leave stage s.done) (leave s ∷ []) []) (enter s stage x.hops) (subst (λ b. Contains (cond b (entered t s stage) []) (enter s stage x.hops)) (sym x.may)
          (in_map (enter s stage) (filter (goes_on t s stage) (rounds_from t stage s.at)) x.hops (kept (goes_on t s stage) (rounds_from t stage s.at) x.hops (in_rounds near t sound stage s.at x.hops x.fits)
          (both_true _ _ (permits_test t.mode t.start (s.hops ++ x.hops) x.permitted) (agrees_test (s.singles ++ singles_in stage s.at x.hops) x.agree)))));
      completes = of_from t (enter s stage x.hops) w (stage ∷ stages_from t (s.stage + 1)) here x.rest;
    }
  ]

  folds : IsStep t s stage w → Completes t s w
  folds x = elim (in_append (cond (may_enter stage s.done) (entered t s stage) []) (cond (may_leave stage s.done) (leave s ∷ []) []) x.next x.follows) [
    | inl a ↦ on_enter (may_enter stage s.done) refl a
    | inr b ↦ on_leave (may_leave stage s.done) refl b
  ]
    where
      on_leave : (b : Bool) → may_leave stage s.done ≡ b → Contains (cond b (leave s ∷ []) []) x.next → Completes t s w
      on_leave false h j = absurd (in_nil x.next j)
      on_leave true h j = elim (in_cons (leave s) [] x.next j) [
        | inr r ↦ absurd (in_nil x.next r)
        | inl same ↦ of_from t s w (stage ∷ stages_from t (s.stage + 1)) here
            (leaves t stage (stages_from t (s.stage + 1)) s w h (from_of t (leave s) w (stages_from t (s.stage + 1)) refl (subst (λ n. Completes t n w) (sym same) x.completes)))
      ]

      on_enter : (b : Bool) → may_enter stage s.done ≡ b → Contains (cond b (entered t s stage) []) x.next → Completes t s w
      on_enter false h j = absurd (in_nil x.next j)
      on_enter true h j =
          let m = from_map (enter s stage) (filter (goes_on t s stage) (rounds_from t stage s.at)) x.next j in
          let fits = from_rounds near t sound stage s.at m.0 (in_filter (goes_on t s stage) (rounds_from t stage s.at) m.0 m.1).0 in
          of_from t s w (stage ∷ stages_from t (s.stage + 1)) here
          (enters t stage (stages_from t (s.stage + 1)) s w m.0 h fits (from_of t (enter s stage m.0) w (stage ∷ stages_from t (s.stage + 1)) here (subst (λ n. Completes t n w) (sym m.2) x.completes)))

pub steps_on : HopsAreNeighbours → StepsOn
steps_on near t sound s stage is_at w = (unfolds near t sound s stage is_at w, folds near t sound s stage is_at w)

-- THE END

ended : (t : Task) (s : State) (w : Walked) → From t [] s w → IsPermitted t s × (w ≡ walked s)
ended t s w f = go f.cuts f.left f.hops f.singles f.groups
  where
    go : (cuts : List (List (List Hop))) → Rest (graph_in t) [] s.done s.at cuts → w.hops ≡ s.hops ++ flat_map join cuts → w.singles ≡ s.singles ++ [] → w.groups ≡ s.groups ++ [] → IsPermitted t s × (w ≡ walked s)
    go (rounds ∷ cuts) l h e g = absurd l
    go [] l h e g =
        let hops = h ∙ append-nil s.hops in
        let singles = e ∙ append-nil s.singles in
        let groups = g ∙ append-nil s.groups in (
          record { permitted = subst (λ xs. Permits t.mode t.start xs) hops f.permitted; agree = subst Agree singles f.agree },
          λ i. record { hops = hops i; singles = singles i; groups = groups i },
        )

own : (t : Task) (s : State) → IsPermitted t s → From t [] s (walked s)
own t s p = record {
  cuts = [];
  left = tt;
  hops = sym (append-nil s.hops);
  singles = sym (append-nil s.singles);
  groups = sym (append-nil s.groups);
  agree = p.agree;
  permitted = p.permitted;
}

pub steps_end : StepsEnd
steps_end t s is_end w = (
  λ c. ended t s w (from_of t s w [] (none_left t.stages s.stage is_end) c),
  λ x. of_from t s w [] (none_left t.stages s.stage is_end) (subst (λ (u : Walked). From t [] s u) (sym x.1) (own t s x.0)),
)
