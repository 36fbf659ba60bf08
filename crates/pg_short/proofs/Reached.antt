-- The states that a walk from the start comes to. Those behind the last stage are the walks that complete the first state.
use Rattle.std.proofs.Common.{◌≡◌, ◌≤◌, ◌<◌, ℕ, ◌+◌, ◌-◌, ◌*◌, zero, suc, Bool, true, false, cond, List, [], ◌∷◌, ◌++◌, length, Contains, inl, inr, refl, arith, ap, sym, ◌∙◌, subst, length-append, mul-le-mul_right}
use Rattle.std.specs.Prelude.{Option, Some, None, slice_get, flat_map, nat_lt}
use Rattle.std.proofs.lemmas.Bool.{ltb-true, ltb-false}
use Rattle.pg_keyed.specs.Lists.{Each}
use Rattle.pg_value.specs.declared.shape.ElemId.{ElemId}
use Rattle.pg_value.specs.declared.shape.Shapes.{Shapes}
use Rattle.pg_value.specs.declared.shape.GraphShape.{GraphShape}
use Rattle.pg_ast.specs.declared.pattern.Arrow.{Arrow}
use Rattle.pg_meaning.specs.declared.checked.CPart.{CPart}
use Rattle.pg_meaning.specs.declared.checked.CFiller.{CFiller}
use Rattle.pg_meaning.specs.declared.checked.CheckedPath.{CheckedPath}
use Rattle.pg_meaning.specs.declared.checked.CPart.TheVariants.{Node, Edge, Group}
use Rattle.pg_meaning.specs.Walks.{Hop, last_vertex}
use Rattle.pg_meaning.specs.Rounds.{Leg, legs_of}
use Rattle.pg_meaning.specs.Fits.{Agree, join}
use Rattle.pg_meaning.specs.Members.{in_nil, in_cons, in_one, from_map, in_filter, from_flat_map}
use Rattle.pg_meaning.specs.Outlines.{is_walk}
use Rattle.pg_meaning.specs.Sound.Patterns.{IsSoundPath, IsSoundPart}
use Rattle.pg_auto.specs.Stages.{Stage, stage_of, stages_of}
use Rattle.pg_auto.specs.Counts.{cap, may_enter, next_of}
use Rattle.pg_auto.specs.States.{Task, State, Walked, Completes, first_state, walked, stages_from}
use Rattle.pg_auto.specs.Tests.{TestsTell}
use Rattle.pg_auto.specs.Successors.{longer, along, hops_over, rounds_from, is_round}
use Rattle.pg_auto.specs.Steps.{IsSoundTask, StepsOn, StepsEnd}
use Rattle.pg_auto.specs.Ranks.{span}
use Rattle.std.proofs.lemmas.Option.{slice_get_within, get_or_from_slice_get}
use Rattle.pg_short.proofs.Lists.{drop_here, within, none_some}
use Rattle.pg_short.specs.Searches.{Follows, IsReached}
use Rattle.pg_short.specs.Searches.IsReached.{first, next}
use Rattle.pg_short.proofs.Follows.{in_cond, from_successors, to_successors, agrees_on}
use Rattle.pg_short.specs.Searches.Follows.{enters, leaves}

-- WHAT HOLDS OF THEM

in_stages : (stages : List Stage) (k : ℕ) (stage : Stage) → slice_get stages k ≡ Some stage → Contains stages stage
in_stages stages k stage h = (k, slice_get_within stages k stage h, get_or_from_slice_get stages k stage stage h)

pub record Stands (t : Task) (s : State) : Type 0 where
  pub within : s.stage ≤ length t.stages
  -- behind the last stage nothing is counted
  pub ended : slice_get t.stages s.stage ≡ None → s.done ≡ 0
  pub at : s.at ≡ last_vertex t.start s.hops
  pub agree : Agree s.singles

last_append : (v : ElemId) (xs ys : List Hop) → last_vertex v (xs ++ ys) ≡ last_vertex (last_vertex v xs) ys
last_append v [] ys = refl
last_append v (x ∷ xs) ys = last_append x.to xs ys

module _ (tells : TestsTell) (t : Task) (walk : is_walk t.mode ≡ true) where
  stands_next : (s c : State) → Stands t s → Follows t s c → Stands t c
  stands_next s c h (enters stage here may hops round on) = record {
    within = h.within;
    ended = λ e. absurd (none_some (slice_get t.stages s.stage) stage e here);
    at = ap (λ v. last_vertex v hops) h.at ∙ sym (last_append t.start s.hops hops);
    agree = agrees_on tells t walk s stage hops on;
  }
  stands_next s c h (leaves stage here may) = record {
    within = let l = within t.stages s.stage stage here in omega arith;
    ended = λ e. refl;
    at = h.at;
    agree = h.agree;
  }

  pub stands : (s : State) → IsReached t s → Stands t s
  stands s first = record { within = omega arith; ended = λ e. refl; at = refl; agree = λ m n c d e. absurd (in_nil m c) }
  stands s (next r h c f) = stands_next r c (stands r h) f

-- what completes a state completes the first one
pub leads : StepsOn → (t : Task) → IsSoundTask t → (s : State) (w : Walked) → IsReached t s → Completes t s w → Completes t (first_state t.start) w
leads on t sound s w first k = k
leads on t sound s w (next r h c f) k =
    let o = to_successors t r c f in
    leads on t sound r w h ((on t sound r o.stage o.here w).1 (record { next = c; follows = o.among; completes = k }))

-- A PART WITHOUT AN UPPER NUMBER HAS AN EDGE

abbrev pub HasLegs : Stage → Type 0
HasLegs stage = stage.high ≡ None → 0 < length stage.round.legs

as_many : (arrows : List Arrow) (edges nodes : List CFiller) → length arrows ≡ length edges → length nodes ≡ length edges → length (legs_of arrows edges nodes) ≡ length edges
as_many [] [] nodes a n = refl
as_many [] (e ∷ edges) nodes a n = absurd (omega arith)
as_many (x ∷ arrows) [] nodes a n = absurd (omega arith)
as_many (x ∷ arrows) (e ∷ edges) [] a n = absurd (omega arith)
as_many (x ∷ arrows) (e ∷ edges) (m ∷ nodes) a n = ap suc (as_many arrows edges nodes (omega arith) (omega arith))

of_part : (shapes : Shapes) (g : GraphShape) (part : CPart) → IsSoundPart shapes g part → HasLegs (stage_of part)
of_part shapes g (Node f) h = λ e. absurd (cc)
of_part shapes g (Edge arrow f quant) h = λ e. omega arith
of_part shapes g (Group [] arrows edges condition quant) h = λ e. absurd (let l = h.2 in omega arith)
of_part shapes g (Group (n ∷ nodes) arrows edges condition quant) h = λ e.
    let l = h.2 in
    let a = h.3 in
    let k = as_many arrows edges nodes a (omega arith) in
    let m = h.4 in
    omega arith

in_each : {X : Type 0} (P : X → Type 0) (xs : List X) (x : X) → Each P xs → Contains xs x → P x
in_each P [] x h c = absurd (in_nil x c)
in_each P (y ∷ ys) x h c = elim (in_cons y ys x c) [ inl e ↦ subst P e h.0 | inr r ↦ in_each P ys x h.1 r ]

pub have_legs : (shapes : Shapes) (path : CheckedPath) → IsSoundPath shapes path → (stage : Stage) → Contains (stages_of path) stage → HasLegs stage
have_legs shapes path sound stage c =
    let m = from_map stage_of path.parts stage c in
    subst HasLegs m.2 (of_part shapes path.graph m.0 (in_each (IsSoundPart shapes path.graph) path.parts m.0 sound.parts m.1))

-- ROUNDS ARE AS LONG AS THEIR LEGS ARE MANY

long_along : (t : Task) (legs : List Leg) (v : ElemId) (found : List (List Hop)) (hops : List Hop) → Contains (along t legs v found) hops
    → (p : List Hop) × Contains found p × (length hops ≡ length p + length legs)
long_along t [] v found hops c = (hops, c, omega arith)
long_along t (leg ∷ legs) v found hops c =
    let h = long_along t legs v (flat_map (longer t leg v) found) hops c in
    let x = from_flat_map (longer t leg v) found h.0 h.1 in
    let y = from_map (λ (k : Hop). x.0 ++ k ∷ []) (hops_over t leg (last_vertex v x.0)) h.0 x.2 in
    let l = ap length y.2 in
    let m = length-append x.0 (y.0 ∷ []) in
    let n = h.2 in
    (x.0, x.1, omega arith)

pub long_round : (t : Task) (stage : Stage) (v : ElemId) (hops : List Hop) → Contains (rounds_from t stage v) hops → length hops ≡ length stage.round.legs
long_round t stage v hops c =
    let f = in_filter (is_round t stage v) _ hops c in
    let a = long_along t stage.round.legs v ([] ∷ []) hops (in_cond _ (along t stage.round.legs v ([] ∷ [])) hops f.0).1 in
    let e = ap length (in_one [] a.0 a.1) in
    let l = a.2 in
    omega arith

-- A WALK ENDS

abbrev left : List Stage → ℕ → ℕ
left [] done = 0
left (stage ∷ stages) done = 1 + (cap stage - done) + span stages

all_left : (stages : List Stage) → left stages 0 ≡ span stages
all_left [] = refl
all_left (stage ∷ stages) = omega arith

-- what is left of the pattern, and of so many hops
abbrev togo : Task → ℕ → State → ℕ
togo t most s = left (stages_from t s.stage) s.done + (most - length s.hops) * (span t.stages + 1)

uncounted : (stage : Stage) (done : ℕ) → HasLegs stage → may_enter stage done ≡ true → cap stage ≤ done → 0 < length stage.round.legs
uncounted stage done b m h = go stage.high b m h
  where
    go : (high : Option ℕ) → (high ≡ None → 0 < length stage.round.legs) → elim high as (λ _. Bool) [ None ↦ true | Some x ↦ nat_lt done x ] ≡ true
        → elim high as (λ _. ℕ) [ None ↦ stage.low | Some x ↦ x ] ≤ done → 0 < length stage.round.legs
    go None f p q = f refl
    go (Some x) f p q = absurd (let k = ltb-true done x p in omega arith)

module _ (t : Task) (legs : (stage : Stage) → Contains t.stages stage → HasLegs stage) (most : ℕ) where
  goes_down : (s c : State) → Follows t s c → length c.hops ≤ most → togo t most c < togo t most s
  goes_down s c (enters stage here may hops round on) l =
      subst (λ (ss : List Stage). left ss (next_of stage s.done) + (most - length (s.hops ++ hops)) * (span t.stages + 1) < left ss s.done + (most - length s.hops) * (span t.stages + 1))
      (sym (drop_here t.stages s.stage stage here)) (go (nat_lt s.done (cap stage)) refl)
    where
      go : (d : Bool) → nat_lt s.done (cap stage) ≡ d
          → 1 + (cap stage - cond d (s.done + 1) s.done) + span (stages_from t (s.stage + 1)) + (most - length (s.hops ++ hops)) * (span t.stages + 1)
          < 1 + (cap stage - s.done) + span (stages_from t (s.stage + 1)) + (most - length s.hops) * (span t.stages + 1)
      go true h =
          let k = ltb-true s.done (cap stage) h in
          let len = length-append s.hops hops in
          let fewer : most - length (s.hops ++ hops) ≤ most - length s.hops = omega arith in
          let m = mul-le-mul_right (span t.stages + 1) fewer in
          omega arith
      go false h =
          let k = ltb-false s.done (cap stage) h in
          let x = uncounted stage s.done (legs stage (in_stages t.stages s.stage stage here)) may k in
          let len = length-append s.hops hops in
          let long = long_round t stage s.at hops round in
          let fewer : most - length (s.hops ++ hops) + 1 ≤ most - length s.hops = omega arith in
          let m = mul-le-mul_right (span t.stages + 1) fewer in
          omega arith
  goes_down s c (leaves stage here may) l =
      subst (λ (ss : List Stage). left (stages_from t (s.stage + 1)) 0 + (most - length s.hops) * (span t.stages + 1) < left ss s.done + (most - length s.hops) * (span t.stages + 1))
      (sym (drop_here t.stages s.stage stage here)) (let k = all_left (stages_from t (s.stage + 1)) in omega arith)

-- a state behind the last stage that a walk comes to
pub record IsEnded (t : Task) (w : Walked) : Type 0 where
  pub state : State
  pub reached : IsReached t state
  pub is_end : slice_get t.stages state.stage ≡ None
  pub walk : w ≡ walked state

module _ (on : StepsOn) (end : StepsEnd) (t : Task) (sound : IsSoundTask t) (legs : (stage : Stage) → Contains t.stages stage → HasLegs stage) where
  as_long : (s : State) (w : Walked) → Completes t s w → length s.hops ≤ length w.hops
  as_long s w c = let a = ap length c.hops in let l = length-append s.hops (flat_map join c.cuts) in omega arith

  one_step : (s : State) (w : Walked) → IsReached t s → Completes t s w → (o : Option Stage) → slice_get t.stages s.stage ≡ o
      → ((c : State) → togo t (length w.hops) c < togo t (length w.hops) s → IsReached t c → Completes t c w → IsEnded t w) → IsEnded t w
  one_step s w r c None e again = record { state = s; reached = r; is_end = e; walk = ((end t s e w).0 c).1 }
  one_step s w r c (Some stage) e again =
      let step = (on t sound s stage e w).0 c in
      let f = from_successors t s stage step.next e step.follows in
      again step.next (goes_down t legs (length w.hops) s step.next f (as_long step.next w step.completes)) (next s r step.next f) step.completes

  all_end : (n : ℕ) (s : State) (w : Walked) → togo t (length w.hops) s ≤ n → IsReached t s → Completes t s w → IsEnded t w
  all_end zero s w l r c = one_step s w r c (slice_get t.stages s.stage) refl (λ x m q k. absurd (omega arith))
  all_end (suc n) s w l r c = one_step s w r c (slice_get t.stages s.stage) refl (λ x m q k. all_end n x w (omega arith) q k)

  -- a walk that completes the first state is that of a state behind the last stage
  pub walk_ends : (w : Walked) → Completes t (first_state t.start) w → IsEnded t w
  walk_ends w c = all_end (togo t (length w.hops) (first_state t.start)) (first_state t.start) w (omega arith) first c
