-- Each state that follows another has a lower rank.
pub mod Sizes
pub mod Bounds
use Rattle.std.proofs.Common.{◌≡◌, ℕ, ◌+◌, ◌*◌, ◌-◌, ◌<◌, ◌≤◌, suc, List, [], ◌∷◌, ◌++◌, length, map, Contains, inl, inr, refl, arith, ap, sym, ◌∙◌, Bool, true, false, cond, subst, length-append, mul-le-mul_right}
use Rattle.std.specs.Prelude.{nat_lt, filter, sum_by, slice_get, Option, Some, None, IfNone}
use Rattle.std.proofs.lemmas.Bool.{ltb-true, ltb-false}
use Rattle.std.proofs.lemmas.List.{length-map}
use Rattle.std.proofs.lemmas.Option.{slice_get_within, get_or_from_slice_get}
use Rattle.pg_value.specs.declared.shape.ElemId.{ElemId}
use Rattle.pg_value.specs.Graph.{Edge}
use Rattle.pg_ast.specs.declared.pattern.Arrow.{Arrow}
use Rattle.pg_ast.specs.declared.pattern.Arrow.TheVariants.{Right, Left, Either}
use Rattle.pg_ast.specs.declared.pattern.Mode.{Mode}
use Rattle.pg_ast.specs.declared.pattern.Mode.TheVariants.{Walk, Trail, Acyclic, Simple}
use Rattle.pg_meaning.specs.Walks.{Graph, Hop, HasEdge, Leads, last_vertex, edges_of}
use Rattle.pg_meaning.specs.Rounds.{Leg}
use Rattle.pg_meaning.specs.Fits.{LegsFit, RoundFits}
use Rattle.pg_meaning.specs.Bindings.{Permits}
use Rattle.pg_meaning.specs.Members.{in_nil, in_cons, in_left, in_right, in_append, in_map, from_map, in_filter}
use Rattle.pg_meaning.specs.Outlines.{is_walk}
use Rattle.pg_meaning.specs.Reads.{HopsAreNeighbours}
use Rattle.pg_auto.specs.Stages.{Stage}
use Rattle.pg_auto.specs.Counts.{cap, next_of, may_enter, may_leave}
use Rattle.pg_auto.specs.States.{Task, State, graph_in, stages_from, singles_in}
use Rattle.pg_auto.specs.Successors.{rounds_from, enter, leave, goes_on, entered, successors, next_states}
use Rattle.pg_auto.specs.Steps.{IsSoundTask, IsPermitted}
use Rattle.pg_auto.specs.Ranks.{IsBounded, elements_in, reach, span, span_left, rank, weight, IsValid, IsLower, FirstIsValid, RanksFall, WeightsFall}
use Rattle.pg_auto.proofs.Stands.Counting.{next_few}
use Rattle.pg_auto.proofs.Steps.Fronts.{last_append}
use Rattle.pg_auto.proofs.Steps.Tests.{and_true, agrees_means, permits_means}
use Rattle.pg_auto.proofs.Steps.Rounds.{from_rounds}
use Rattle.pg_auto.proofs.Steps.{stage_here}
use Rattle.pg_auto.proofs.Ranks.Sizes.{no_more, smaller}

-- HOPS OF THE GRAPH

abbrev IsOf : Graph → Hop → Type 0
IsOf g hop = Contains (elements_in g) hop.edge × Contains (elements_in g) hop.to

abbrev AreOf : Graph → List Hop → Type 0
AreOf g hops = (hop : Hop) → Contains hops hop → IsOf g hop

edge_of : (g : Graph) (e : Edge) → Contains g.edges e → Contains (elements_in g) e.elem
edge_of g e c = in_left (map (λ x. x.elem) g.edges) _ e.elem (in_map (λ x. x.elem) g.edges e c)

source_of : (g : Graph) (e : Edge) → Contains g.edges e → Contains (elements_in g) e.source
source_of g e c = in_right (map (λ x. x.elem) g.edges) _ e.source (in_left (map (λ x. x.source) g.edges) (map (λ x. x.dest) g.edges) e.source (in_map (λ x. x.source) g.edges e c))

dest_of : (g : Graph) (e : Edge) → Contains g.edges e → Contains (elements_in g) e.dest
dest_of g e c = in_right (map (λ x. x.elem) g.edges) _ e.dest (in_right (map (λ x. x.source) g.edges) (map (λ x. x.dest) g.edges) e.dest (in_map (λ x. x.dest) g.edges e c))

forwards : (g : Graph) (v : ElemId) (hop : Hop) → HasEdge g hop.edge v hop.to → IsOf g hop
forwards g v hop c = let e : Edge = record { elem = hop.edge; source = v; dest = hop.to } in (edge_of g e c, dest_of g e c)

backwards : (g : Graph) (v : ElemId) (hop : Hop) → HasEdge g hop.edge hop.to v → IsOf g hop
backwards g v hop c = let e : Edge = record { elem = hop.edge; source = hop.to; dest = v } in (edge_of g e c, source_of g e c)

leads_of : (g : Graph) (arrow : Arrow) (v : ElemId) (hop : Hop) → Leads g arrow v hop → IsOf g hop
leads_of g Right v hop c = forwards g v hop c
leads_of g Left v hop c = backwards g v hop c
leads_of g Either v hop (inl c) = forwards g v hop c
leads_of g Either v hop (inr c) = backwards g v hop c

legs_of : (g : Graph) (legs : List Leg) (v : ElemId) (hops : List Hop) → LegsFit g legs v hops → AreOf g hops
legs_of g [] v [] f = λ hop c. absurd (in_nil hop c)
legs_of g [] v (h ∷ hops) f = absurd f
legs_of g (leg ∷ legs) v [] f = absurd f
legs_of g (leg ∷ legs) v (h ∷ hops) f = λ hop c. elim (in_cons h hops hop c) [
  | inl same ↦ subst (IsOf g) same (leads_of g leg.arrow v h f.0)
  | inr d ↦ legs_of g legs h.to hops f.3 hop d
]

legs_long : (g : Graph) (legs : List Leg) (v : ElemId) (hops : List Hop) → LegsFit g legs v hops → length hops ≡ length legs
legs_long g [] v [] f = refl
legs_long g [] v (h ∷ hops) f = absurd f
legs_long g (leg ∷ legs) v [] f = absurd f
legs_long g (leg ∷ legs) v (h ∷ hops) f = ap suc (legs_long g legs h.to hops f.3)

-- a walk that a mode other than WALK permits is no longer than the graph has elements
no_longer : (t : Task) (hops : List Hop) → is_walk t.mode ≡ false → Permits t.mode t.start hops → AreOf (graph_in t) hops → length hops ≤ reach t
no_longer t hops other p a = go t.mode other p
  where
    by_edges : Permits Trail t.start hops → length hops ≤ reach t
    by_edges d =
        let k = no_more (edges_of hops) (elements_in (graph_in t)) d (λ x c. let m = from_map (λ (h : Hop). h.edge) hops x c in subst (λ z. Contains (elements_in (graph_in t)) z) m.2 (a m.0 m.1).0) in
        subst (λ n. n ≤ reach t) (length-map hops (λ (h : Hop). h.edge)) k

    by_ends : Permits Simple t.start hops → length hops ≤ reach t
    by_ends d =
        let k = no_more (map (λ (h : Hop). h.to) hops) (elements_in (graph_in t)) d.1 (λ x c. let m = from_map (λ (h : Hop). h.to) hops x c in subst (λ z. Contains (elements_in (graph_in t)) z) m.2 (a m.0 m.1).1) in
        subst (λ n. n ≤ reach t) (length-map hops (λ (h : Hop). h.to)) k

    by_all : Permits Acyclic t.start hops → length hops ≤ reach t
    by_all d =
        let k = no_more (map (λ (h : Hop). h.to) hops) (elements_in (graph_in t)) d.1 (λ x c. let m = from_map (λ (h : Hop). h.to) hops x c in subst (λ z. Contains (elements_in (graph_in t)) z) m.2 (a m.0 m.1).1) in
        subst (λ n. n ≤ reach t) (length-map hops (λ (h : Hop). h.to)) k

    go : (mode : Mode) → is_walk mode ≡ false → Permits mode t.start hops → length hops ≤ reach t
    go Walk n q = absurd (cc)
    go Trail n q = by_edges q
    go Acyclic n q = by_all q
    go Simple n q = by_ends q

-- STATES THAT FOLLOW

permits_none : (mode : Mode) (v : ElemId) → Permits mode v []
permits_none Walk v = tt
permits_none Trail v = tt
permits_none Acyclic v = (λ c. in_nil v c, tt)
permits_none Simple v = (tt, tt)

pub first_is_valid : FirstIsValid
first_is_valid t = record {
  within = omega arith;
  counted = λ stage h. omega arith;
  ended = λ h. refl;
  at = refl;
  permitted = record { permitted = permits_none t.mode t.start; agree = λ m n c d e. absurd (in_nil m c) };
  hops = λ hop c. absurd (in_nil hop c);
}

one_get : {X : Type 0} (o : Option X) (x y : X) → o ≡ Some x → o ≡ Some y → x ≡ y
one_get o x y h k = let same : Some x ≡ Some y = sym h ∙ k in cc

not_none : {X : Type 0} (o : Option X) (x : X) → o ≡ Some x → o ≡ None → ⊥
not_none o x h k = let e : Some x ≡ None = sym h ∙ k in cc

all_left : (stages : List Stage) → span_left stages 0 ≡ span stages
all_left [] = refl
all_left (stage ∷ stages) = omega arith

-- a round that does not count
uncounted : (stage : Stage) (done : ℕ) (mode : Mode) → IsBounded mode stage → may_enter stage done ≡ true → cap stage ≤ done → (0 < length stage.round.legs) × (is_walk mode ≡ false)
uncounted stage done mode b m h = go stage.high b m h
  where
    go : (high : Option ℕ) → IfNone high ((0 < length stage.round.legs) × (is_walk mode ≡ false)) → elim high as (λ _. Bool) [ None ↦ true | Some x ↦ nat_lt done x ] ≡ true
        → elim high as (λ _. ℕ) [ None ↦ stage.low | Some x ↦ x ] ≤ done → (0 < length stage.round.legs) × (is_walk mode ≡ false)
    go None f p q = f
    go (Some x) f p q = absurd (let k = ltb-true done x p in omega arith)

module _ (near : HopsAreNeighbours) (t : Task) (sound : IsSoundTask t) (s : State) (v : IsValid t s) (stage : Stage) (is_at : slice_get t.stages s.stage ≡ Some stage) where
  here : stages_from t s.stage ≡ stage ∷ stages_from t (s.stage + 1)
  here = stage_here t.stages s.stage stage is_at

  few : s.done ≤ cap stage
  few = v.counted stage is_at

  left_lower : IsLower t s (leave s)
  left_lower = record {
    valid = record { within = let k = slice_get_within t.stages s.stage stage is_at in omega arith; counted = λ st h. omega arith; ended = λ h. refl; at = v.at; permitted = record { permitted = v.permitted.permitted; agree = v.permitted.agree }; hops = v.hops };
    lower = subst (λ (ss : List Stage). span_left (stages_from t (s.stage + 1)) 0 + (reach t - length s.hops) * (span t.stages + 1) < span_left ss s.done + (reach t - length s.hops) * (span t.stages + 1)) (sym here)
        (let k = all_left (stages_from t (s.stage + 1)) in let f = few in omega arith);
  }

  entered_lower : IsBounded t.mode stage → may_enter stage s.done ≡ true → (hops : List Hop) → RoundFits (graph_in t) stage.round s.at hops → goes_on t s stage hops ≡ true → IsLower t s (enter s stage hops)
  entered_lower b may hops fits on = record {
    valid = record {
      within = v.within;
      counted = λ st h. subst (λ (x : Stage). next_of stage s.done ≤ cap x) (one_get (slice_get t.stages s.stage) stage st is_at h) (next_few stage s.done few);
      ended = λ h. absurd (not_none (slice_get t.stages s.stage) stage is_at h);
      at = ap (λ u. last_vertex u hops) v.at ∙ sym (last_append t.start s.hops hops);
      permitted = permitted;
      hops = whole;
    };
    lower = subst (λ (ss : List Stage). span_left ss (next_of stage s.done) + (reach t - length (s.hops ++ hops)) * (span t.stages + 1) < span_left ss s.done + (reach t - length s.hops) * (span t.stages + 1)) (sym here)
        (go (nat_lt s.done (cap stage)) refl);
  }
    where
      permitted : IsPermitted t (enter s stage hops)
      permitted = let k = and_true _ _ on in record { permitted = permits_means t.mode t.start (s.hops ++ hops) k.0; agree = agrees_means (s.singles ++ singles_in stage s.at hops) k.1 }

      whole : AreOf (graph_in t) (s.hops ++ hops)
      whole hop c = elim (in_append s.hops hops hop c) [ inl x ↦ v.hops hop x | inr y ↦ legs_of (graph_in t) stage.round.legs s.at hops fits.1 hop y ]

      go : (d : Bool) → nat_lt s.done (cap stage) ≡ d
          → cap stage + 1 - cond d (s.done + 1) s.done + span (stages_from t (s.stage + 1)) + (reach t - length (s.hops ++ hops)) * (span t.stages + 1)
          < cap stage + 1 - s.done + span (stages_from t (s.stage + 1)) + (reach t - length s.hops) * (span t.stages + 1)
      go true h =
          let k = ltb-true s.done (cap stage) h in
          let len = length-append s.hops hops in
          let fewer : reach t - length (s.hops ++ hops) ≤ reach t - length s.hops = omega arith in
          let m = mul-le-mul_right (span t.stages + 1) fewer in
          omega arith
      go false h =
          let k = ltb-false s.done (cap stage) h in
          let x = uncounted stage s.done t.mode b may k in
          let len = length-append s.hops hops in
          let long = legs_long (graph_in t) stage.round.legs s.at hops fits.1 in
          let within = no_longer t (s.hops ++ hops) x.1 permitted.permitted whole in
          let fewer : reach t - length (s.hops ++ hops) + 1 ≤ reach t - length s.hops = omega arith in
          let m = mul-le-mul_right (span t.stages + 1) fewer in
          omega arith

  falls : IsBounded t.mode stage → (next : State) → Contains (successors t s stage) next → IsLower t s next
  falls b next m = elim (in_append (cond (may_enter stage s.done) (entered t s stage) []) (cond (may_leave stage s.done) (leave s ∷ []) []) next m) [
    | inl a ↦ on_enter (may_enter stage s.done) refl a
    | inr x ↦ on_leave (may_leave stage s.done) refl x
  ]
    where
      on_leave : (d : Bool) → may_leave stage s.done ≡ d → Contains (cond d (leave s ∷ []) []) next → IsLower t s next
      on_leave false h j = absurd (in_nil next j)
      on_leave true h j = elim (in_cons (leave s) [] next j) [ inr r ↦ absurd (in_nil next r) | inl same ↦ subst (λ (x : State). IsLower t s x) same left_lower ]

      on_enter : (d : Bool) → may_enter stage s.done ≡ d → Contains (cond d (entered t s stage) []) next → IsLower t s next
      on_enter false h j = absurd (in_nil next j)
      on_enter true h j =
          let n = from_map (enter s stage) (filter (goes_on t s stage) (rounds_from t stage s.at)) next j in
          let f = in_filter (goes_on t s stage) (rounds_from t stage s.at) n.0 n.1 in
          subst (λ (x : State). IsLower t s x) n.2 (entered_lower b h n.0 (from_rounds near t sound stage s.at n.0 f.0) f.1)

stage_in : (stages : List Stage) (k : ℕ) (stage : Stage) → slice_get stages k ≡ Some stage → Contains stages stage
stage_in stages k stage h = (k, slice_get_within stages k stage h, get_or_from_slice_get stages k stage stage h)

pub ranks_fall : HopsAreNeighbours → RanksFall
ranks_fall near t sound bounded s v stage is_at next c = falls near t sound s v stage is_at (bounded stage (stage_in t.stages s.stage stage is_at)) next c

pub weights_fall : HopsAreNeighbours → WeightsFall
weights_fall near t sound bounded s v stage is_at =
    let own : next_states t s ≡ successors t s stage = ap (λ (o : Option Stage). elim o as (λ _. List State) [ None ↦ [] | Some st ↦ successors t s st ]) is_at in
    subst (λ xs. sum_by (weight t) xs < weight t s) own
    (smaller t (rank t) s (λ c i. (ranks_fall near t sound bounded s v stage is_at c (subst (λ xs. Contains xs c) own i)).lower))
