-- A state that a walk from a vertex comes to is at a vertex, and counts no further than its stage does.
use Rattle.std.proofs.Common.{◌≡◌, ◌≤◌, ◌<◌, ◌+◌, ℕ, Bool, true, false, cond, List, [], ◌∷◌, ◌++◌, Contains, inl, inr, refl, arith, ap, sym, ◌∙◌, subst}
use Rattle.std.specs.Prelude.{Some, slice_get, flat_map, filter, nat_lt}
use Rattle.std.proofs.lemmas.Bool.{ltb-true, ltb-false}
use Rattle.pg_value.specs.declared.value.Dir.TheVariants.{Out, In}
use Rattle.pg_value.specs.declared.shape.ElemId.{ElemId}
use Rattle.pg_value.specs.declared.shape.EdgeNo.{EdgeNo}
use Rattle.pg_value.specs.Graph.{vertices}
use Rattle.pg_ast.specs.declared.pattern.Arrow.{Arrow}
use Rattle.pg_ast.specs.declared.pattern.Arrow.TheVariants.{Right, Left, Either}
use Rattle.pg_meaning.specs.Walks.{Hop, Leads, last_vertex}
use Rattle.pg_meaning.specs.Rounds.{Leg}
use Rattle.pg_meaning.specs.EdgeKeys.{edge_stands}
use Rattle.pg_meaning.specs.Members.{in_one, in_append, from_map, from_flat_map, in_filter}
use Rattle.pg_meaning.specs.Reads.{neighbours_of, Reached, HopsAreNeighbours}
use Rattle.pg_auto.specs.Stages.{Stage}
use Rattle.pg_auto.specs.Counts.{cap, next_of}
use Rattle.pg_auto.specs.States.{Task, State, graph_in}
use Rattle.pg_auto.specs.Steps.{IsSoundTask}
use Rattle.pg_auto.specs.Tests.{leg_admits}
use Rattle.pg_auto.specs.Successors.{led_to, is_read, hops_over, longer, along, rounds_from, is_round}
use Rattle.pg_short.specs.Searches.{Follows, IsReached}
use Rattle.pg_short.specs.Searches.IsReached.{first, next}
use Rattle.pg_short.specs.Searches.Follows.{enters, leaves}
use Rattle.pg_short.proofs.Lists.{one_get}
use Rattle.pg_short.proofs.Follows.{in_cond}
use Rattle.pg_short.proofs.ReadRounds.{last_more}

pub record IsPlaced (t : Task) (s : State) : Type 0 where
  pub vertex : Contains (vertices t.graph t.tables) s.at
  pub counted : (stage : Stage) → slice_get t.stages s.stage ≡ Some stage → s.done ≤ cap stage

no_further : (done most : ℕ) → done ≤ most → cond (nat_lt done most) (done + 1) done ≤ most
no_further done most l = go (nat_lt done most) refl
  where
    go : (b : Bool) → nat_lt done most ≡ b → cond b (done + 1) done ≤ most
    go true h = let k = ltb-true done most h in omega arith
    go false h = l

module _ (near : HopsAreNeighbours) (t : Task) (sound : IsSoundTask t) (start : Contains (vertices t.graph t.tables) t.start) where
  neighbour_of : (arrow : Arrow) (v : ElemId) (hop : Hop) (e : EdgeNo) → Contains t.graph.edges e → Contains (led_to t.shapes t.tables arrow v e) hop → Reached t.shapes t.graph t.tables arrow v hop
  neighbour_of Right v hop e c d = (e, c, d)
  neighbour_of Left v hop e c d = (e, c, d)
  neighbour_of Either v hop e c d = elim (in_append (neighbours_of t.shapes t.tables e Out v) (neighbours_of t.shapes t.tables e In v) hop d) [ inl a ↦ inl (e, c, a) | inr b ↦ inr (e, c, b) ]

  led_there : (arrow : Arrow) (v : ElemId) (hop : Hop) → Leads (graph_in t) arrow v hop → Contains (vertices t.graph t.tables) hop.to
  led_there Right v hop l = (edge_stands t.shapes t.graph t.tables (record { elem = hop.edge; source = v; dest = hop.to }) l).dest
  led_there Left v hop l = (edge_stands t.shapes t.graph t.tables (record { elem = hop.edge; source = hop.to; dest = v }) l).source
  led_there Either v hop (inl l) = (edge_stands t.shapes t.graph t.tables (record { elem = hop.edge; source = v; dest = hop.to }) l).dest
  led_there Either v hop (inr l) = (edge_stands t.shapes t.graph t.tables (record { elem = hop.edge; source = hop.to; dest = v }) l).source

  over_leg : (leg : Leg) (v : ElemId) (hop : Hop) → Contains (hops_over t leg v) hop → Contains (vertices t.graph t.tables) hop.to
  over_leg leg v hop c =
      let led = led_to t.shapes t.tables leg.arrow v in
      let test = is_read t.shapes leg.edge.tables in
      let f = in_filter (leg_admits (graph_in t) leg) (flat_map led (filter test t.graph.edges)) hop c in
      let a = from_flat_map led (filter test t.graph.edges) hop f.0 in
      led_there leg.arrow v hop ((near t.shapes t.graph t.tables sound.graph sound.tables leg.arrow v hop).1 (neighbour_of leg.arrow v hop a.0 (in_filter test t.graph.edges a.0 a.1).0 a.2))

  over_legs : (legs : List Leg) (v : ElemId) (found : List (List Hop)) → ((f : List Hop) → Contains found f → Contains (vertices t.graph t.tables) (last_vertex v f))
      → (hops : List Hop) → Contains (along t legs v found) hops → Contains (vertices t.graph t.tables) (last_vertex v hops)
  over_legs [] v found h hops c = h hops c
  over_legs (leg ∷ legs) v found h hops c = over_legs legs v (flat_map (longer t leg v) found) (λ f d.
      let x = from_flat_map (longer t leg v) found f d in
      let y = from_map (λ (k : Hop). x.0 ++ k ∷ []) (hops_over t leg (last_vertex v x.0)) f x.2 in
      subst (λ (g : List Hop). Contains (vertices t.graph t.tables) (last_vertex v g)) y.2
      (subst (λ (u : ElemId). Contains (vertices t.graph t.tables) u) (sym (last_more v x.0 y.0)) (over_leg leg (last_vertex v x.0) y.0 y.1))) hops c

  over_round : (stage : Stage) (v : ElemId) (hops : List Hop) → Contains (vertices t.graph t.tables) v → Contains (rounds_from t stage v) hops → Contains (vertices t.graph t.tables) (last_vertex v hops)
  over_round stage v hops here c =
      let f = in_filter (is_round t stage v) _ hops c in
      over_legs stage.round.legs v ([] ∷ []) (λ g d. subst (λ (z : List Hop). Contains (vertices t.graph t.tables) (last_vertex v z)) (in_one [] g d) here) hops
      (in_cond _ (along t stage.round.legs v ([] ∷ [])) hops f.0).1

  placed_next : (s c : State) → IsPlaced t s → Follows t s c → IsPlaced t c
  placed_next s c p (enters stage here may hops round on) = record {
    vertex = over_round stage s.at hops p.vertex round;
    counted = λ other o. subst (λ (x : Stage). next_of stage s.done ≤ cap x) (one_get (slice_get t.stages s.stage) stage other here o) (no_further s.done (cap stage) (p.counted stage here));
  }
  placed_next s c p (leaves stage here may) = record { vertex = p.vertex; counted = λ other o. omega arith }

  pub placed : (s : State) → IsReached t s → IsPlaced t s
  placed s first = record { vertex = start; counted = λ stage h. omega arith }
  placed s (next r h c f) = placed_next r c (placed r h) f
