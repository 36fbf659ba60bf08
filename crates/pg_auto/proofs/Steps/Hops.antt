-- The hops over a leg are those to which its arrow leads and which it admits.
use Rattle.std.proofs.Common.{◌≡◌, ◌==◌, Bool, true, false, cond, [], Contains, inl, inr, ap, sym, ◌∙◌}
use Rattle.std.specs.Prelude.{Option, Some, None, option_map, slice_get, filter_map}
use Rattle.std.specs.Option.{unwrap_or}
use Rattle.std.proofs.lemmas.Bool.{eqb-true}
use Rattle.pg_value.specs.declared.value.Dir.{Dir}
use Rattle.pg_value.specs.declared.value.Dir.TheVariants.{Out, In}
use Rattle.pg_value.specs.declared.shape.ElemId.{ElemId}
use Rattle.pg_value.specs.declared.shape.EdgeNo.{EdgeNo}
use Rattle.pg_value.specs.declared.shape.EdgeShape.{EdgeShape}
use Rattle.pg_value.specs.declared.shape.Shapes.{Shapes}
use Rattle.pg_value.specs.declared.shape.TableSet.{TableSet}
use Rattle.pg_value.specs.Tables.{Stored, Tables, held_in}
use Rattle.pg_value.specs.Graph.{Edge, edge_between, elem_of, same_elem}
use Rattle.pg_ast.specs.declared.pattern.Arrow.{Arrow}
use Rattle.pg_ast.specs.declared.pattern.Arrow.TheVariants.{Right, Left, Either}
use Rattle.pg_meaning.specs.Walks.{Hop, Leads}
use Rattle.pg_meaning.specs.Rounds.{Leg}
use Rattle.pg_meaning.specs.Fits.{Admits, NodeAdmits}
use Rattle.pg_meaning.specs.Members.{in_nil, in_left, in_right, in_append, in_filter, from_flat_map, from_filter_map}
use Rattle.pg_meaning.specs.Reads.{end_at, edge_at, edges_at, over_edge, neighbours_of, Reached, HopsAreNeighbours}
use Rattle.pg_auto.specs.States.{Task, graph_in}
use Rattle.pg_auto.specs.Tests.{has_table, leg_admits}
use Rattle.pg_auto.specs.Successors.{led_to, is_read, hops_over}
use Rattle.pg_auto.specs.Steps.{IsSoundTask}
use Rattle.pg_auto.proofs.Members.{kept, in_flat}
use Rattle.pg_auto.proofs.Steps.Tests.{both_true, and_true, admits_test, admits_means, node_test, node_means}

-- THE TABLE OF A NEIGHBOUR'S EDGE

none_is : {X : Type 0} (x : X) → None ≡ Some x → ⊥
none_is x h = cc

some_is : {X : Type 0} (x y : X) → Some x ≡ Some y → x ≡ y
some_is x y h = cc

between_elem : (a b : Option ElemId) (x : ElemId) (e : Edge) → edge_between a b x ≡ Some e → x ≡ e.elem
between_elem (Some a) (Some b) x e h = ap (λ z. z.elem) (some_is (record { elem = x; source = a; dest = b }) e h)
between_elem None b x e h = absurd (none_is e h)
between_elem (Some a) None x e h = absurd (none_is e h)

over_elem : (dir : Dir) (v : ElemId) (e : Edge) (hop : Hop) → over_edge dir v e ≡ Some hop → e.elem ≡ hop.edge
over_elem Out v e hop h = go (same_elem e.source v) h
  where
    go : (b : Bool) → cond b (Some (record { edge = e.elem; to = e.dest })) None ≡ Some hop → e.elem ≡ hop.edge
    go true k = ap (λ z. z.edge) (some_is (record { edge = e.elem; to = e.dest }) hop k)
    go false k = absurd (none_is hop k)
over_elem In v e hop h = go (same_elem e.dest v) h
  where
    go : (b : Bool) → cond b (Some (record { edge = e.elem; to = e.source })) None ≡ Some hop → e.elem ≡ hop.edge
    go true k = ap (λ z. z.edge) (some_is (record { edge = e.elem; to = e.source }) hop k)
    go false k = absurd (none_is hop k)

-- a neighbour's edge is a row of the edge table
table_of_edge : (tables : Tables) (shape : EdgeShape) (dir : Dir) (v : ElemId) (hop : Hop) → Contains (filter_map (over_edge dir v) (edges_at tables shape)) hop → hop.edge.table.0 ≡ shape.table.0
table_of_edge tables shape dir v hop c =
    let e = from_filter_map (over_edge dir v) (edges_at tables shape) hop c in
    let s = from_filter_map (edge_at tables shape) (held_in shape.table tables) e.0 e.1 in
    let own = between_elem (end_at tables shape.source shape.source_columns s.0.row) (end_at tables shape.dest shape.dest_columns s.0.row) (elem_of s.0) e.0 s.2 in
    let held = (in_filter (λ (r : Stored). r.table.0 == shape.table.0) tables s.0 s.1).1 in
    sym (ap (λ (x : ElemId). x.table.0) (own ∙ over_elem dir v e.0 hop e.2)) ∙ eqb-true s.0.table.0 shape.table.0 held

-- so its edge table is read where its edge is admitted
neighbour_read : (shapes : Shapes) (tables : Tables) (set : TableSet) (e : EdgeNo) (dir : Dir) (v : ElemId) (hop : Hop) → has_table set hop.edge.table ≡ true
    → Contains (neighbours_of shapes tables e dir v) hop → is_read shapes set e ≡ true
neighbour_read shapes tables set e dir v hop h c = go (slice_get shapes.edges e.0) c
  where
    go : (o : Option EdgeShape) → Contains (unwrap_or (option_map (λ (shape : EdgeShape). filter_map (over_edge dir v) (edges_at tables shape)) o) []) hop
        → elim o as (λ _. Bool) [ None ↦ false | Some shape ↦ has_table set shape.table ] ≡ true
    go None d = absurd (in_nil hop d)
    go (Some shape) d = ap (λ n. has_table set (record { 0 = n })) (sym (table_of_edge tables shape dir v hop d)) ∙ h

-- OVER A LEG

-- an edge table of the graph from which an arrow leads over the hop
record IsLed (t : Task) (arrow : Arrow) (set : TableSet) (v : ElemId) (hop : Hop) : Type 0 where
  edges : EdgeNo
  of_graph : Contains t.graph.edges edges
  read : is_read t.shapes set edges ≡ true
  leads : Contains (led_to t.shapes t.tables arrow v edges) hop

reached_led : (t : Task) (arrow : Arrow) (set : TableSet) (v : ElemId) (hop : Hop) → has_table set hop.edge.table ≡ true → Reached t.shapes t.graph t.tables arrow v hop → IsLed t arrow set v hop
reached_led t Right set v hop h r = record { edges = r.0; of_graph = r.1; read = neighbour_read t.shapes t.tables set r.0 Out v hop h r.2; leads = r.2 }
reached_led t Left set v hop h r = record { edges = r.0; of_graph = r.1; read = neighbour_read t.shapes t.tables set r.0 In v hop h r.2; leads = r.2 }
reached_led t Either set v hop h (inl r) = record {
  edges = r.0;
  of_graph = r.1;
  read = neighbour_read t.shapes t.tables set r.0 Out v hop h r.2;
  leads = in_left (neighbours_of t.shapes t.tables r.0 Out v) (neighbours_of t.shapes t.tables r.0 In v) hop r.2;
}
reached_led t Either set v hop h (inr r) = record {
  edges = r.0;
  of_graph = r.1;
  read = neighbour_read t.shapes t.tables set r.0 In v hop h r.2;
  leads = in_right (neighbours_of t.shapes t.tables r.0 Out v) (neighbours_of t.shapes t.tables r.0 In v) hop r.2;
}

led_reached : (t : Task) (arrow : Arrow) (v : ElemId) (hop : Hop) (e : EdgeNo) → Contains t.graph.edges e → Contains (led_to t.shapes t.tables arrow v e) hop → Reached t.shapes t.graph t.tables arrow v hop
led_reached t Right v hop e c d = (e, c, d)
led_reached t Left v hop e c d = (e, c, d)
led_reached t Either v hop e c d = elim (in_append (neighbours_of t.shapes t.tables e Out v) (neighbours_of t.shapes t.tables e In v) hop d) [ inl a ↦ inl (e, c, a) | inr b ↦ inr (e, c, b) ]

module _ (near : HopsAreNeighbours) (t : Task) (sound : IsSoundTask t) where
  pub in_hops : (leg : Leg) (v : ElemId) (hop : Hop) → Leads (graph_in t) leg.arrow v hop → Admits (graph_in t) leg.edge hop.edge → NodeAdmits (graph_in t) leg.node hop.to
      → Contains (hops_over t leg v) hop
  in_hops leg v hop l a b =
      let edge = admits_test (graph_in t) leg.edge hop.edge a in
      let e = reached_led t leg.arrow leg.edge.tables v hop (and_true _ _ edge).0 ((near t.shapes t.graph t.tables sound.graph sound.tables leg.arrow v hop).0 l) in
      kept (leg_admits (graph_in t) leg) _ hop
      (in_flat (led_to t.shapes t.tables leg.arrow v) _ e.edges hop (kept (is_read t.shapes leg.edge.tables) t.graph.edges e.edges e.of_graph e.read) e.leads)
      (both_true _ _ edge (node_test (graph_in t) leg.node hop.to b))

  pub from_hops : (leg : Leg) (v : ElemId) (hop : Hop) → Contains (hops_over t leg v) hop → Leads (graph_in t) leg.arrow v hop × Admits (graph_in t) leg.edge hop.edge × NodeAdmits (graph_in t) leg.node hop.to
  from_hops leg v hop c =
      let f = in_filter (leg_admits (graph_in t) leg) _ hop c in
      let k = and_true _ _ f.1 in
      let e = from_flat_map (led_to t.shapes t.tables leg.arrow v) _ hop f.0 in
      let g = in_filter (is_read t.shapes leg.edge.tables) t.graph.edges e.0 e.1 in (
        (near t.shapes t.graph t.tables sound.graph sound.tables leg.arrow v hop).1 (led_reached t leg.arrow v hop e.0 g.0 e.2),
        admits_means (graph_in t) leg.edge hop.edge k.0,
        node_means (graph_in t) leg.node hop.to k.1,
      )
