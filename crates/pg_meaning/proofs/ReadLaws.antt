-- Walks go over neighbours, and a selection is made start by start.
use Rattle.std.proofs.Common.{◌≡◌, ◌==◌, ◌&&◌, ◌||◌, ℕ, Bool, true, false, cond, not, is_some, List, [], ◌∷◌, map, filter, Contains, inl, inr, Option, Some, None, refl, ap, sym, ◌∙◌, subst, eq-eqb}
use Rattle.std.specs.Prelude.{filter_map, option_map, slice_get}
use Rattle.std.specs.Option.{unwrap_or}
use Rattle.std.specs.List.{flat_map, list_any, list_all}
use Rattle.pg_keyed.specs.Lists.{Each, Among}
use Rattle.pg_keyed.specs.Reads.{get_key, get_among, among_get}
use Rattle.pg_keyed.specs.Orders.{same}
use Rattle.std.specs.Ordering.{is_eq}
use Rattle.pg_value.specs.declared.value.Dir.{Dir}
use Rattle.pg_value.specs.declared.value.Dir.TheVariants.{Out, In}
use Rattle.pg_value.specs.declared.row.Row.{Row}
use Rattle.pg_value.specs.declared.shape.ElemId.{ElemId}
use Rattle.pg_value.specs.declared.shape.TableNo.{TableNo}
use Rattle.pg_value.specs.declared.shape.EdgeNo.{EdgeNo}
use Rattle.pg_value.specs.declared.shape.EdgeShape.{EdgeShape}
use Rattle.pg_value.specs.declared.shape.Shapes.{Shapes}
use Rattle.pg_value.specs.declared.shape.GraphShape.{GraphShape}
use Rattle.pg_value.specs.Order.{Place, place_cmp}
use Rattle.pg_value.specs.Orders.{places}
use Rattle.pg_value.specs.Compare.{is_null}
use Rattle.pg_value.specs.Tables.{Stored, Tables, IsInOrder, held_in, place_of, stored_at, pick}
use Rattle.pg_value.specs.Graph.{Edge, vertices, edges, edges_in, edge_between, end_of, elem_of, elem_place, same_elem}
use Rattle.pg_ast.specs.declared.pattern.Arrow.TheVariants.{Right, Left, Either}
use Rattle.pg_ast.specs.declared.pattern.Selector.{Selector}
use Rattle.pg_ast.specs.declared.pattern.Selector.TheVariants.{Every, Any, AnyShortest, AllShortest}
use Rattle.pg_meaning.specs.Walks.{Hop}
use Rattle.pg_meaning.specs.Bindings.{Binding, Distinct, IsAllowed, IsSelected, IsComplete, IsShortest, OnePerPair}
use Rattle.pg_meaning.specs.Members.{in_nil, in_here, in_there, in_cons, in_left, in_right, in_map, from_map, from_flat_map, from_filter_map, in_filter_map, in_filter, from_any, distinct_append}
use Rattle.pg_meaning.specs.EdgeKeys.{same_is}
use Rattle.pg_meaning.specs.Sound.Graphs.{IsSoundGraph, IsEdgeTable}
use Rattle.pg_meaning.specs.Reads.{end_at, edges_at, over_edge, neighbours_of, IsNeighbour, HopsAreNeighbours, SelectionsByStart}

-- LISTS

or_true : (a : Bool) → (a || true) ≡ true
or_true true = refl
or_true false = refl

module _ {X : Type 0} where
  pub of_each : (P : X → Type 0) (xs : List X) (x : X) → Each P xs → Contains xs x → P x
  of_each P [] x h c = absurd (in_nil x c)
  of_each P (y ∷ ys) x h c = elim (in_cons y ys x c) [ inl e ↦ subst P e h.0 | inr r ↦ of_each P ys x h.1 r ]

  pub as_among : (xs : List X) (x : X) → Contains xs x → Among x xs
  as_among [] x c = absurd (in_nil x c)
  as_among (y ∷ ys) x c = elim (in_cons y ys x c) [ inl e ↦ inl (sym e) | inr r ↦ inr (as_among ys x r) ]

  as_contains : (xs : List X) (x : X) → Among x xs → Contains xs x
  as_contains [] x a = absurd a
  as_contains (y ∷ ys) x (inl e) = in_here y ys x (sym e)
  as_contains (y ∷ ys) x (inr a) = in_there y ys x (as_contains ys x a)

  kept_step : (test : X → Bool) (y : X) (ys : List X) (x : X) (b : Bool) → test y ≡ b → test x ≡ true → (Contains ys x → Contains (filter test ys) x) → Contains (y ∷ ys) x
      → Contains (cond b (y ∷ filter test ys) (filter test ys)) x
  kept_step test y ys x true e t rest c = elim (in_cons y ys x c) [ inl s ↦ in_here y (filter test ys) x s | inr r ↦ in_there y (filter test ys) x (rest r) ]
  kept_step test y ys x false e t rest c = elim (in_cons y ys x c) [ inl s ↦ absurd (differ (sym t ∙ ap test (sym s) ∙ e)) | inr r ↦ rest r ]
    where
      differ : true ≡ false → ⊥
      differ h = cc

  kept : (test : X → Bool) (xs : List X) (x : X) → Contains xs x → test x ≡ true → Contains (filter test xs) x
  kept test [] x c t = absurd (in_nil x c)
  kept test (y ∷ ys) x c t = kept_step test y ys x (test y) refl t (λ r. kept test ys x r t) c

  some_passes : (test : X → Bool) (xs : List X) (x : X) → Contains xs x → test x ≡ true → list_any test xs ≡ true
  some_passes test [] x c t = absurd (in_nil x c)
  some_passes test (y ∷ ys) x c t = elim (in_cons y ys x c) [
    | inl e ↦ ap (λ b. b || list_any test ys) (ap test e ∙ t)
    | inr r ↦ ap (λ b. test y || b) (some_passes test ys x r t) ∙ or_true (test y)
  ]

in_flat : {X Y : Type 0} (f : X → List Y) (xs : List X) (x : X) (y : Y) → Contains xs x → Contains (f x) y → Contains (flat_map f xs) y
in_flat f [] x y c d = absurd (in_nil x c)
in_flat f (z ∷ xs) x y c d = elim (in_cons z xs x c) [
  | inl e ↦ in_left (f z) (flat_map f xs) y (subst (λ w. Contains (f w) y) (sym e) d)
  | inr r ↦ in_right (f z) (flat_map f xs) y (in_flat f xs x y r d)
]

some_is : {X : Type 0} (x y : X) → Some x ≡ Some y → x ≡ y
some_is x y h = cc

none_is : {X : Type 0} (x : X) → None ≡ Some x → ⊥
none_is x h = cc

-- VERTICES

same_as : (e : ElemId) → same_elem e e ≡ true
same_as e = ap is_eq (same places (elem_place e))

-- an element of a vertex table is a vertex exactly where its row is there
vertex_there : (g : GraphShape) (tables : Tables) (e : ElemId) → IsInOrder tables → Contains g.vertices e.table → list_any (same_elem e) (vertices g tables) ≡ is_some (stored_at (elem_place e) tables)
vertex_there g tables e order c = by (list_any (same_elem e) (vertices g tables)) refl (stored_at (elem_place e) tables) refl
  where
    stands : list_any (same_elem e) (vertices g tables) ≡ true → (s : Stored) × (stored_at (elem_place e) tables ≡ Some s)
    stands h =
        let v = from_any (same_elem e) (vertices g tables) h in
        let t = from_flat_map (λ t. map elem_of (held_in t tables)) g.vertices v.0 v.1 in
        let s = from_map elem_of (held_in t.0 tables) v.0 t.2 in
        let at : elem_place e ≡ place_of s.0 = ap elem_place (same_is e v.0 v.2 ∙ sym s.2) in
        let row = as_among tables s.0 (in_filter (λ (r : Stored). r.table.0 == t.0.0) tables s.0 s.1).0 in
        (s.0, ap (λ p. stored_at p tables) at ∙ among_get place_of place_cmp places s.0 tables order row)

    found : (s : Stored) → stored_at (elem_place e) tables ≡ Some s → list_any (same_elem e) (vertices g tables) ≡ true
    found s h =
        let at : elem_place e ≡ place_of s = get_key place_of place_cmp places (elem_place e) tables s h in
        let row = as_contains tables s (get_among place_of place_cmp places (elem_place e) tables s h) in
        let held = kept (λ (r : Stored). r.table.0 == e.table.0) tables s row (eq-eqb s.table.0 e.table.0 (sym (ap (λ (p : Place). p.0) at))) in
        some_passes (same_elem e) (vertices g tables) (elem_of s)
        (in_flat (λ t. map elem_of (held_in t tables)) g.vertices e.table (elem_of s) c (in_map elem_of (held_in e.table tables) s held))
        (ap (λ p. same_elem_at p) (sym at) ∙ same_as e)
      where
        same_elem_at : Place → Bool
        same_elem_at p = is_eq (place_cmp (elem_place e) p)

    by : (b : Bool) → list_any (same_elem e) (vertices g tables) ≡ b → (o : Option Stored) → stored_at (elem_place e) tables ≡ o → list_any (same_elem e) (vertices g tables) ≡ is_some (stored_at (elem_place e) tables)
    by true h o k = let s = stands h in h ∙ sym (ap is_some s.1)
    by false h None k = h ∙ sym (ap is_some k)
    by false h (Some s) k = found s k ∙ sym (ap is_some k)

-- EDGES

same_end : (g : GraphShape) (tables : Tables) (t : TableNo) (columns : List ℕ) (row : Row) → IsInOrder tables → Contains g.vertices t → end_of (vertices g tables) t columns row ≡ end_at tables t columns row
same_end g tables t columns row order c =
    let elem : ElemId = record { table = t; key = record { values = pick columns row.values } } in
    ap (λ b. cond (list_all (λ v. not (is_null v)) (pick columns row.values) && b) (Some elem) None) (vertex_there g tables elem order c)

same_edges : (g : GraphShape) (tables : Tables) (shape : EdgeShape) → IsInOrder tables → Contains g.vertices shape.source → Contains g.vertices shape.dest → edges_in (vertices g tables) tables shape ≡ edges_at tables shape
same_edges g tables shape order a b =
    ap (λ h. filter_map h (held_in shape.table tables))
    (λ i s. edge_between (same_end g tables shape.source shape.source_columns s.row order a i) (same_end g tables shape.dest shape.dest_columns s.row order b i) (elem_of s))

abbrev table_edges : Shapes → GraphShape → Tables → EdgeNo → List Edge
table_edges shapes g tables e = unwrap_or (option_map (edges_in (vertices g tables) tables) (slice_get shapes.edges e.0)) []

-- what an edge table of a sound graph has
of_table : (shapes : Shapes) (g : GraphShape) (tables : Tables) (e : EdgeNo) → IsInOrder tables → (t : IsEdgeTable shapes g e) → table_edges shapes g tables e ≡ edges_at tables t.shape
of_table shapes g tables e order t =
    ap (λ o. unwrap_or (option_map (edges_in (vertices g tables) tables) o) []) t.stands ∙ same_edges g tables t.shape order t.source t.dest

near : (shapes : Shapes) (tables : Tables) (g : GraphShape) (e : EdgeNo) (dir : Dir) (v : ElemId) (t : IsEdgeTable shapes g e) → neighbours_of shapes tables e dir v ≡ filter_map (over_edge dir v) (edges_at tables t.shape)
near shapes tables g e dir v t = ap (λ o. unwrap_or (option_map (λ (s : EdgeShape). filter_map (over_edge dir v) (edges_at tables s)) o) []) t.stands

-- HOPS

-- the edge of a hop, by the end at which the vertex is
abbrev edge_by : Dir → ElemId → Hop → Edge
edge_by Out v hop = record { elem = hop.edge; source = v; dest = hop.to }
edge_by In v hop = record { elem = hop.edge; source = hop.to; dest = v }

own_hop : (dir : Dir) (v : ElemId) (hop : Hop) → over_edge dir v (edge_by dir v hop) ≡ Some hop
own_hop Out v hop = ap (λ b. cond b (Some hop) None) (same_as v)
own_hop In v hop = ap (λ b. cond b (Some hop) None) (same_as v)

own_edge : (dir : Dir) (v : ElemId) (hop : Hop) (e : Edge) → over_edge dir v e ≡ Some hop → e ≡ edge_by dir v hop
own_edge Out v hop e h = go (same_elem e.source v) refl h
  where
    go : (b : Bool) → same_elem e.source v ≡ b → cond b (Some (record { edge = e.elem; to = e.dest })) None ≡ Some hop → e ≡ edge_by Out v hop
    go true s k = let o = some_is (record { edge = e.elem; to = e.dest }) hop k in λ i. record { elem = (o i).edge; source = same_is e.source v s i; dest = (o i).to }
    go false s k = absurd (none_is hop k)
own_edge In v hop e h = go (same_elem e.dest v) refl h
  where
    go : (b : Bool) → same_elem e.dest v ≡ b → cond b (Some (record { edge = e.elem; to = e.source })) None ≡ Some hop → e ≡ edge_by In v hop
    go true s k = let o = some_is (record { edge = e.elem; to = e.source }) hop k in λ i. record { elem = (o i).edge; source = (o i).to; dest = same_is e.dest v s i }
    go false s k = absurd (none_is hop k)

there : (shapes : Shapes) (g : GraphShape) (tables : Tables) → IsSoundGraph shapes g → IsInOrder tables → (dir : Dir) (v : ElemId) (hop : Hop)
    → Contains (edges shapes g tables) (edge_by dir v hop) → IsNeighbour shapes g tables dir v hop
there shapes g tables sound order dir v hop c =
    let e = from_flat_map (table_edges shapes g tables) g.edges (edge_by dir v hop) c in
    let t = of_each (IsEdgeTable shapes g) g.edges e.0 sound.edges e.1 in
    let own = subst (λ es. Contains es (edge_by dir v hop)) (of_table shapes g tables e.0 order t) e.2 in
    (e.0, e.1, subst (λ hs. Contains hs hop) (sym (near shapes tables g e.0 dir v t)) (in_filter_map (over_edge dir v) (edges_at tables t.shape) (edge_by dir v hop) hop own (own_hop dir v hop)))

back : (shapes : Shapes) (g : GraphShape) (tables : Tables) → IsSoundGraph shapes g → IsInOrder tables → (dir : Dir) (v : ElemId) (hop : Hop)
    → IsNeighbour shapes g tables dir v hop → Contains (edges shapes g tables) (edge_by dir v hop)
back shapes g tables sound order dir v hop n =
    let t = of_each (IsEdgeTable shapes g) g.edges n.0 sound.edges n.1 in
    let own = subst (λ hs. Contains hs hop) (near shapes tables g n.0 dir v t) n.2 in
    let e = from_filter_map (over_edge dir v) (edges_at tables t.shape) hop own in
    in_flat (table_edges shapes g tables) g.edges n.0 (edge_by dir v hop) n.1
    (subst (λ es. Contains es (edge_by dir v hop)) (sym (of_table shapes g tables n.0 order t)) (subst (λ x. Contains (edges_at tables t.shape) x) (own_edge dir v hop e.0 e.2) e.1))

pub hops_are_neighbours : HopsAreNeighbours
hops_are_neighbours shapes g tables sound order Right v hop = (there shapes g tables sound order Out v hop, back shapes g tables sound order Out v hop)
hops_are_neighbours shapes g tables sound order Left v hop = (there shapes g tables sound order In v hop, back shapes g tables sound order In v hop)
hops_are_neighbours shapes g tables sound order Either v hop = (
  λ l. elim l [ inl a ↦ inl (there shapes g tables sound order Out v hop a) | inr b ↦ inr (there shapes g tables sound order In v hop b) ],
  λ r. elim r [ inl a ↦ inl (back shapes g tables sound order Out v hop a) | inr b ↦ inr (back shapes g tables sound order In v hop b) ],
)

-- SELECTIONS

module _ (Allowed : Binding → Type 0) (starts : List ElemId) (kept_of : ElemId → List Binding) where
  abbrev From : ElemId → Binding → Type 0
  From s b = Allowed b × (b.start ≡ s)

  -- what is kept of all starts
  abbrev all : List Binding
  all = flat_map kept_of starts

  into : (s : ElemId) (b : Binding) → Contains starts s → Contains (kept_of s) b → Contains all b
  into s b c d = in_flat kept_of starts s b c d

  -- a binding that is kept is kept of its own start
  own : (selector : Selector) → ((s : ElemId) → Contains starts s → IsSelected selector (From s) (kept_of s)) → (b : Binding) → Contains all b → Allowed b × Contains starts b.start × Contains (kept_of b.start) b
  own selector each b c =
      let s = from_flat_map kept_of starts b c in
      let a = (each s.0 s.1).allowed b s.2 in
      (a.0, subst (λ x. Contains starts x) (sym a.1) s.1, subst (λ x. Contains (kept_of x) b) (sym a.1) s.2)

  one_per_pair : (selector : Selector) → ((s : ElemId) → Contains starts s → IsSelected selector (From s) (kept_of s)) → ((b : Binding) → Allowed b → Contains starts b.start)
      → ((s : ElemId) → Contains starts s → OnePerPair (From s) (kept_of s)) → OnePerPair Allowed all
  one_per_pair selector each begins pairs = record {
    some = λ b a. let c = begins b a in let k = (pairs b.start c).some b (a, refl) in (k.0, into b.start k.0 c k.1, k.2);
    once = λ b c h k same.
        let x = own selector each b h in
        let y = own selector each c k in
        (pairs b.start x.1).once b c x.2 (subst (λ s. Contains (kept_of s) c) (sym same.0) y.2) same;
  }

  shortest_of_all : (b : Binding) → IsShortest (From b.start) b → IsShortest Allowed b
  shortest_of_all b h c a same = h c (a, sym same.0) same

  shortest_of_own : (b : Binding) → IsShortest Allowed b → IsShortest (From b.start) b
  shortest_of_own b h c a same = h c a.0 same

  complete : (selector : Selector) → ((s : ElemId) → Contains starts s → IsSelected selector (From s) (kept_of s)) → ((b : Binding) → Allowed b → Contains starts b.start) → IsComplete selector Allowed all
  complete Every each begins = λ b a. let c = begins b a in into b.start b c ((each b.start c).complete b (a, refl))
  complete Any each begins = one_per_pair Any each begins (λ s c. (each s c).complete)
  complete AnyShortest each begins = (
    one_per_pair AnyShortest each begins (λ s c. (each s c).complete.0),
    λ b h. let x = own AnyShortest each b h in shortest_of_all b ((each b.start x.1).complete.1 b x.2),
  )
  complete AllShortest each begins = λ b a. (
    λ h. shortest_of_all b (((each b.start (begins b a)).complete b (a, refl)).0 (own AllShortest each b h).2),
    λ h. into b.start b (begins b a) (((each b.start (begins b a)).complete b (a, refl)).1 (shortest_of_own b h)),
  )

  apart : (selector : Selector) (ss : List ElemId) → Distinct ss → ((s : ElemId) → Contains ss s → IsSelected selector (From s) (kept_of s)) → Distinct (flat_map kept_of ss)
  apart selector [] d each = tt
  apart selector (s ∷ ss) d each =
      distinct_append (kept_of s) (flat_map kept_of ss) (each s (in_here s ss s refl)).distinct (apart selector ss d.1 (λ t c. each t (in_there s ss t c)))
      (λ b h k.
      let t = from_flat_map kept_of ss b k in
      let x = ((each s (in_here s ss s refl)).allowed b h).1 in
      let y = ((each t.0 (in_there s ss t.0 t.1)).allowed b t.2).1 in
      d.0 (subst (λ z. Contains ss z) (sym y ∙ x) t.1))

  selected : (selector : Selector) → Distinct starts → ((s : ElemId) → Contains starts s → IsSelected selector (From s) (kept_of s)) → ((b : Binding) → Allowed b → Contains starts b.start) → IsSelected selector Allowed all
  selected selector d each begins = record {
    distinct = apart selector starts d each;
    allowed = λ b h. (own selector each b h).0;
    complete = complete selector each begins;
  }

pub selections_by_start : SelectionsByStart
selections_by_start g p kept_of d each = selected (IsAllowed g p) g.vertices kept_of p.selector d each (λ b a. a.binding.start)
