-- A binding names rows of the graph's tables, in lists that are at most one longer than its walk.
use Rattle.std.proofs.Common.{◌≡◌, ◌+◌, ◌≤◌, ◌==◌, ℕ, Bool, true, false, cond, not, is_some, refl, ap, sym, ◌∙◌, subst, arith, eqb-true, List, [], ◌∷◌, ◌++◌, map, length, length-append, Contains, inl, inr, Option, Some, None}
use Rattle.std.specs.Prelude.{filter, flat_map, slice_get, option_map}
use Rattle.std.specs.Option.{unwrap_or}
use Rattle.pg_keyed.specs.Lists.{Each, each_append, each_filter}
use Rattle.pg_keyed.specs.Reads.{among_get}
use Rattle.pg_value.specs.declared.shape.ElemId.{ElemId}
use Rattle.pg_value.specs.declared.shape.EdgeNo.{EdgeNo}
use Rattle.pg_value.specs.declared.shape.EdgeShape.{EdgeShape}
use Rattle.pg_value.specs.declared.shape.Shapes.{Shapes}
use Rattle.pg_value.specs.declared.shape.GraphShape.{GraphShape}
use Rattle.pg_value.specs.Order.{place_cmp}
use Rattle.pg_value.specs.Orders.{places}
use Rattle.pg_value.specs.Tables.{Stored, Tables, IsInOrder, held_in, place_of}
use Rattle.pg_value.specs.Graph.{Edge as GraphEdge, vertices, edges, edges_in, edge_of, elem_of}
use Rattle.pg_ast.specs.declared.pattern.Arrow.{Arrow}
use Rattle.pg_ast.specs.declared.pattern.Arrow.TheVariants.{Right, Left, Either}
use Rattle.pg_ast.specs.declared.pattern.Quant.{Quant}
use Rattle.pg_meaning.specs.declared.checked.CFiller.{CFiller}
use Rattle.pg_meaning.specs.declared.checked.CPart.{CPart}
use Rattle.pg_meaning.specs.declared.checked.CPart.TheVariants.{Node, Edge, Group}
use Rattle.pg_meaning.specs.declared.checked.CheckedPath.{CheckedPath}
use Rattle.pg_meaning.specs.Walks.{Graph, Hop, HasEdge, Leads, last_vertex, edges_of, graph_of}
use Rattle.pg_meaning.specs.Rounds.{Leg, Round, group_of, round_of, quant_of}
use Rattle.pg_meaning.specs.Fits.{Mention, elements, mention, node_mention, LegsFit, RoundsFit, Fits, join, seen_on_legs, seen_in, firsts, seen_in_rounds, singles, groups, lists_of}
use Rattle.pg_meaning.specs.Bindings.{Binding, IsBinding}
use Rattle.pg_meaning.specs.EdgeKeys.{Stands, vertex_table, edge_stands, edge_is}
use Rattle.pg_meaning.specs.Members.{from_map, from_flat_map, from_filter_map, in_filter, in_nil}
use Rattle.pg_meaning.specs.Sound.Patterns.{IsSoundPart, IsSoundPath}
use Rattle.pg_meaning.specs.Sound.Queries.{IsRow}
use Rattle.pg_meaning.specs.Sound.Bindings.{IsVertexRow, IsEdgeRow, IsShortList, BindingsStand}
use Rattle.pg_meaning.proofs.ReadLaws.{as_among}

-- ROWS

stored_is_row : (tables : Tables) (s : Stored) → IsInOrder tables → Contains tables s → IsRow tables (elem_of s)
stored_is_row tables s order c = ap is_some (among_get place_of place_cmp places s tables order (as_among tables s c))

vertex_is_row : (g : GraphShape) (tables : Tables) (v : ElemId) → IsInOrder tables → Contains (vertices g tables) v → IsRow tables v
vertex_is_row g tables v order c =
    let t = from_flat_map (λ t. map elem_of (held_in t tables)) g.vertices v c in
    let s = from_map elem_of (held_in t.0 tables) v t.2 in
    subst (IsRow tables) s.2 (stored_is_row tables s.0 order (in_filter (λ (r : Stored). r.table.0 == t.0.0) tables s.0 s.1).0)

pub vertex_row : (g : GraphShape) (tables : Tables) (v : ElemId) → IsInOrder tables → Contains (vertices g tables) v → IsVertexRow g tables v
vertex_row g tables v order c = record { table = vertex_table g tables v c; row = vertex_is_row g tables v order c }

row_in_table : (vs : List ElemId) (tables : Tables) (o : Option EdgeShape) (e : GraphEdge) → IsInOrder tables → Contains (unwrap_or (option_map (edges_in vs tables) o) []) e → IsRow tables e.elem
row_in_table vs tables None e order c = absurd (in_nil e c)
row_in_table vs tables (Some shape) e order c =
    let a = from_filter_map (edge_of vs shape) (held_in shape.table tables) e c in
    let i = edge_is vs shape a.0 e a.2 in
    subst (IsRow tables) (sym i.0) (stored_is_row tables a.0 order (in_filter (λ (r : Stored). r.table.0 == shape.table.0) tables a.0 a.1).0)

edge_row : (shapes : Shapes) (g : GraphShape) (tables : Tables) (e : GraphEdge) → IsInOrder tables → Contains (edges shapes g tables) e → IsEdgeRow shapes g tables e.elem
edge_row shapes g tables e order c =
    let a = from_flat_map (λ (n : EdgeNo). unwrap_or (option_map (edges_in (vertices g tables) tables) (slice_get shapes.edges n.0)) []) g.edges e c in
    let s : Stands shapes g tables e = edge_stands shapes g tables e c in
    record { table = s.table; row = row_in_table (vertices g tables) tables (slice_get shapes.edges a.0.0) e order a.2 }

-- WALKS

module _ (shapes : Shapes) (g : GraphShape) (tables : Tables) (order : IsInOrder tables) where
  abbrev graph : Graph
  graph = graph_of shapes g tables

  -- a hop's edge and its vertex
  pub record IsHop (hop : Hop) : Type 0 where
    pub edge : IsEdgeRow shapes g tables hop.edge
    pub to : IsVertexRow g tables hop.to

  over_edge : (edge a b : ElemId) → HasEdge graph edge a b → IsEdgeRow shapes g tables edge × IsVertexRow g tables a × IsVertexRow g tables b
  over_edge edge a b c =
      let s : Stands shapes g tables (record { elem = edge; source = a; dest = b }) = edge_stands shapes g tables (record { elem = edge; source = a; dest = b }) c in
      (edge_row shapes g tables (record { elem = edge; source = a; dest = b }) order c, vertex_row g tables a order s.source, vertex_row g tables b order s.dest)

  leads_to : (arrow : Arrow) (v : ElemId) (hop : Hop) → Leads graph arrow v hop → IsHop hop
  leads_to Right v hop h = let o = over_edge hop.edge v hop.to h in record { edge = o.0; to = o.2 }
  leads_to Left v hop h = let o = over_edge hop.edge hop.to v h in record { edge = o.0; to = o.1 }
  leads_to Either v hop (inl h) = let o = over_edge hop.edge v hop.to h in record { edge = o.0; to = o.2 }
  leads_to Either v hop (inr h) = let o = over_edge hop.edge hop.to v h in record { edge = o.0; to = o.1 }

  legs_stand : (legs : List Leg) (v : ElemId) (hops : List Hop) → LegsFit graph legs v hops → Each IsHop hops
  legs_stand [] v [] h = tt
  legs_stand [] v (hop ∷ hops) h = absurd h
  legs_stand (leg ∷ legs) v [] h = absurd h
  legs_stand (leg ∷ legs) v (hop ∷ hops) h = (leads_to leg.arrow v hop h.0, legs_stand legs hop.to hops h.3)

  rounds_stand : (round : Round) (v : ElemId) (rounds : List (List Hop)) → RoundsFit graph round v rounds → Each IsHop (join rounds)
  rounds_stand round v [] h = tt
  rounds_stand round v (hops ∷ rounds) h = each_append IsHop hops (join rounds) (legs_stand round.legs v hops h.0.1) (rounds_stand round (last_vertex v hops) rounds h.1)

  pub cuts_stand : (parts : List CPart) (v : ElemId) (cuts : List (List (List Hop))) → Fits graph parts v cuts → Each IsHop (flat_map join cuts)
  cuts_stand [] v [] h = tt
  cuts_stand [] v (rounds ∷ cuts) h = absurd h
  cuts_stand (part ∷ parts) v [] h = absurd h
  cuts_stand (part ∷ parts) v (rounds ∷ cuts) h =
      each_append IsHop (join rounds) (flat_map join cuts) (rounds_stand (round_of part) v rounds h.1) (cuts_stand parts (last_vertex v (join rounds)) cuts h.2)

  -- WHAT IS NAMED

  abbrev IsNamed : Mention → Type 0
  IsNamed m = IsRow tables m.elem

  last_row : (v : ElemId) (hops : List Hop) → IsRow tables v → Each IsHop hops → IsRow tables (last_vertex v hops)
  last_row v [] r h = r
  last_row v (hop ∷ hops) r h = last_row hop.to hops h.0.to.row h.1

  named_by : (var : Option ℕ) (e : ElemId) → IsRow tables e → Each IsNamed (elim var [ None ↦ [] | Some x ↦ record { var = x; elem = e } ∷ [] ])
  named_by None e r = tt
  named_by (Some x) e r = (r, tt)

  node_named : (node : Option CFiller) (e : ElemId) → IsRow tables e → Each IsNamed (node_mention node e)
  node_named None e r = tt
  node_named (Some f) e r = named_by f.var e r

  legs_named : (legs : List Leg) (hops : List Hop) → Each IsHop hops → Each IsNamed (seen_on_legs legs hops)
  legs_named [] hops h = tt
  legs_named (leg ∷ legs) [] h = tt
  legs_named (leg ∷ legs) (hop ∷ hops) h =
      each_append IsNamed (mention leg.edge hop.edge) (node_mention leg.node hop.to ++ seen_on_legs legs hops) (named_by leg.edge.var hop.edge h.0.edge.row)
      (each_append IsNamed (node_mention leg.node hop.to) (seen_on_legs legs hops) (node_named leg.node hop.to h.0.to.row) (legs_named legs hops h.1))

  round_named : (round : Round) (v : ElemId) (hops : List Hop) → IsRow tables v → Each IsHop hops → Each IsNamed (seen_in round v hops)
  round_named round v hops r h = each_append IsNamed (node_mention round.node v) (seen_on_legs round.legs hops) (node_named round.node v r) (legs_named round.legs hops h)

  firsts_named : (ms : List Mention) → Each IsNamed ms → Each IsNamed (firsts ms)
  firsts_named [] h = tt
  firsts_named (m ∷ ms) h = (h.0, each_filter IsNamed (λ n. not (n.var == m.var)) (firsts ms) (firsts_named ms h.1))

  hops_left : (xs ys : List Hop) → Each IsHop (xs ++ ys) → Each IsHop xs
  hops_left [] ys h = tt
  hops_left (x ∷ xs) ys h = (h.0, hops_left xs ys h.1)

  hops_right : (xs ys : List Hop) → Each IsHop (xs ++ ys) → Each IsHop ys
  hops_right [] ys h = h
  hops_right (x ∷ xs) ys h = hops_right xs ys h.1

  rounds_named : (round : Round) (v : ElemId) (rounds : List (List Hop)) → IsRow tables v → Each IsHop (join rounds) → Each IsNamed (seen_in_rounds round v rounds)
  rounds_named round v [] r h = tt
  rounds_named round v (hops ∷ rounds) r h =
      let own = hops_left hops (join rounds) h in
      each_append IsNamed (firsts (seen_in round v hops)) (seen_in_rounds round (last_vertex v hops) rounds) (firsts_named (seen_in round v hops) (round_named round v hops r own))
      (rounds_named round (last_vertex v hops) rounds (last_row v hops r own) (hops_right hops (join rounds) h))

  singles_named : (parts : List CPart) (v : ElemId) (cuts : List (List (List Hop))) → IsRow tables v → Each IsHop (flat_map join cuts) → Each IsNamed (singles parts v cuts)
  singles_named [] v cuts r h = tt
  singles_named (part ∷ parts) v [] r h = tt
  singles_named (part ∷ parts) v (rounds ∷ cuts) r h =
      let own = hops_left (join rounds) (flat_map join cuts) h in
      go (quant_of part) own (singles_named parts (last_vertex v (join rounds)) cuts (last_row v (join rounds) r own) (hops_right (join rounds) (flat_map join cuts) h))
    where
      rest : List Mention
      rest = singles parts (last_vertex v (join rounds)) cuts

      go : (o : Option Quant) → Each IsHop (join rounds) → Each IsNamed rest → Each IsNamed ((elim o [ None ↦ seen_in (round_of part) v (join rounds) | Some q ↦ [] ]) ++ rest)
      go None own more = each_append IsNamed (seen_in (round_of part) v (join rounds)) rest (round_named (round_of part) v (join rounds) r own) more
      go (Some q) own more = more

  groups_named : (parts : List CPart) (v : ElemId) (cuts : List (List (List Hop))) → IsRow tables v → Each IsHop (flat_map join cuts) → Each IsNamed (groups parts v cuts)
  groups_named [] v cuts r h = tt
  groups_named (part ∷ parts) v [] r h = tt
  groups_named (part ∷ parts) v (rounds ∷ cuts) r h =
      let own = hops_left (join rounds) (flat_map join cuts) h in
      go (quant_of part) own (groups_named parts (last_vertex v (join rounds)) cuts (last_row v (join rounds) r own) (hops_right (join rounds) (flat_map join cuts) h))
    where
      rest : List Mention
      rest = groups parts (last_vertex v (join rounds)) cuts

      go : (o : Option Quant) → Each IsHop (join rounds) → Each IsNamed rest → Each IsNamed ((elim o [ None ↦ [] | Some q ↦ seen_in_rounds (round_of part) v rounds ]) ++ rest)
      go None own more = more
      go (Some q) own more = each_append IsNamed (seen_in_rounds (round_of part) v rounds) rest (rounds_named (round_of part) v rounds r own) more

  elements_rows : (ms : List Mention) (x : ℕ) → Each IsNamed ms → Each (IsRow tables) (elements ms x)
  elements_rows ms x h = mapped (filter (λ m. m.var == x) ms) (each_filter IsNamed (λ m. m.var == x) ms h)
    where
      mapped : (ns : List Mention) → Each IsNamed ns → Each (IsRow tables) (map (λ (m : Mention). m.elem) ns)
      mapped [] k = tt
      mapped (n ∷ ns) k = (k.0, mapped ns k.1)

  pub lists_rows : (parts : List CPart) (v : ElemId) (cuts : List (List (List Hop))) (x : ℕ) → IsRow tables v → Each IsHop (flat_map join cuts) → Each (IsRow tables) (lists_of parts v cuts x)
  lists_rows parts v cuts x r h =
      elements_rows (firsts (singles parts v cuts) ++ groups parts v cuts) x
      (each_append IsNamed (firsts (singles parts v cuts)) (groups parts v cuts) (firsts_named (singles parts v cuts) (singles_named parts v cuts r h)) (groups_named parts v cuts r h))

-- THE LENGTHS OF LISTS

abbrev pub count : List Mention → ℕ → ℕ
count ms x = length (elements ms x)

pub elements_append : (ms ns : List Mention) (x : ℕ) → elements (ms ++ ns) x ≡ elements ms x ++ elements ns x
elements_append [] ns x = refl
elements_append (m ∷ ms) ns x = go (m.var == x) (elements_append ms ns x)
  where
    go : (b : Bool) → elements (ms ++ ns) x ≡ elements ms x ++ elements ns x
        → map (λ (n : Mention). n.elem) (cond b (m ∷ filter (λ n. n.var == x) (ms ++ ns)) (filter (λ n. n.var == x) (ms ++ ns)))
        ≡ map (λ (n : Mention). n.elem) (cond b (m ∷ filter (λ n. n.var == x) ms) (filter (λ n. n.var == x) ms)) ++ elements ns x
    go true r = ap (λ es. m.elem ∷ es) r
    go false r = r

count_append : (ms ns : List Mention) (x : ℕ) → count (ms ++ ns) x ≡ count ms x + count ns x
count_append ms ns x = ap length (elements_append ms ns x) ∙ length-append (elements ms x) (elements ns x)

-- without the mentions of a variable none is left of it, and no more of others
others_fewer : (y x : ℕ) (ms : List Mention) → count (filter (λ n. not (n.var == y)) ms) x ≤ count ms x
others_fewer y x [] = omega arith
others_fewer y x (m ∷ ms) = go (m.var == y) (m.var == x) refl (others_fewer y x ms)
  where
    others : List Mention
    others = filter (λ n. not (n.var == y)) ms

    one : (a : Bool) → (m.var == x) ≡ a → count (m ∷ others) x ≡ length (map (λ (n : Mention). n.elem) (cond a (m ∷ filter (λ n. n.var == x) others) (filter (λ n. n.var == x) others)))
    one a e = ap (λ b. length (map (λ (n : Mention). n.elem) (cond b (m ∷ filter (λ n. n.var == x) others) (filter (λ n. n.var == x) others)))) e

    go : (b a : Bool) → (m.var == x) ≡ a → count others x ≤ count ms x
        → count (cond (not b) (m ∷ others) others) x ≤ length (map (λ (n : Mention). n.elem) (cond a (m ∷ filter (λ n. n.var == x) ms) (filter (λ n. n.var == x) ms)))
    go true true e r = omega (arith, r)
    go true false e r = r
    go false true e r = let o = one true e in omega (arith, o, r)
    go false false e r = let o = one false e in omega (arith, o, r)

none_left : (y x : ℕ) → y ≡ x → (ms : List Mention) → count (filter (λ n. not (n.var == y)) ms) x ≡ 0
none_left y x h [] = refl
none_left y x h (m ∷ ms) = go (m.var == y) refl (none_left y x h ms)
  where
    others : List Mention
    others = filter (λ n. not (n.var == y)) ms

    go : (b : Bool) → (m.var == y) ≡ b → count others x ≡ 0 → count (cond (not b) (m ∷ others) others) x ≡ 0
    go true e r = r
    go false e r = ap (λ c. length (map (λ (n : Mention). n.elem) (cond c (m ∷ filter (λ n. n.var == x) others) (filter (λ n. n.var == x) others)))) (ap (λ z. m.var == z) (sym h) ∙ e) ∙ r

-- each variable once
pub firsts_once : (ms : List Mention) (x : ℕ) → count (firsts ms) x ≤ 1
firsts_once [] x = omega arith
firsts_once (m ∷ ms) x = go (m.var == x) refl (firsts_once ms x)
  where
    others : List Mention
    others = filter (λ n. not (n.var == m.var)) (firsts ms)

    go : (b : Bool) → (m.var == x) ≡ b → count (firsts ms) x ≤ 1 → length (map (λ (n : Mention). n.elem) (cond b (m ∷ filter (λ n. n.var == x) others) (filter (λ n. n.var == x) others))) ≤ 1
    go true e rest = let none = none_left m.var x (eqb-true m.var x e) (firsts ms) in omega (arith, none)
    go false e rest = let fewer = others_fewer m.var x (firsts ms) in omega (arith, fewer, rest)

-- a part that may be repeated has a leg in each of its rounds
legs_there : (shapes : Shapes) (g : GraphShape) (part : CPart) (q : Quant) → quant_of part ≡ Some q → IsSoundPart shapes g part → 1 ≤ length (round_of part).legs
legs_there shapes g (Node f) q e s = absurd (none_is q e)
  where
    none_is : {X : Type 0} (x : X) → None ≡ Some x → ⊥
    none_is x h = cc
legs_there shapes g (Edge arrow f quant) q e s = omega arith
legs_there shapes g (Group nodes arrows edges condition quant) q e s = go nodes arrows edges s.2 s.3 s.4
  where
    go : (ns : List CFiller) (ws : List Arrow) (es : List CFiller) → length ns ≡ length es + 1 → length ws ≡ length es → 1 ≤ length es → 1 ≤ length (group_of ns ws es condition).legs
    go ns ws [] a b c = absurd (omega (arith, c))
    go ns [] (x ∷ es) a b c = absurd (omega (arith, b))
    go [] (w ∷ ws) (x ∷ es) a b c = absurd (omega (arith, a))
    go (n ∷ []) (w ∷ ws) (x ∷ es) a b c = absurd (omega (arith, a))
    go (n ∷ k ∷ ns) (w ∷ ws) (x ∷ es) a b c = omega arith

legs_hops : (g : Graph) (legs : List Leg) (v : ElemId) (hops : List Hop) → LegsFit g legs v hops → length legs ≡ length hops
legs_hops g [] v [] h = refl
legs_hops g [] v (hop ∷ hops) h = absurd h
legs_hops g (leg ∷ legs) v [] h = absurd h
legs_hops g (leg ∷ legs) v (hop ∷ hops) h = let r = legs_hops g legs hop.to hops h.3 in omega (arith, r)

-- of a variable there are no more elements than hops
rounds_short : (g : Graph) (round : Round) (v : ElemId) (rounds : List (List Hop)) (x : ℕ) → 1 ≤ length round.legs → RoundsFit g round v rounds → count (seen_in_rounds round v rounds) x ≤ length (join rounds)
rounds_short g round v [] x l h = omega arith
rounds_short g round v (hops ∷ rounds) x l h =
    let rest = rounds_short g round (last_vertex v hops) rounds x l h.1 in
    let once = firsts_once (seen_in round v hops) x in
    let both = count_append (firsts (seen_in round v hops)) (seen_in_rounds round (last_vertex v hops) rounds) x in
    let same = legs_hops g round.legs v hops h.0.1 in
    let all = length-append hops (join rounds) in
    omega (arith, rest, once, both, same, all, l)

groups_short : (shapes : Shapes) (shape : GraphShape) (g : Graph) (parts : List CPart) (v : ElemId) (cuts : List (List (List Hop))) (x : ℕ) → Each (IsSoundPart shapes shape) parts → Fits g parts v cuts
    → count (groups parts v cuts) x ≤ length (flat_map join cuts)
groups_short shapes shape g [] v [] x s h = omega arith
groups_short shapes shape g [] v (rounds ∷ cuts) x s h = absurd h
groups_short shapes shape g (part ∷ parts) v [] x s h = absurd h
groups_short shapes shape g (part ∷ parts) v (rounds ∷ cuts) x s h = go (quant_of part) refl (groups_short shapes shape g parts (last_vertex v (join rounds)) cuts x s.1 h.2)
  where
    more : List Mention
    more = groups parts (last_vertex v (join rounds)) cuts

    all : length (join rounds ++ flat_map join cuts) ≡ length (join rounds) + length (flat_map join cuts)
    all = length-append (join rounds) (flat_map join cuts)

    go : (o : Option Quant) → quant_of part ≡ o → count more x ≤ length (flat_map join cuts)
        → count ((elim o [ None ↦ [] | Some q ↦ seen_in_rounds (round_of part) v rounds ]) ++ more) x ≤ length (join rounds ++ flat_map join cuts)
    go None e r = let a = all in omega (arith, a, r)
    go (Some q) e r =
        let own = rounds_short g (round_of part) v rounds x (legs_there shapes shape part q e s.0) h.1 in
        let both = count_append (seen_in_rounds (round_of part) v rounds) more x in
        let a = all in
        omega (arith, a, r, own, both)

-- BINDINGS

pub list_short : (shapes : Shapes) (shape : GraphShape) (g : Graph) (parts : List CPart) (v : ElemId) (cuts : List (List (List Hop))) (x : ℕ) → Each (IsSoundPart shapes shape) parts → Fits g parts v cuts
    → length (lists_of parts v cuts x) ≤ length (flat_map join cuts) + 1
list_short shapes shape g parts v cuts x s h =
    let both = count_append (firsts (singles parts v cuts)) (groups parts v cuts) x in
    let once = firsts_once (singles parts v cuts) x in
    let rest = groups_short shapes shape g parts v cuts x s h in
    omega (arith, both, once, rest)

-- each list of a binding
pub binding_lists : (shapes : Shapes) (tables : Tables) (p : CheckedPath) (b : Binding) → IsSoundPath shapes p → (order : IsInOrder tables) → (i : IsBinding (graph_of shapes p.graph tables) p b) → (x : ℕ)
    → IsShortList tables (length b.hops) (lists_of p.parts b.start i.cuts x)
binding_lists shapes tables p b sound order i x =
    let g : Graph = graph_of shapes p.graph tables in
    let start : IsVertexRow p.graph tables b.start = vertex_row p.graph tables b.start order i.start in
    let hops = cuts_stand shapes p.graph tables order p.parts b.start i.cuts i.fits in
    record {
      rows = lists_rows shapes p.graph tables order p.parts b.start i.cuts x start.row hops;
      short = subst (λ n. length (lists_of p.parts b.start i.cuts x) ≤ n + 1) (sym (ap length i.hops)) (list_short shapes p.graph g p.parts b.start i.cuts x sound.parts i.fits);
    }

pub bindings_stand : BindingsStand
bindings_stand shapes tables p b sound order i =
    let start : IsVertexRow p.graph tables b.start = vertex_row p.graph tables b.start order i.start in
    let hops = subst (Each (IsHop shapes p.graph tables order)) (sym i.hops) (cuts_stand shapes p.graph tables order p.parts b.start i.cuts i.fits) in
    record {
      vertices = (start, of_vertices b.hops hops);
      edges = of_edges b.hops hops;
      lists = subst (Each (IsShortList tables (length b.hops))) (sym i.vars) (of_lists p.vars);
    }
  where
    of_vertices : (hops : List Hop) → Each (IsHop shapes p.graph tables order) hops → Each (IsVertexRow p.graph tables) (map (λ (hop : Hop). hop.to) hops)
    of_vertices [] h = tt
    of_vertices (hop ∷ hops) h = (h.0.to, of_vertices hops h.1)

    of_edges : (hops : List Hop) → Each (IsHop shapes p.graph tables order) hops → Each (IsEdgeRow shapes p.graph tables) (edges_of hops)
    of_edges [] h = tt
    of_edges (hop ∷ hops) h = (h.0.edge, of_edges hops h.1)

    of_lists : (xs : List ℕ) → Each (IsShortList tables (length b.hops)) (map (lists_of p.parts b.start i.cuts) xs)
    of_lists [] = tt
    of_lists (x ∷ xs) = (binding_lists shapes tables p b sound order i x, of_lists xs)
