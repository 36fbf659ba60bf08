-- The law of the query of one edge, and that an answer may be put into another order.
use Rattle.std.proofs.Common.{◌≡◌, ◌==◌, ◌<◌, ℕ, zero, suc, ne_eqb, Bool, false, cond, List, [], ◌∷◌, map, get_or, Contains, refl, ap, sym, ◌∙◌, subst, arith}
use Rattle.std.specs.Prelude.{Some, None, flat_map, IsPermutation}
use Rattle.std.proofs.lemmas.List.Sorted.{IsPermutation-refl, IsPermutation-trans}
use Rattle.std.proofs.lemmas.Nat.Bits.{bit_at_ones}
use Rattle.pg_value.specs.declared.row.Row.{Row}
use Rattle.pg_value.specs.declared.shape.TableNo.{TableNo}
use Rattle.pg_value.specs.declared.shape.TableSet.{TableSet}
use Rattle.pg_value.specs.declared.shape.Shapes.{Shapes}
use Rattle.pg_value.specs.declared.shape.GraphShape.{GraphShape}
use Rattle.pg_value.specs.Tables.{Tables, IsInOrder}
use Rattle.pg_value.specs.Graph.{Edge, edges}
use Rattle.pg_ast.specs.declared.pattern.Arrow.TheVariants.{Right}
use Rattle.pg_meaning.specs.declared.checked.CheckedColumn.{CheckedColumn}
use Rattle.pg_meaning.specs.declared.checked.CheckedQuery.{CheckedQuery}
use Rattle.pg_meaning.specs.CExprs.{ctree_of}
use Rattle.pg_meaning.specs.Meaning.{OfVars, value_of}
use Rattle.pg_meaning.specs.Walks.{Graph, Hop, HasEdge, graph_of, last_vertex}
use Rattle.pg_meaning.specs.Fits.{Fits, HasTable, join, lists_of, singles}
use Rattle.pg_meaning.specs.Bindings.{Binding, IsAllowed, Distinct, Selected}
use Rattle.pg_meaning.specs.Answers.{Answer, Joins, VarList, ListsAgree, assigned, lists_in, row_of, elems_found}
pub use Rattle.pg_meaning.specs.HopQuery.{of_table, one_hop_parts, one_hop_path, one_hop_query, AdmitsAll, all_tables, table_of, edge_tables, bind, one_hop_vars, one_hop_row, Suits, OneHopBindings, OneHopAnswers}
use Rattle.pg_meaning.specs.Members.{in_nil, in_map, from_map, not_in_cons, distinct_map, same_item, zip_one}
use Rattle.pg_meaning.specs.Cuts.{agree_by, one_agrees, node_rounds, one_edge}
use Rattle.pg_meaning.specs.EdgeKeys.{edge_stands, distinct_edges, vertex_table}

-- the set of all tables has those of a graph, of which each is below 64
pub all_admitted : (tables : List TableNo) → ((t : TableNo) → Contains tables t → t.0 < 64) → AdmitsAll all_tables tables
all_admitted tables below t c = bit_at_ones 64 t.0 (below t c)

-- THE BINDINGS ARE THE EDGES

three_differ : Distinct {X = ℕ} (0 ∷ 1 ∷ 2 ∷ [])
three_differ = (
  not_in_cons 1 (2 ∷ []) 0 (λ e. omega arith) (not_in_cons 2 [] 0 (λ e. omega arith) (in_nil 0)),
  (not_in_cons 2 [] 1 (λ e. omega arith) (in_nil 1), (in_nil 2, tt)),
)

-- the ends of an edge stand, and the sets have the tables
pub record Stood (g : Graph) (vs es : TableSet) (e : Edge) : Type 0 where
  pub source : Contains g.vertices e.source
  pub from_set : HasTable vs e.source.table
  pub edge_set : HasTable es e.elem.table
  pub to_set : HasTable vs e.dest.table

bound : (g : Graph) (shape : GraphShape) (vs es : TableSet) (e : Edge) → Contains g.edges e → Stood g vs es e → IsAllowed g (one_hop_path shape vs es) (bind e)
bound g shape vs es e c s = record {
  binding = record {
    start = s.source;
    cuts = ([] ∷ []) ∷ ((record { edge = e.elem; to = e.dest } ∷ []) ∷ []) ∷ ([] ∷ []) ∷ [];
    hops = refl;
    fits = (
      refl,
      (((s.from_set, tt), tt, one_agrees 0 e.source, tt), tt),
      (refl, ((tt, (c, (s.edge_set, tt), tt, tt), one_agrees 1 e.elem, tt), tt), (refl, (((s.to_set, tt), tt, one_agrees 2 e.dest, tt), tt), tt)),
    );
    agree = agree_by (singles (one_hop_parts vs es) e.source (([] ∷ []) ∷ ((record { edge = e.elem; to = e.dest } ∷ []) ∷ []) ∷ ([] ∷ []) ∷ [])) three_differ;
    vars = refl;
  };
  permitted = tt;
}

back : (g : Graph) (vs es : TableSet) (b : Binding) (cuts : List (List (List Hop))) → b.hops ≡ flat_map join cuts → Fits g (one_hop_parts vs es) b.start cuts
    → b.vars ≡ map (lists_of (one_hop_parts vs es) b.start cuts) (0 ∷ 1 ∷ 2 ∷ []) → (e : Edge) × Contains g.edges e × (bind e ≡ b)
back g vs es b [] h f l = absurd f
back g vs es b (r ∷ []) h f l = absurd f.2
back g vs es b (r ∷ s ∷ []) h f l = absurd f.2.2
back g vs es b (r ∷ s ∷ t ∷ u ∷ cuts) h f l = absurd f.2.2.2
back g vs es b (r ∷ s ∷ t ∷ []) h f l =
    let p = node_rounds g (of_table 0 vs) b.start r f.0 f.1 in
    let q = one_edge g Right (of_table 1 es) (last_vertex b.start (join r)) s f.2.0 f.2.1 in
    let w = node_rounds g (of_table 2 vs) (last_vertex (last_vertex b.start (join r)) (join s)) t f.2.2.0 f.2.2.1 in
    let e : Edge = record { elem = q.0.edge; source = b.start; dest = q.0.to } in
    let c : Contains g.edges e = subst (λ r. HasEdge g q.0.edge (last_vertex b.start (join r)) q.0.to) p q.2 in
    let hops : b.hops ≡ q.0 ∷ [] = h ∙ (λ i. flat_map join (p i ∷ q.1 i ∷ w i ∷ [])) in
    let vars : b.vars ≡ (bind e).vars = l ∙ (λ i. map (lists_of (one_hop_parts vs es) b.start (p i ∷ q.1 i ∷ w i ∷ [])) (0 ∷ 1 ∷ 2 ∷ [])) in
    (e, c, λ i. record { start = b.start; hops = sym hops i; vars = sym vars i })

bind_back : (a b : Edge) → bind a ≡ bind b → a ≡ b
bind_back a b h =
    let source : a.source ≡ b.source = ap (λ z. z.start) h in
    let hop : Hop = record { edge = a.elem; to = a.dest } in
    let elem : a.elem ≡ b.elem = ap (λ z. (get_or z.hops 0 hop).edge) h in
    let dest : a.dest ≡ b.dest = ap (λ z. (get_or z.hops 0 hop).to) h in
    λ i. record { elem = elem i; source = source i; dest = dest i }

pub one_hop_selected_in : (g : Graph) (shape : GraphShape) (vs es : TableSet) → Distinct g.edges → ((e : Edge) → Contains g.edges e → Stood g vs es e)
    → Selected g (one_hop_path shape vs es) (map bind g.edges)
one_hop_selected_in g shape vs es d stood = record {
  distinct = distinct_map bind bind_back g.edges d;
  allowed = λ b c. let m = from_map bind g.edges b c in subst (λ z. IsAllowed g (one_hop_path shape vs es) z) m.2 (bound g shape vs es m.0 m.1 (stood m.0 m.1));
  complete = λ b a. let m = back g vs es b a.binding.cuts a.binding.hops a.binding.fits a.binding.vars in subst (λ z. Contains (map bind g.edges) z) m.2 (in_map bind g.edges m.0 m.1);
}

-- of the graph that tables in order hold
pub one_hop_selected : (shapes : Shapes) (g : GraphShape) (tables : Tables) (vs es : TableSet) → IsInOrder tables → Distinct (edge_tables shapes g)
    → AdmitsAll vs g.vertices → AdmitsAll es (edge_tables shapes g) → Selected (graph_of shapes g tables) (one_hop_path g vs es) (map bind (edges shapes g tables))
one_hop_selected shapes g tables vs es h d va ea =
    one_hop_selected_in (graph_of shapes g tables) g vs es (distinct_edges shapes g tables h d) (λ e c.
    let s = edge_stands shapes g tables e c in
    record {
      source = s.source;
      from_set = va e.source.table (vertex_table g tables e.source s.source);
      edge_set = ea e.elem.table s.table;
      to_set = va e.dest.table (vertex_table g tables e.dest s.dest);
    })

-- THE ROWS ARE THE EDGES' ROWS

passed3 : (a b c : Bool) → a ≡ false → b ≡ false → c ≡ false → (k l m : VarList) → cond a (Some k) (cond b (Some l) (cond c (Some m) None)) ≡ None
passed3 a b c p q r k l m = rw (p, q, r) refl

lists_bound : (g : GraphShape) (vs es : TableSet) (e : Edge) (x : ℕ) → assigned (lists_in (one_hop_path g vs es ∷ []) (bind e ∷ [])) x ≡ one_hop_vars e x
lists_bound g vs es e zero = refl
lists_bound g vs es e (suc zero) = refl
lists_bound g vs es e (suc (suc zero)) = refl
lists_bound g vs es e (suc (suc (suc x))) =
    let a : (0 == suc (suc (suc x))) ≡ false = ne_eqb 0 (suc (suc (suc x))) (λ h. omega arith) in
    let b : (1 == suc (suc (suc x))) ≡ false = ne_eqb 1 (suc (suc (suc x))) (λ h. omega arith) in
    let c : (2 == suc (suc (suc x))) ≡ false = ne_eqb 2 (suc (suc (suc x))) (λ h. omega arith) in
    ap elems_found (passed3 (0 == suc (suc (suc x))) (1 == suc (suc (suc x))) (2 == suc (suc (suc x))) a b c
    (record { var = 0; elems = e.source ∷ [] }) (record { var = 1; elems = e.elem ∷ [] }) (record { var = 2; elems = e.dest ∷ [] }))

abbrev alone : Binding → List Binding
alone b = b ∷ []

row_bound : (g : GraphShape) (tables : Tables) (vs es : TableSet) (columns : List CheckedColumn) (e : Edge)
    → row_of tables (one_hop_query g vs es columns) (alone (bind e)) ≡ one_hop_row tables columns e
row_bound g tables vs es columns e = λ i. record { values = map (λ c. value_of (ctree_of c.expr) (OfVars tables (λ x. lists_bound g vs es e x i))) columns }

rows_bound : (g : GraphShape) (tables : Tables) (vs es : TableSet) (columns : List CheckedColumn) (all : List Edge)
    → map (row_of tables (one_hop_query g vs es columns)) (map alone (map bind all)) ≡ map (one_hop_row tables columns) all
rows_bound g tables vs es columns [] = refl
rows_bound g tables vs es columns (e ∷ all) = λ i. row_bound g tables vs es columns e i ∷ rows_bound g tables vs es columns all i

lists_agree : (g : GraphShape) (vs es : TableSet) (e : Edge) → ListsAgree (lists_in (one_hop_path g vs es ∷ []) (alone (bind e)))
lists_agree g vs es e a b p q h = ap (λ z. z.elems) (same_item (λ l. l.var) (lists_in (one_hop_path g vs es ∷ []) (alone (bind e))) a b three_differ p q h)

joins : (g : GraphShape) (tables : Tables) (vs es : TableSet) (columns : List CheckedColumn) (all : List Edge) (b : Binding) → Contains (map bind all) b
    → Joins tables (one_hop_query g vs es columns) (map bind all ∷ []) (alone b)
joins g tables vs es columns all b c = record {
  members = (c, tt);
  agree = (let m = from_map bind all b c in subst (λ z. ListsAgree (lists_in (one_hop_path g vs es ∷ []) (alone z))) m.2 (lists_agree g vs es m.0));
  where_true = tt;
}

pub answer_of : (shapes : Shapes) (g : GraphShape) (tables : Tables) (vs es : TableSet) (columns : List CheckedColumn) (rows : List Row) → IsInOrder tables
    → Distinct (edge_tables shapes g) → AdmitsAll vs g.vertices → AdmitsAll es (edge_tables shapes g)
    → rows ≡ map (one_hop_row tables columns) (edges shapes g tables) → Answer shapes tables (one_hop_query g vs es columns) rows
answer_of shapes g tables vs es columns rows h d va ea r =
    let all = edges shapes g tables in
    let q = one_hop_query g vs es columns in
    let chosen = one_hop_selected shapes g tables vs es h d va ea in
    record {
      kept = map bind all ∷ [];
      selected = (chosen, tt);
      joined = map alone (map bind all);
      distinct = distinct_map alone (λ a b e. ap (λ z. get_or z 0 a) e) (map bind all) chosen.distinct;
      exactly = λ tuple. (
        λ c. let m = from_map alone (map bind all) tuple c in subst (λ z. Joins tables q (map bind all ∷ []) z) m.2 (joins g tables vs es columns all m.0 m.1),
        λ j. let m = zip_one (map bind all) tuple j.members in subst (λ z. Contains (map alone (map bind all)) z) (sym m.2) (in_map alone (map bind all) m.0 m.1),
      );
      listed = subst (λ z. IsPermutation (map (row_of tables q) (map alone (map bind all))) z) (rows_bound g tables vs es columns all ∙ sym r) (IsPermutation-refl (map (row_of tables q) (map alone (map bind all))));
    }

-- an answer in another order is an answer
pub answer_reordered : (shapes : Shapes) (tables : Tables) (q : CheckedQuery) (rows more : List Row) → IsPermutation rows more → Answer shapes tables q rows → Answer shapes tables q more
answer_reordered shapes tables q rows more p a = record {
  kept = a.kept;
  selected = a.selected;
  joined = a.joined;
  distinct = a.distinct;
  exactly = a.exactly;
  listed = IsPermutation-trans (map (row_of tables q) a.joined) rows more a.listed p;
}

pub one_hop_bindings : OneHopBindings
one_hop_bindings shapes g tables vs es s = one_hop_selected shapes g tables vs es s.in_order s.differ s.vertices s.edges

pub one_hop_answers : OneHopAnswers
one_hop_answers shapes g tables vs es columns rows s p =
    answer_reordered shapes tables (one_hop_query g vs es columns) (map (one_hop_row tables columns) (edges shapes g tables)) rows p
    (answer_of shapes g tables vs es columns (map (one_hop_row tables columns) (edges shapes g tables)) s.in_order s.differ s.vertices s.edges refl)
