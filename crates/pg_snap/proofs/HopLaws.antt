-- The edges at a vertex, of which the vertices at the other ends stand, are the neighbours of the vertex.
use Rattle.std.proofs.Common.{ℕ, ◌≡◌, ◌==◌, ◌&&◌, is_some, Bool, true, false, cond, List, [], ◌∷◌, map, refl, ap, sym, ◌∙◌}
use Rattle.std.specs.Prelude.{slice_get}
use Rattle.std.proofs.lemmas.Bool.{eqb-true}
use Rattle.std.proofs.lemmas.Cmp.{tied_itself}
use Rattle.std.specs.Cmp.{nat_cmp_total}
use Rattle.std.specs.declared.option.Option.{Option}
use Rattle.std.specs.declared.option.Option.TheVariants.{Some, None}
use Rattle.std.specs.declared.cmp.Ordering.{Ordering}
use Rattle.std.specs.declared.cmp.Ordering.TheVariants.{Less, Equal, Greater}
use Rattle.std.specs.Ordering.{is_eq, ordering_then}
use Rattle.std.specs.Option.{option_map, unwrap_or}
use Rattle.std.specs.List.{filter_map, cons_option}
use Rattle.pg_keyed.specs.Lists.{Each, each_kept, each_map}
use Rattle.pg_keyed.specs.Orders.{turn, is_equal}
use Rattle.pg_value.specs.declared.value.Value.{Value}
use Rattle.pg_value.specs.declared.value.Dir.{Dir}
use Rattle.pg_value.specs.declared.value.Dir.TheVariants.{Out, In}
use Rattle.pg_value.specs.declared.row.Key.{Key}
use Rattle.pg_value.specs.declared.shape.TableNo.{TableNo}
use Rattle.pg_value.specs.declared.shape.ElemId.{ElemId}
use Rattle.pg_value.specs.declared.shape.EdgeNo.{EdgeNo}
use Rattle.pg_value.specs.declared.shape.EdgeShape.{EdgeShape}
use Rattle.pg_value.specs.declared.shape.Shapes.{Shapes}
use Rattle.pg_value.specs.Order.{key_cmp, place_cmp}
use Rattle.pg_value.specs.Orders.{keys}
use Rattle.pg_value.specs.Tables.{Stored, Tables, held_in, stored_at, pick}
use Rattle.pg_value.specs.Graph.{Edge, edge_between, elem_of, same_elem}
use Rattle.pg_meaning.specs.Walks.{Hop}
use Rattle.pg_meaning.specs.Reads.{edge_at, edges_at, over_edge}
use Rattle.pg_adj.specs.declared.ends.EdgeEnds.{EdgeEnds}
use Rattle.pg_adj.specs.Entries.{Entry, entry, is_at, entries_at}
use Rattle.pg_view.specs.declared.view.Neighbour.{Neighbour}
use Rattle.pg_view.specs.RowEnds.{has_key, between, ends_in, all_ends}
use Rattle.pg_view.specs.Neighbours.{end_table, other_table, neighbour, neighbours_over, neighbours_at}
use Rattle.pg_view.specs.Standing.{standing, all_standing, standing_at}

-- ONE ROW

same_in : (t : ℕ) (p k : List Value) → is_eq (place_cmp (t, p) (t, k)) ≡ is_eq (key_cmp k p)
same_in t p k = ap (λ r. is_eq (ordering_then r (key_cmp p k))) (tied_itself nat_cmp_total t) ∙ go (key_cmp k p) refl
  where
    go : (r : Ordering) → key_cmp k p ≡ r → is_eq (key_cmp p k) ≡ is_eq r
    go Less e = ap is_eq (turn keys k p Less e)
    go Equal e = ap is_eq (turn keys k p Equal e)
    go Greater e = ap is_eq (turn keys k p Greater e)

true_false : true ≡ false → ⊥
true_false h = cc

-- an edge is kept where both ends stand and the vertex is at that end; then that end stands as the vertex does
kept : (nb : Neighbour) (hop : Hop) → nb ≡ neighbour hop → (e sv sp sq : Bool) → (e ≡ true → sp ≡ sv) → cond sv (cond e (cond sq (Some nb) None) None) None ≡ cond sp (cond sq (option_map neighbour (cond e (Some hop) None)) None) None
kept nb hop n true true true true h = ap Some n
kept nb hop n true true true false h = refl
kept nb hop n true true false sq h = absurd (true_false (sym (h refl)))
kept nb hop n true false true sq h = absurd (true_false (h refl))
kept nb hop n true false false sq h = refl
kept nb hop n false true true true h = refl
kept nb hop n false true true false h = refl
kept nb hop n false true false sq h = refl
kept nb hop n false false true true h = refl
kept nb hop n false false true false h = refl
kept nb hop n false false false sq h = refl

abbrev over : Dir → ElemId → Option Edge → Option Neighbour
over dir v None = None
over dir v (Some e) = option_map neighbour (over_edge dir v e)

module _ (tables : Tables) (shape : EdgeShape) (key : Key) where
  abbrev stands : TableNo → List Value → Bool
  stands t k = is_some (stored_at (t.0, k) tables)

  abbrev vertex : Dir → ElemId
  vertex dir = record { table = end_table shape dir; key = key }

  abbrev keep : Dir → Option EdgeEnds → Option Neighbour
  keep dir None = None
  keep dir (Some e) = cond (is_at key.values (entry dir e)) (standing tables shape.table (other_table shape dir) (entry dir e).edge (entry dir e).other) None

  abbrev edge_if : (a b sp sq : Bool) (p q : List Value) (elem : ElemId) → Option Edge
  edge_if a b sp sq p q elem = edge_between (cond (a && sp) (Some (record { table = shape.source; key = record { values = p } })) None) (cond (b && sq) (Some (record { table = shape.dest; key = record { values = q } })) None) elem

  abbrev ends_if : (a b : Bool) (p q : List Value) (e : Key) → Option EdgeEnds
  ends_if a b p q e = between e (cond a (Some (record { values = p })) None) (cond b (Some (record { values = q })) None)

  same_stands : (t : TableNo) (p : List Value) → is_eq (key_cmp key.values p) ≡ true → stands t p ≡ stands t key.values
  same_stands t p h = ap (stands t) (sym (keys.exact key.values p (is_equal _ h)))

  nothing : (dir : Dir) (b : Bool) → cond b None None ≡ over dir (vertex dir) None
  nothing dir true = refl
  nothing dir false = refl

  module _ (p q : List Value) (s : Stored) (of : s.table ≡ shape.table) where
    out_both : (sp sq : Bool) → over Out (vertex Out) (edge_if true true sp sq p q (elem_of s))
        ≡ cond sp (cond sq (option_map neighbour (cond (same_elem (record { table = shape.source; key = record { values = p } }) (vertex Out)) (Some (record { edge = elem_of s; to = record { table = shape.dest; key = record { values = q } } })) None)) None) None
    out_both true true = refl
    out_both true false = refl
    out_both false true = refl
    out_both false false = refl

    in_both : (sp sq : Bool) → over In (vertex In) (edge_if true true sp sq p q (elem_of s))
        ≡ cond sq (cond sp (option_map neighbour (cond (same_elem (record { table = shape.dest; key = record { values = q } }) (vertex In)) (Some (record { edge = elem_of s; to = record { table = shape.source; key = record { values = p } } })) None)) None) None
    in_both true true = refl
    in_both true false = refl
    in_both false true = refl
    in_both false false = refl

    out_row : (a b : Bool) → cond (stands shape.source key.values) (keep Out (ends_if a b p q s.key)) None ≡ over Out (vertex Out) (edge_if a b (stands shape.source p) (stands shape.dest q) p q (elem_of s))
    out_row true true =
        kept _ _ (λ i. record { edge = record { table = sym of i; key = s.key }; other = record { table = shape.dest; key = record { values = q } } }) (is_eq (key_cmp key.values p)) (stands shape.source key.values) (stands shape.source p) (stands shape.dest q) (same_stands shape.source p)
        ∙ ap (λ e. cond (stands shape.source p) (cond (stands shape.dest q) (option_map neighbour (cond e (Some (record { edge = elem_of s; to = record { table = shape.dest; key = record { values = q } } })) None)) None) None) (sym (same_in shape.source.0 p key.values))
        ∙ sym (out_both (stands shape.source p) (stands shape.dest q))
    out_row true false = elim (stands shape.source p) as (λ sp. cond (stands shape.source key.values) None None ≡ over Out (vertex Out) (edge_if true false sp (stands shape.dest q) p q (elem_of s))) [ true ↦ nothing Out (stands shape.source key.values) | false ↦ nothing Out (stands shape.source key.values) ]
    out_row false true = nothing Out (stands shape.source key.values)
    out_row false false = nothing Out (stands shape.source key.values)

    in_row : (a b : Bool) → cond (stands shape.dest key.values) (keep In (ends_if a b p q s.key)) None ≡ over In (vertex In) (edge_if a b (stands shape.source p) (stands shape.dest q) p q (elem_of s))
    in_row true true =
        kept _ _ (λ i. record { edge = record { table = sym of i; key = s.key }; other = record { table = shape.source; key = record { values = p } } }) (is_eq (key_cmp key.values q)) (stands shape.dest key.values) (stands shape.dest q) (stands shape.source p) (same_stands shape.dest q)
        ∙ ap (λ e. cond (stands shape.dest q) (cond (stands shape.source p) (option_map neighbour (cond e (Some (record { edge = elem_of s; to = record { table = shape.source; key = record { values = p } } })) None)) None) None) (sym (same_in shape.dest.0 q key.values))
        ∙ sym (in_both (stands shape.source p) (stands shape.dest q))
    in_row true false = elim (stands shape.source p) as (λ sp. cond (stands shape.dest key.values) None None ≡ over In (vertex In) (edge_if true false sp (stands shape.dest q) p q (elem_of s))) [ true ↦ nothing In (stands shape.dest key.values) | false ↦ nothing In (stands shape.dest key.values) ]
    in_row false true = nothing In (stands shape.dest key.values)
    in_row false false = nothing In (stands shape.dest key.values)

  row : (dir : Dir) (s : Stored) → s.table ≡ shape.table → cond (stands (end_table shape dir) key.values) (keep dir (ends_in shape s)) None ≡ over dir (vertex dir) (edge_at tables shape s)
  row Out s of = out_row (pick shape.source_columns s.row.values) (pick shape.dest_columns s.row.values) s of (has_key shape.source_columns s.row.values) (has_key shape.dest_columns s.row.values)
  row In s of = in_row (pick shape.source_columns s.row.values) (pick shape.dest_columns s.row.values) s of (has_key shape.source_columns s.row.values) (has_key shape.dest_columns s.row.values)

  -- ALL ROWS

  abbrev Own : List Stored → Type 0
  Own rows = Each (λ s. s.table ≡ shape.table) rows

  right_step : (dir : Dir) (o : Option Edge) (xs : List Edge) → map neighbour (filter_map (over_edge dir (vertex dir)) (cons_option o xs)) ≡ cons_option (over dir (vertex dir) o) (map neighbour (filter_map (over_edge dir (vertex dir)) xs))
  right_step dir None xs = refl
  right_step dir (Some e) xs = elim (over_edge dir (vertex dir) e) as (λ h. map neighbour (cons_option h (filter_map (over_edge dir (vertex dir)) xs)) ≡ cons_option (option_map neighbour h) (map neighbour (filter_map (over_edge dir (vertex dir)) xs))) [ None ↦ refl | Some h ↦ refl ]

  right : (dir : Dir) (rows : List Stored) → map neighbour (filter_map (over_edge dir (vertex dir)) (filter_map (edge_at tables shape) rows)) ≡ filter_map (λ s. over dir (vertex dir) (edge_at tables shape s)) rows
  right dir [] = refl
  right dir (s ∷ rows) = right_step dir (edge_at tables shape s) (filter_map (edge_at tables shape) rows) ∙ ap (cons_option (over dir (vertex dir) (edge_at tables shape s))) (right dir rows)

  abbrev given : Dir → Entry → Option Neighbour
  given dir x = standing tables shape.table (other_table shape dir) x.edge x.other

  abbrev at : Dir → List EdgeEnds → List Entry
  at dir ends = entries_at dir key.values ends

  left_step : (dir : Dir) (o : Option EdgeEnds) (xs : List EdgeEnds) → filter_map (given dir) (at dir (cons_option o xs)) ≡ cons_option (keep dir o) (filter_map (given dir) (at dir xs))
  left_step dir None xs = refl
  left_step dir (Some e) xs = elim (is_at key.values (entry dir e)) as (λ b. filter_map (given dir) (cond b (entry dir e ∷ at dir xs) (at dir xs)) ≡ cons_option (cond b (given dir (entry dir e)) None) (filter_map (given dir) (at dir xs))) [ true ↦ refl | false ↦ refl ]

  left : (dir : Dir) (rows : List Stored) → filter_map (given dir) (at dir (all_ends shape rows)) ≡ filter_map (λ s. keep dir (ends_in shape s)) rows
  left dir [] = refl
  left dir (s ∷ rows) = left_step dir (ends_in shape s) (all_ends shape rows) ∙ ap (cons_option (keep dir (ends_in shape s))) (left dir rows)

  zipped : (dir : Dir) (xs : List Entry) → all_standing tables shape.table (other_table shape dir) (map (λ e. e.edge) xs) (map (λ e. e.other) xs) ≡ filter_map (given dir) xs
  zipped dir [] = refl
  zipped dir (x ∷ xs) = ap (cons_option (given dir x)) (zipped dir xs)

  where_stands : (dir : Dir) (rows : List Stored) → Own rows → stands (end_table shape dir) key.values ≡ true → filter_map (λ s. keep dir (ends_in shape s)) rows ≡ filter_map (λ s. over dir (vertex dir) (edge_at tables shape s)) rows
  where_stands dir [] own h = refl
  where_stands dir (s ∷ rows) own h =
      let one : keep dir (ends_in shape s) ≡ over dir (vertex dir) (edge_at tables shape s) = ap (λ b. cond b (keep dir (ends_in shape s)) None) (sym h) ∙ row dir s own.0 in
      λ i. cons_option (one i) (where_stands dir rows own.1 h i)

  where_none : (dir : Dir) (rows : List Stored) → Own rows → stands (end_table shape dir) key.values ≡ false → [] ≡ filter_map (λ s. over dir (vertex dir) (edge_at tables shape s)) rows
  where_none dir [] own h = refl
  where_none dir (s ∷ rows) own h =
      let one : None ≡ over dir (vertex dir) (edge_at tables shape s) = ap (λ b. cond b (keep dir (ends_in shape s)) None) (sym h) ∙ row dir s own.0 in
      λ i. cons_option (one i) (where_none dir rows own.1 h i)

  own_rows : Own (held_in shape.table tables)
  own_rows = each_map (λ s. (s.table.0 == shape.table.0) ≡ true) (λ s. s.table ≡ shape.table) (λ s h i. record { 0 = eqb-true s.table.0 shape.table.0 h i }) (held_in shape.table tables) (each_kept (λ s. s.table.0 == shape.table.0) tables)

  standing_are : (shapes : Shapes) (e : EdgeNo) (dir : Dir) → slice_get shapes.edges e.0 ≡ Some shape → stands (end_table shape dir) key.values ≡ true → standing_at tables shape dir key ≡ neighbours_at shapes tables e dir key
  standing_are shapes e dir g h =
      zipped dir (at dir (all_ends shape (held_in shape.table tables))) ∙ left dir (held_in shape.table tables) ∙ where_stands dir (held_in shape.table tables) own_rows h ∙ sym (right dir (held_in shape.table tables))
      ∙ sym (ap (λ o. unwrap_or (option_map (neighbours_over shapes tables e dir key) o) []) g ∙ ap (λ o. map neighbour (unwrap_or (option_map (λ sh. filter_map (over_edge dir (vertex dir)) (edges_at tables sh)) o) [])) g)

  none_are : (shapes : Shapes) (e : EdgeNo) (dir : Dir) → slice_get shapes.edges e.0 ≡ Some shape → stands (end_table shape dir) key.values ≡ false → [] ≡ neighbours_at shapes tables e dir key
  none_are shapes e dir g h =
      where_none dir (held_in shape.table tables) own_rows h ∙ sym (right dir (held_in shape.table tables))
      ∙ sym (ap (λ o. unwrap_or (option_map (neighbours_over shapes tables e dir key) o) []) g ∙ ap (λ o. map neighbour (unwrap_or (option_map (λ sh. filter_map (over_edge dir (vertex dir)) (edges_at tables sh)) o) [])) g)

-- where the vertex stands, and where it does not
pub neighbours_found : (tables : Tables) (shapes : Shapes) (shape : EdgeShape) (e : EdgeNo) (dir : Dir) (key : Key) → slice_get shapes.edges e.0 ≡ Some shape → is_some (stored_at ((end_table shape dir).0, key.values) tables) ≡ true
    → standing_at tables shape dir key ≡ neighbours_at shapes tables e dir key
neighbours_found tables shapes shape e dir key g h = standing_are tables shape key shapes e dir g h

pub neighbours_none : (tables : Tables) (shapes : Shapes) (shape : EdgeShape) (e : EdgeNo) (dir : Dir) (key : Key) → slice_get shapes.edges e.0 ≡ Some shape → is_some (stored_at ((end_table shape dir).0, key.values) tables) ≡ false
    → [] ≡ neighbours_at shapes tables e dir key
neighbours_none tables shapes shape e dir key g h = none_are tables shape key shapes e dir g h
