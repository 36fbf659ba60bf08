-- A vertex of another table than an edge table names at that end has no neighbours there.
use Rattle.std.proofs.Common.{◌≡◌, ◌==◌, ◌&&◌, ℕ, Bool, true, false, cond, not, List, [], Contains, refl, ap, sym, ◌∙◌, eq-eqb}
use Rattle.std.specs.Prelude.{Option, Some, None, option_map, is_some, slice_get, filter_map}
use Rattle.std.specs.Option.{unwrap_or}
use Rattle.std.specs.List.{list_all}
use Rattle.pg_value.specs.declared.value.Dir.{Dir}
use Rattle.pg_value.specs.declared.value.Dir.TheVariants.{Out, In}
use Rattle.pg_value.specs.declared.row.Row.{Row}
use Rattle.pg_value.specs.declared.shape.ElemId.{ElemId}
use Rattle.pg_value.specs.declared.shape.TableNo.{TableNo}
use Rattle.pg_value.specs.declared.shape.EdgeNo.{EdgeNo}
use Rattle.pg_value.specs.declared.shape.EdgeShape.{EdgeShape}
use Rattle.pg_value.specs.declared.shape.Shapes.{Shapes}
use Rattle.pg_value.specs.Compare.{is_null}
use Rattle.pg_value.specs.Tables.{Tables, held_in, stored_at, pick}
use Rattle.pg_value.specs.Graph.{Edge, edge_between, elem_of, elem_place, same_elem}
use Rattle.pg_meaning.specs.EdgeKeys.{same_is}
use Rattle.pg_meaning.specs.Members.{from_filter_map, nothing_in}
use Rattle.pg_meaning.specs.Walks.{Hop}
use Rattle.pg_meaning.specs.Reads.{end_at, edge_at, edges_at, over_edge, neighbours_of}

-- the table of the vertices at an end
abbrev pub table_at : EdgeShape → Dir → TableNo
table_at shape Out = shape.source
table_at shape In = shape.dest

none_is : {X : Type 0} (x : X) → None ≡ Some x → ⊥
none_is x h = cc

some_is : {X : Type 0} (x y : X) → Some x ≡ Some y → x ≡ y
some_is x y h = cc

end_table_is : (tables : Tables) (t : TableNo) (columns : List ℕ) (row : Row) (e : ElemId) → end_at tables t columns row ≡ Some e → t ≡ e.table
end_table_is tables t columns row e h = go (list_all (λ v. not (is_null v)) (pick columns row.values) && is_some (stored_at (elem_place elem) tables)) h
  where
    elem : ElemId
    elem = record { table = t; key = record { values = pick columns row.values } }

    go : (b : Bool) → cond b (Some (record { table = t; key = record { values = pick columns row.values } })) None ≡ Some e → t ≡ e.table
    go true k = ap (λ (z : ElemId). z.table) (some_is (record { table = t; key = record { values = pick columns row.values } }) e k)
    go false k = absurd (none_is e k)

-- the ends of an edge are what its row names
between_ends : (a b : Option ElemId) (x : ElemId) (e : Edge) → edge_between a b x ≡ Some e → (a ≡ Some e.source) × (b ≡ Some e.dest)
between_ends (Some a) (Some b) x e h = let same = some_is (record { elem = x; source = a; dest = b }) e h in (ap (λ (z : Edge). Some z.source) same, ap (λ (z : Edge). Some z.dest) same)
between_ends None b x e h = absurd (none_is e h)
between_ends (Some a) None x e h = absurd (none_is e h)

over_end : (dir : Dir) (v : ElemId) (e : Edge) (hop : Hop) → over_edge dir v e ≡ Some hop → elim dir as (λ _. ElemId) [ Out ↦ e.source | In ↦ e.dest ] ≡ v
over_end Out v e hop h = go (same_elem e.source v) refl h
  where
    go : (b : Bool) → same_elem e.source v ≡ b → cond b (Some (record { edge = e.elem; to = e.dest })) None ≡ Some hop → e.source ≡ v
    go true s k = same_is e.source v s
    go false s k = absurd (none_is hop k)
over_end In v e hop h = go (same_elem e.dest v) refl h
  where
    go : (b : Bool) → same_elem e.dest v ≡ b → cond b (Some (record { edge = e.elem; to = e.source })) None ≡ Some hop → e.dest ≡ v
    go true s k = same_is e.dest v s
    go false s k = absurd (none_is hop k)

-- a neighbour's vertex is of the table at that end
of_table : (tables : Tables) (shape : EdgeShape) (dir : Dir) (v : ElemId) (hop : Hop) → Contains (filter_map (over_edge dir v) (edges_at tables shape)) hop → table_at shape dir ≡ v.table
of_table tables shape dir v hop c = by dir (over_end dir v e.0 hop e.2)
  where
    e : (x : Edge) × Contains (edges_at tables shape) x × (over_edge dir v x ≡ Some hop)
    e = from_filter_map (over_edge dir v) (edges_at tables shape) hop c

    ends : (table_at shape Out ≡ e.0.source.table) × (table_at shape In ≡ e.0.dest.table)
    ends =
        let s = from_filter_map (edge_at tables shape) (held_in shape.table tables) e.0 e.1 in
        let b = between_ends (end_at tables shape.source shape.source_columns s.0.row) (end_at tables shape.dest shape.dest_columns s.0.row) (elem_of s.0) e.0 s.2 in
        (end_table_is tables shape.source shape.source_columns s.0.row e.0.source b.0, end_table_is tables shape.dest shape.dest_columns s.0.row e.0.dest b.1)

    by : (d : Dir) → elim d as (λ _. ElemId) [ Out ↦ e.0.source | In ↦ e.0.dest ] ≡ v → table_at shape d ≡ v.table
    by Out h = ends.0 ∙ ap (λ (z : ElemId). z.table) h
    by In h = ends.1 ∙ ap (λ (z : ElemId). z.table) h

pub no_neighbours : (shapes : Shapes) (tables : Tables) (n : EdgeNo) (dir : Dir) (v : ElemId) (shape : EdgeShape) → slice_get shapes.edges n.0 ≡ Some shape → ((table_at shape dir).0 == v.table.0) ≡ false
    → neighbours_of shapes tables n dir v ≡ []
no_neighbours shapes tables n dir v shape stands other =
    ap (λ (o : Option EdgeShape). unwrap_or (option_map (λ (s : EdgeShape). filter_map (over_edge dir v) (edges_at tables s)) o) []) stands
    ∙ nothing_in (filter_map (over_edge dir v) (edges_at tables shape)) (λ hop c. true_false (sym (eq-eqb (table_at shape dir).0 v.table.0 (ap (λ (t : TableNo). t.0) (of_table tables shape dir v hop c))) ∙ other))
  where
    true_false : true ≡ false → ⊥
    true_false h = cc
