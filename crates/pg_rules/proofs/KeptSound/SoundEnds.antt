-- An end of an edge table of an accepted definition is sound: a vertex table of the graph, named by columns of the kinds of its key.
use Rattle.std.proofs.Common.{◌≡◌, ℕ, zero, suc, Bool, true, false, not, ◌||◌, refl, ap, sym, ◌∙◌, subst, List, [], ◌∷◌, map, Contains, is_some}
use Rattle.std.specs.Prelude.{slice_get}
use Rattle.std.specs.Option.{unwrap_or}
use Rattle.std.specs.List.{AllZip}
use Rattle.std.specs.Str.{bytes_eq}
use Rattle.std.specs.declared.option.Option.{Option}
use Rattle.std.specs.declared.option.Option.TheVariants.{Some, None}
use Rattle.pg_keyed.specs.Lists.{Each}
use Rattle.pg_value.specs.declared.shape.TableNo.{TableNo}
use Rattle.pg_value.specs.declared.value.Kind.{Kind}
use Rattle.pg_value.specs.declared.value.Kind.TheVariants as kinds
use Rattle.pg_value.specs.Kinds.{same_kind}
use Rattle.pg_ast.specs.declared.expr.Name.{Name}
use Rattle.pg_ast.specs.declared.define.VertexDef.{VertexDef}
use Rattle.pg_ast.specs.declared.define.EndDef.{EndDef}
use Rattle.pg_ast.specs.declared.define.GraphDef.{GraphDef}
use Rattle.pg_meaning.specs.Members.{in_map, from_map, from_any}
use Rattle.pg_rules.specs.declared.entry.ColumnEntry.{ColumnEntry}
use Rattle.pg_rules.specs.declared.entry.TableEntry.{TableEntry}
use Rattle.pg_rules.specs.declared.entry.ElementEntry.{ElementEntry}
use Rattle.pg_rules.specs.Catalog.{Tables}
use Rattle.pg_rules.specs.Catalog.LookUps.{table_in, table_named, column_place, columns_in, key_in, columns_named, key_named}
use Rattle.pg_rules.specs.Catalog.Sound.{IsKeyColumn, IsSoundTable, IsOfKey, IsSoundEnd}
use Rattle.pg_rules.specs.Definitions.Tables.{member, place_of}
use Rattle.pg_rules.specs.Definitions.Entries.{kind_in, kind_at, number_of, vertex_of, places_in, graph_of}
use Rattle.pg_rules.specs.Definitions.Graphs.{vertex_texts, no_vertex, pairwise, has_kind, fits_column}
use Rattle.pg_rules.proofs.KeptSound.EmptyPlaces.{no_place, is_not}
use Rattle.pg_rules.proofs.KeptSound.Lists.{and_left, and_right, or_left, or_right, same_bytes}
use Rattle.pg_rules.proofs.KeptSound.Columns.{IsColumn, is_column, IsTable, is_table}

-- KINDS

pub kinds_same : (a b : Kind) → same_kind a b ≡ true → a ≡ b
kinds_same kinds.Int kinds.Int h = refl
kinds_same kinds.Int kinds.Text h = absurd (cc)
kinds_same kinds.Int kinds.Bool h = absurd (cc)
kinds_same kinds.Text kinds.Int h = absurd (cc)
kinds_same kinds.Text kinds.Text h = refl
kinds_same kinds.Text kinds.Bool h = absurd (cc)
kinds_same kinds.Bool kinds.Int h = absurd (cc)
kinds_same kinds.Bool kinds.Text h = absurd (cc)
kinds_same kinds.Bool kinds.Bool h = refl

kind_is : (columns : List ColumnEntry) (o : Option ℕ) (kind : Kind) → has_kind columns o kind ≡ true → (p : ℕ) × (o ≡ Some p) × (kind_at columns p ≡ kind)
kind_is columns None kind h = absurd (cc)
kind_is columns (Some p) kind h = (p, refl, kinds_same (kind_at columns p) kind h)

-- COLUMNS THAT NAME A KEY

of_key : (columns others : List ColumnEntry) (n : Name) (k : ℕ) → fits_column columns others n k ≡ true → IsKeyColumn others k → IsOfKey columns others (place_of columns n) k
of_key columns others n k h key =
    let own : (p : ℕ) × (column_place columns n.text ≡ Some p) × (kind_at columns p ≡ kind_at others k) = kind_is columns (column_place columns n.text) (kind_at others k) h in
    let c : IsColumn columns n = is_column columns n own.0 own.1 in
    let place : place_of columns n ≡ own.0 = ap (λ (o : Option ℕ). unwrap_or o 0) own.1 in
    record {
      column = c.column;
      key_column = key.column;
      stands = c.stands;
      key_stands = key.stands;
      same_kind = sym (ap kind_in c.stands) ∙ ap (kind_at columns) place ∙ own.2 ∙ ap kind_in key.stands;
    }

names_key : (columns others : List ColumnEntry) (names : List Name) (key : List ℕ) → pairwise (fits_column columns others) names key ≡ true → Each (IsKeyColumn others) key
    → AllZip (IsOfKey columns others) (map (place_of columns) names) key
names_key columns others [] [] h s = tt
names_key columns others [] (k ∷ ks) h s = absurd (cc)
names_key columns others (n ∷ ns) [] h s = absurd (cc)
names_key columns others (n ∷ ns) (k ∷ ks) h s =
    let fits : Bool = fits_column columns others n k in
    let more : Bool = pairwise (fits_column columns others) ns ks in
    (of_key columns others n k (and_left fits more h) s.0, names_key columns others ns ks (and_right fits more h) s.1)

-- THE REFERENCED TABLE

stands_each : {X : Type 0} (P : X → Type 0) (xs : List X) (i : ℕ) (x : X) → Each P xs → slice_get xs i ≡ Some x → P x
stands_each P [] i x h s = absurd (cc)
stands_each P (y ∷ xs) zero x h s = let e : y ≡ x = cc in subst P e h.0
stands_each P (y ∷ xs) (suc i) x h s = stands_each P xs i x h.1 s

-- a text of a vertex table has the number of one
vertex_among : (tables : Tables) (vertices : List VertexDef) (text : List ℕ) → member text (vertex_texts vertices) ≡ true
    → Contains (map (λ (e : ElementEntry). e.table) (map (vertex_of tables) vertices)) (number_of tables text)
vertex_among tables vertices text h =
    let found = from_any (bytes_eq text) (vertex_texts vertices) h in
    let v = from_map (λ (x : VertexDef). x.table.text) vertices found.0 found.1 in
    let same : v.0.table.text ≡ text = v.2 ∙ sym (same_bytes text found.0 found.2) in
    subst (λ (n : TableNo). Contains (map (λ (e : ElementEntry). e.table) (map (vertex_of tables) vertices)) n) (ap (number_of tables) same)
    (in_map (λ (e : ElementEntry). e.table) (map (vertex_of tables) vertices) (vertex_of tables v.0) (in_map (vertex_of tables) vertices v.0 v.1))

pub end_sound : (tables : Tables) (g : GraphDef) (table : Name) (own : List ℕ × TableEntry) (end : EndDef) → Each (λ (t : List ℕ × TableEntry). IsSoundTable t.1) tables
    → table_named tables table.text ≡ Some own → no_vertex tables (vertex_texts g.vertices) end.table ≡ []
    → pairwise (fits_column (columns_named tables table.text) (columns_named tables end.table.text)) end.columns (key_named tables end.table.text) ≡ true
    → IsSoundEnd tables (graph_of tables g) own.1.columns (number_of tables end.table.text) (places_in tables table end.columns)
end_sound tables g table own end sound is there fits =
    let text : List ℕ = end.table.text in
    let no_table : Bool = not (is_some (table_in tables text)) in
    let other : Bool = not (member text (vertex_texts g.vertices)) in
    let right : (no_table || other) ≡ false = no_place (no_table || other) end.table.at there in
    let t : IsTable tables text = is_table tables text (is_not (is_some (table_in tables text)) (or_left no_table other right)) in
    let key : Each (IsKeyColumn t.table.1.columns) t.table.1.key = (stands_each (λ (u : List ℕ × TableEntry). IsSoundTable u.1) tables (number_of tables text).0 t.table sound t.stands).key in
    let columns : columns_named tables table.text ≡ own.1.columns = ap columns_in is in
    let others : columns_named tables text ≡ t.table.1.columns = ap columns_in t.found in
    let keys : key_named tables text ≡ t.table.1.key = ap key_in t.found in
    let fit : pairwise (fits_column own.1.columns t.table.1.columns) end.columns t.table.1.key ≡ true = (λ i. pairwise (fits_column (sym columns i) (sym others i)) end.columns (sym keys i)) ∙ fits in
    record {
      vertex = vertex_among tables g.vertices text (is_not (member text (vertex_texts g.vertices)) (or_right no_table other right));
      table = t.table;
      stands = t.stands;
      names_key = subst (λ (cs : List ColumnEntry). AllZip (IsOfKey own.1.columns t.table.1.columns) (map (place_of cs) end.columns) t.table.1.key) (sym columns)
          (names_key own.1.columns t.table.1.columns end.columns t.table.1.key fit key);
    }
