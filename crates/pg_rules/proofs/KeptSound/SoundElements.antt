-- An element table of an accepted definition is sound: its table stands, and its properties' columns with their kinds.
use Rattle.std.proofs.Common.{◌≡◌, ◌+◌, ℕ, suc, Bool, true, false, not, refl, ap, sym, ◌∙◌, subst, arith, List, [], ◌∷◌, map, Contains, is_some}
use Rattle.std.proofs.lemmas.Bool.{eqb-true}
use Rattle.std.specs.Prelude.{slice_get}
use Rattle.std.specs.List.{flat_map}
use Rattle.std.specs.declared.option.Option.{Option}
use Rattle.std.specs.declared.option.Option.TheVariants.{Some, None}
use Rattle.pg_keyed.specs.Lists.{Each, each_append}
use Rattle.pg_ast.specs.declared.expr.Name.{Name}
use Rattle.pg_ast.specs.declared.define.PropDef.{PropDef}
use Rattle.pg_ast.specs.declared.define.Props.{Props}
use Rattle.pg_ast.specs.declared.define.Props.TheVariants as props
use Rattle.pg_ast.specs.declared.define.LabelDef.{LabelDef}
use Rattle.pg_ast.specs.declared.define.Labels.{Labels}
use Rattle.pg_ast.specs.declared.define.Labels.TheVariants as labels
use Rattle.pg_meaning.specs.Members.{in_map, from_flat_map}
use Rattle.pg_rules.specs.declared.entry.ColumnEntry.{ColumnEntry}
use Rattle.pg_rules.specs.declared.entry.PropertyEntry.{PropertyEntry}
use Rattle.pg_rules.specs.declared.entry.LabelEntry.{LabelEntry}
use Rattle.pg_rules.specs.declared.entry.ElementEntry.{ElementEntry}
use Rattle.pg_rules.specs.Places.{place_if}
use Rattle.pg_rules.specs.Catalog.{Tables}
use Rattle.pg_rules.specs.Catalog.LookUps.{table_in, column_place, columns_named, columns_in}
use Rattle.pg_rules.specs.Catalog.Sound.{IsSoundProperty, IsSoundElement, properties_in}
use Rattle.pg_rules.specs.Definitions.Entries.{all_from, property_of, properties_of, label_of, labels_of, element_of, kind_in}
use Rattle.pg_rules.specs.Definitions.Graphs.{Row, rows_of, rows, missing, column_names, missing_listed, missing_labelled, is_place, first_column, two_columns}
use Rattle.pg_rules.proofs.KeptSound.EmptyPlaces.{left_nil, right_nil, no_place, is_not, is_there}
use Rattle.pg_rules.proofs.KeptSound.Lists.{in_flat_map, no_item}
use Rattle.pg_rules.proofs.KeptSound.Columns.{IsColumn, is_column, IsTable, is_table}

-- A NAME OF A COLUMN

pub known_column : (columns : List ColumnEntry) (n : Name) → place_if (not (is_some (column_place columns n.text))) n.at ≡ [] → IsColumn columns n
known_column columns n h =
    let known : is_some (column_place columns n.text) ≡ true = is_not (is_some (column_place columns n.text)) (no_place (not (is_some (column_place columns n.text))) n.at h) in
    let there : (p : ℕ) × (column_place columns n.text ≡ Some p) = is_there (column_place columns n.text) known in
    is_column columns n there.0 there.1

-- PROPERTIES

all_sound : (columns : List ColumnEntry) (from : ℕ) (cs : List ColumnEntry) → ((k : ℕ) → slice_get columns (from + k) ≡ slice_get cs k) → Each (IsSoundProperty columns) (all_from from cs)
all_sound columns from [] same = tt
all_sound columns from (c ∷ cs) same =
    let first : from ≡ from + 0 = omega arith in (
      record { column = c; stands = ap (slice_get columns) first ∙ same 0; kind = refl },
      all_sound columns (from + 1) cs (λ k. let next : (from + 1) + k ≡ from + suc k = omega arith in ap (slice_get columns) next ∙ same (suc k)),
    )

property_sound : (columns : List ColumnEntry) (p : PropDef) → IsColumn columns p.column → IsSoundProperty columns (property_of columns p)
property_sound columns p c = record { column = c.column; stands = c.stands; kind = ap kind_in c.stands }

listed_sound : (columns : List ColumnEntry) (ps : List PropDef) → missing columns (column_names ps) ≡ [] → Each (IsSoundProperty columns) (map (property_of columns) ps)
listed_sound columns [] h = tt
listed_sound columns (p ∷ ps) h =
    let own : List ℕ = place_if (not (is_some (column_place columns p.column.text))) p.column.at in (
      property_sound columns p (known_column columns p.column (left_nil own (missing columns (column_names ps)) h)),
      listed_sound columns ps (right_nil own (missing columns (column_names ps)) h),
    )

props_sound : (columns : List ColumnEntry) (ps : Props) → missing_listed columns ps ≡ [] → Each (IsSoundProperty columns) (properties_of columns ps)
props_sound columns props.All h = all_sound columns 0 columns (λ k. let same : 0 + k ≡ k = omega arith in ap (slice_get columns) same)
props_sound columns (props.Listed ps) h = listed_sound columns ps h

-- LABELS

abbrev pub all_of : List LabelEntry → List PropertyEntry
all_of ls = flat_map (λ (l : LabelEntry). l.properties) ls

given_sound : (columns : List ColumnEntry) (ls : List LabelDef) → flat_map (λ (l : LabelDef). missing_listed columns l.props) ls ≡ [] → Each (IsSoundProperty columns) (all_of (map (label_of columns) ls))
given_sound columns [] h = tt
given_sound columns (l ∷ ls) h =
    let later : List ℕ = flat_map (λ (l : LabelDef). missing_listed columns l.props) ls in
    each_append (IsSoundProperty columns) (properties_of columns l.props) (all_of (map (label_of columns) ls))
    (props_sound columns l.props (left_nil (missing_listed columns l.props) later h)) (given_sound columns ls (right_nil (missing_listed columns l.props) later h))

labels_sound : (columns : List ColumnEntry) (table : Name) (ls : Labels) → missing_labelled columns ls ≡ [] → Each (IsSoundProperty columns) (all_of (labels_of columns table ls))
labels_sound columns table (labels.Own ps) h = each_append (IsSoundProperty columns) (properties_of columns ps) [] (props_sound columns ps h) tt
labels_sound columns table (labels.Given ls) h = given_sound columns ls h

-- ONE COLUMN FOR A PROPERTY'S NAME

-- a property of an element table stands in one of its rows
pub record IsInRow (e : ElementEntry) (p : PropertyEntry) : Type 0 where
  pub row : Row
  pub among : Contains (rows e) row
  pub is : row.property ≡ p

pub in_row : (e : ElementEntry) (p : PropertyEntry) → Contains (properties_in e) p → IsInRow e p
in_row e p c =
    let l = from_flat_map (λ (l : LabelEntry). l.properties) e.labels p c in
    let row : Row = record { label = l.0.name; property = p } in
    let own : Contains (rows_of l.0) row = in_map (λ (q : PropertyEntry). record { label = l.0.name; property = q }) l.0.properties p l.2 in
    record { row = row; among = in_flat_map rows_of e.labels l.0 row l.1 own; is = refl }

place_is : (o : Option ℕ) (p : ℕ) → is_place o p ≡ true → o ≡ Some p
place_is None p h = absurd (cc)
place_is (Some q) p h = ap Some (eqb-true q p h)

first_is : (e : ElementEntry) (p : PropertyEntry) → two_columns (rows e) ≡ false → Contains (properties_in e) p → first_column (rows e) p.name ≡ Some p.column
first_is e p h c =
    let r : IsInRow e p = in_row e p c in
    let test : Bool = is_place (first_column (rows e) r.row.property.name) r.row.property.column in
    let here : test ≡ true = is_not test (no_item (λ (q : Row). not (is_place (first_column (rows e) q.property.name) q.property.column)) (rows e) r.row h r.among) in
    let first : first_column (rows e) r.row.property.name ≡ Some r.row.property.column = place_is (first_column (rows e) r.row.property.name) r.row.property.column here in
    subst (λ (q : PropertyEntry). first_column (rows e) q.name ≡ Some q.column) r.is first

one_column : (e : ElementEntry) → two_columns (rows e) ≡ false → (p q : PropertyEntry) → Contains (properties_in e) p → Contains (properties_in e) q → p.name ≡ q.name → p.column ≡ q.column
one_column e h p q a b same =
    let both : Some p.column ≡ Some q.column = sym (first_is e p h a) ∙ ap (first_column (rows e)) same ∙ first_is e q h b in
    cc

-- AN ELEMENT TABLE

pub element_sound : (tables : Tables) (table : Name) (ls : Labels) → is_some (table_in tables table.text) ≡ true → missing_labelled (columns_named tables table.text) ls ≡ []
    → two_columns (rows (element_of tables table ls)) ≡ false → IsSoundElement tables (element_of tables table ls)
element_sound tables table ls there known one =
    let t : IsTable tables table.text = is_table tables table.text there in
    record {
      table = t.table;
      stands = t.stands;
      properties = subst (λ (cs : List ColumnEntry). Each (IsSoundProperty cs) (properties_in (element_of tables table ls))) (ap columns_in t.found) (labels_sound (columns_named tables table.text) table ls known);
      one_column = one_column (element_of tables table ls) one;
    }
