-- In a graph of an accepted definition a property's name has one kind.
use Rattle.std.proofs.Common.{◌≡◌, Bool, true, false, not, ◌&&◌, ap, sym, ◌∙◌, subst, List, [], ◌∷◌, map, Contains, inl, inr}
use Rattle.std.specs.Prelude.{slice_get}
use Rattle.std.specs.List.{flat_map}
use Rattle.std.specs.Str.{bytes_eq}
use Rattle.std.specs.declared.option.Option.TheVariants.{Some}
use Rattle.pg_keyed.specs.Lists.{Each}
use Rattle.pg_value.specs.Kinds.{same_kind}
use Rattle.pg_meaning.specs.Members.{in_nil, in_append, from_map, from_flat_map}
use Rattle.pg_rules.specs.declared.entry.ColumnEntry.{ColumnEntry}
use Rattle.pg_rules.specs.declared.entry.PropertyEntry.{PropertyEntry}
use Rattle.pg_rules.specs.declared.entry.ElementEntry.{ElementEntry}
use Rattle.pg_rules.specs.declared.entry.PlacedElement.{PlacedElement}
use Rattle.pg_rules.specs.Places.{place_if}
use Rattle.pg_rules.specs.Catalog.{Tables}
use Rattle.pg_rules.specs.Catalog.Sound.{IsSoundProperty, IsSoundElement, properties_in}
use Rattle.pg_rules.specs.Definitions.Graphs.{Row, rows, has_other_kind, clash, at_if, later_of}
use Rattle.pg_rules.proofs.KeptSound.EmptyPlaces.{left_nil, right_nil, each_nil, no_place, is_not}
use Rattle.pg_rules.proofs.KeptSound.Lists.{each_at, no_item, bytes_same}
use Rattle.pg_rules.proofs.KeptSound.SoundElements.{IsInRow, in_row}
use Rattle.pg_rules.proofs.KeptSound.SoundEnds.{kinds_same}

abbrev pub OneKind : ElementEntry → Type 0
OneKind e = (p q : PropertyEntry) → Contains (properties_in e) p → Contains (properties_in e) q → p.name ≡ q.name → p.kind ≡ q.kind

-- in one element table, since there a name means one column
pub own_kind : (tables : Tables) (e : ElementEntry) → IsSoundElement tables e → OneKind e
own_kind tables e s p q a b same =
    let columns : List ColumnEntry = s.table.1.columns in
    let c : IsSoundProperty columns p = each_at (IsSoundProperty columns) (properties_in e) p s.properties a in
    let d : IsSoundProperty columns q = each_at (IsSoundProperty columns) (properties_in e) q s.properties b in
    let stand : Some c.column ≡ Some d.column = sym c.stands ∙ ap (slice_get columns) (s.one_column p q a b same) ∙ d.stands in
    let column : c.column ≡ d.column = cc in
    c.kind ∙ ap (λ (x : ColumnEntry). x.shape.kind) column ∙ sym d.kind

and_false : (a b : Bool) → a ≡ true → (a && b) ≡ false → b ≡ false
and_false true b h k = k
and_false false b h k = absurd (cc)

-- in two that do not clash
other_kind : (e f : ElementEntry) → clash e f ≡ false → (p q : PropertyEntry) → Contains (properties_in e) p → Contains (properties_in f) q → p.name ≡ q.name → p.kind ≡ q.kind
other_kind e f h p q a b same =
    let x : IsInRow e p = in_row e p a in
    let y : IsInRow f q = in_row f q b in
    let u : PropertyEntry = x.row.property in
    let v : PropertyEntry = y.row.property in
    let free : has_other_kind (rows e) y.row ≡ false = no_item (has_other_kind (rows e)) (rows f) y.row h y.among in
    let here : (bytes_eq v.name u.name && not (same_kind v.kind u.kind)) ≡ false =
    no_item (λ (r : Row). bytes_eq v.name r.property.name && not (same_kind v.kind r.property.kind)) (rows e) x.row free x.among in
    let name : v.name ≡ u.name = ap (λ (r : PropertyEntry). r.name) y.is ∙ sym same ∙ sym (ap (λ (r : PropertyEntry). r.name) x.is) in
    let kind : same_kind v.kind u.kind ≡ true = is_not (same_kind v.kind u.kind) (and_false (bytes_eq v.name u.name) (not (same_kind v.kind u.kind)) (bytes_same v.name u.name name) here) in
    sym (ap (λ (r : PropertyEntry). r.kind) x.is) ∙ sym (kinds_same v.kind u.kind kind) ∙ ap (λ (r : PropertyEntry). r.kind) y.is

abbrev pub element_in : PlacedElement → ElementEntry
element_in e = e.element

-- in one and those after it
later_kind : (e : ElementEntry) (es : List PlacedElement) → flat_map (at_if clash e) es ≡ [] → (p q : PropertyEntry) → Contains (properties_in e) p
    → Contains (flat_map properties_in (map element_in es)) q → p.name ≡ q.name → p.kind ≡ q.kind
later_kind e es h p q a b same =
    let x = from_flat_map properties_in (map element_in es) q b in
    let f = from_map element_in es x.0 x.1 in
    let here : place_if (clash e f.0.element) f.0.at ≡ [] = each_at (λ (k : PlacedElement). at_if clash e k ≡ []) es f.0 (each_nil (at_if clash e) es h) f.1 in
    other_kind e f.0.element (no_place (clash e f.0.element) f.0.at here) p q a (subst (λ (k : ElementEntry). Contains (properties_in k) q) (sym f.2) x.2) same

pub one_kind : (es : List PlacedElement) → later_of clash es ≡ [] → Each (λ (e : PlacedElement). OneKind e.element) es → (p q : PropertyEntry)
    → Contains (flat_map properties_in (map element_in es)) p → Contains (flat_map properties_in (map element_in es)) q → p.name ≡ q.name → p.kind ≡ q.kind
one_kind [] h s p q a b same = absurd (in_nil p a)
one_kind (e ∷ es) h s p q a b same =
    let own : List PropertyEntry = properties_in e.element in
    let rest : List PropertyEntry = flat_map properties_in (map element_in es) in
    let free : flat_map (at_if clash e.element) es ≡ [] = left_nil (flat_map (at_if clash e.element) es) (later_of clash es) h in
    let later : later_of clash es ≡ [] = right_nil (flat_map (at_if clash e.element) es) (later_of clash es) h in
    elim (in_append own rest p a) [
      | inl x ↦ elim (in_append own rest q b) [
        | inl y ↦ s.0 p q x y same
        | inr y ↦ later_kind e.element es free p q x y same
      ]
      | inr x ↦ elim (in_append own rest q b) [
        | inl y ↦ sym (later_kind e.element es free q p y x (sym same))
        | inr y ↦ one_kind es later s.1 p q x y same
      ]
    ]
