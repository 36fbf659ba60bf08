-- The properties of an element table as passes over their rows find them.
use Rattle.std.specs.Prelude.{ℕ, Bool, not, ◌&&◌, ◌||◌, cond, is_some, List, [], ◌∷◌, ◌++◌}
use Rattle.std.specs.List.{list_any}
use Rattle.std.specs.Map.{lookup}
use Rattle.std.specs.Str.{bytes_eq}
use Rattle.pg_value.specs.declared.value.Kind.{Kind}
use Rattle.pg_value.specs.declared.value.Kind.TheVariants as kinds
use Rattle.pg_rules.specs.declared.entry.PropertyEntry.{PropertyEntry}
use Rattle.pg_rules.specs.Definitions.Graphs.{Row, is_place}
use Rattle.pg_value.specs.Kinds.{same_kind}
use Rattle.pg_rules.specs.Definitions.Tables.{member}
use Rattle.pg_catalog.specs.declared.graph.property_rows.Row.{Row as Found}
use Rattle.pg_catalog.specs.NameSets.{add, add_by, member_by}

-- a row as the code holds it
abbrev pub row_view : Found → Row
row_view r = record { label = r.label.now; property = record { name = r.name.now; column = r.column; kind = r.kind } }

abbrev pub under : List ℕ → PropertyEntry → Row
under label p = record { label = label; property = p }

abbrev pub of_kind : Kind → Row → Bool
of_kind kind r = same_kind kind r.property.kind

-- NAMES OF ONE KIND

abbrev pub names_after : Kind → List (List ℕ) → List Row → List (List ℕ)
names_after kind seen [] = seen
names_after kind seen (r ∷ rs) = names_after kind (cond (of_kind kind r) (add seen r.property.name) seen) rs

-- the row is of another kind and has one of the names
abbrev pub is_clash : Kind → List (List ℕ) → Row → Bool
is_clash kind names r = not (of_kind kind r) && member r.property.name names

abbrev pub clash_with : Kind → List (List ℕ) → List Row → Bool
clash_with kind names rs = list_any (is_clash kind names) rs

abbrev pub clash_by_kind : List Row → List Row → Bool
clash_by_kind qs rs = clash_with kinds.Int (names_after kinds.Int [] qs) rs || (clash_with kinds.Text (names_after kinds.Text [] qs) rs || clash_with kinds.Bool (names_after kinds.Bool [] qs) rs)

-- NAMES OF ONE KIND UNDER THEIR LABELS

abbrev pub pair_eq : List ℕ × List ℕ → List ℕ × List ℕ → Bool
pair_eq a b = bytes_eq a.0 b.0 && bytes_eq a.1 b.1

abbrev pub pairs_after : Kind → List (List ℕ × List ℕ) → List Row → List (List ℕ × List ℕ)
pairs_after kind seen [] = seen
pairs_after kind seen (r ∷ rs) = pairs_after kind (cond (of_kind kind r) (add_by pair_eq seen (r.label, r.property.name)) seen) rs

-- the row is of this kind, under a known label, and none of these
abbrev pub is_lacking : Kind → List (List ℕ) → List (List ℕ × List ℕ) → Row → Bool
is_lacking kind labels pairs r = of_kind kind r && (member r.label labels && not (member_by pair_eq (r.label, r.property.name) pairs))

abbrev pub lacks_of : Kind → List (List ℕ) → List (List ℕ × List ℕ) → List Row → Bool
lacks_of kind labels pairs rs = list_any (is_lacking kind labels pairs) rs

abbrev pub lacks_by_kind : List (List ℕ) → List Row → List Row → Bool
lacks_by_kind labels qs rs = lacks_of kinds.Int labels (pairs_after kinds.Int [] qs) rs || (lacks_of kinds.Text labels (pairs_after kinds.Text [] qs) rs || lacks_of kinds.Bool labels (pairs_after kinds.Bool [] qs) rs)

-- THE FIRST COLUMN OF EACH NAME

abbrev pub add_last : List (List ℕ × ℕ) → List ℕ → ℕ → List (List ℕ × ℕ)
add_last seen name column = seen ++ (name, column) ∷ []

abbrev pub add_first : List (List ℕ × ℕ) → List ℕ → ℕ → List (List ℕ × ℕ)
add_first seen name column = cond (is_some (lookup (bytes_eq name) seen)) seen (add_last seen name column)

abbrev pub firsts_after : List (List ℕ × ℕ) → List Row → List (List ℕ × ℕ)
firsts_after seen [] = seen
firsts_after seen (r ∷ rs) = firsts_after (add_first seen r.property.name r.property.column) rs

-- a row has another column than its name has in these
abbrev pub other_column : List (List ℕ × ℕ) → List Row → Bool
other_column firsts rs = list_any (λ r. not (is_place (lookup (bytes_eq r.property.name) firsts) r.property.column)) rs
