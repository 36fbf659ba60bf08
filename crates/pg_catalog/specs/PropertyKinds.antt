-- The kinds of a graph's properties and the names of its labels, and as one pass collects them.
use Rattle.std.specs.Prelude.{ℕ, ◌≡◌, cond, is_some, List, [], ◌∷◌, ◌++◌}
use Rattle.std.specs.List.{flat_map, find, list_any}
use Rattle.std.specs.Map.{lookup}
use Rattle.std.specs.Option.{option_map}
use Rattle.std.specs.Str.{bytes_eq}
use Rattle.pg_value.specs.declared.value.Kind.{Kind}
use Rattle.pg_rules.specs.declared.entry.PropertyEntry.{PropertyEntry}
use Rattle.pg_rules.specs.declared.entry.LabelEntry.{LabelEntry}
use Rattle.pg_rules.specs.declared.entry.ElementEntry.{ElementEntry}
use Rattle.pg_rules.specs.declared.entry.EdgeEntry.{EdgeEntry}
use Rattle.pg_rules.specs.declared.entry.GraphEntry.{GraphEntry}
use Rattle.pg_rules.specs.Catalog.GraphLookUps.{elements_in}
use Rattle.pg_rules.specs.Definitions.Graphs.{labels_in, rows}
use Rattle.pg_rules.specs.Definitions.Tables.{member}

-- these are the names of the graph's labels, in any order
abbrev pub AreLabelsOf : GraphEntry → List (List ℕ) → Type 0
AreLabelsOf g names = (name : List ℕ) → member name names ≡ list_any (λ e. member name (labels_in e)) (elements_in g)

abbrev pub edge_labels : EdgeEntry → List (List ℕ)
edge_labels e = labels_in e.element

-- each name of the graph's properties has the kind of the first property of that name
abbrev pub AreKindsOf : GraphEntry → List (List ℕ × Kind) → Type 0
AreKindsOf g kinds = (name : List ℕ) → lookup (bytes_eq name) kinds ≡ option_map (λ r. r.property.kind) (find (λ r. bytes_eq name r.property.name) (flat_map rows (elements_in g)))

abbrev pub add_last : List (List ℕ × Kind) → List ℕ → Kind → List (List ℕ × Kind)
add_last seen name kind = seen ++ (name, kind) ∷ []

-- the first kind of a name stays
abbrev pub add_kind : List (List ℕ × Kind) → List ℕ → Kind → List (List ℕ × Kind)
add_kind seen name kind = cond (is_some (lookup (bytes_eq name) seen)) seen (add_last seen name kind)

abbrev pub kinds_after : List (List ℕ × Kind) → List PropertyEntry → List (List ℕ × Kind)
kinds_after seen [] = seen
kinds_after seen (p ∷ ps) = kinds_after (add_kind seen p.name p.kind) ps

abbrev pub under_label : LabelEntry → List PropertyEntry
under_label l = l.properties

abbrev pub of_element : ElementEntry → List PropertyEntry
of_element e = flat_map under_label e.labels

abbrev pub of_edge : EdgeEntry → List PropertyEntry
of_edge e = of_element e.element
