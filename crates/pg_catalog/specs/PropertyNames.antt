-- The property names of a graph, and as one pass collects them.
use Rattle.std.specs.Prelude.{ℕ, ◌≡◌, List, map}
use Rattle.std.specs.List.{flat_map}
use Rattle.pg_rules.specs.declared.entry.PropertyEntry.{PropertyEntry}
use Rattle.pg_rules.specs.declared.entry.LabelEntry.{LabelEntry}
use Rattle.pg_rules.specs.declared.entry.ElementEntry.{ElementEntry}
use Rattle.pg_rules.specs.declared.entry.EdgeEntry.{EdgeEntry}
use Rattle.pg_rules.specs.declared.entry.GraphEntry.{GraphEntry}
use Rattle.pg_rules.specs.Catalog.GraphLookUps.{has_property}
use Rattle.pg_rules.specs.Definitions.Tables.{member}

-- these are the names of the graph's properties, in any order
abbrev pub AreNamesOf : GraphEntry → List (List ℕ) → Type 0
AreNamesOf g names = (name : List ℕ) → member name names ≡ has_property g name

abbrev pub listed : List PropertyEntry → List (List ℕ)
listed ps = map (λ p. p.name) ps

abbrev pub under_label : LabelEntry → List (List ℕ)
under_label l = listed l.properties

abbrev pub of_element : ElementEntry → List (List ℕ)
of_element e = flat_map under_label e.labels

abbrev pub of_edge : EdgeEntry → List (List ℕ)
of_edge e = of_element e.element
