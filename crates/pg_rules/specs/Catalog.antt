-- What is defined: tables and graphs, each in order of definition.
pub mod GraphLookUps
pub mod LookUps
pub mod Shapes
pub mod Sound
pub mod SoundDefinitions
use Rattle.std.specs.Prelude.{ℕ, List, length, ◌≤◌, ◌<◌, All}
use Rattle.pg_rules.specs.declared.entry.TableEntry.{TableEntry}
use Rattle.pg_rules.specs.declared.entry.ColumnEntry.{ColumnEntry}
use Rattle.pg_rules.specs.declared.entry.ElementEntry.{ElementEntry}
use Rattle.pg_rules.specs.declared.entry.GraphEntry.{GraphEntry}

-- tables, each with its name
abbrev pub Tables : Type 0
Tables = List (List ℕ × TableEntry)

-- graphs, each with its name
abbrev pub Graphs : Type 0
Graphs = List (List ℕ × GraphEntry)

abbrev pub Defined : Type 0
Defined = Tables × Graphs

abbrev pub of_entries : Tables → Graphs → Defined
of_entries tables graphs = (tables, graphs)

abbrev pub IsFew : List ColumnEntry → Type 0
IsFew columns = length columns ≤ 32

abbrev pub AreFew : Tables → Type 0
AreFew tables = All (λ e. IsFew e.1.columns) tables

-- at most 64 tables of at most 32 columns
abbrev pub AreSmall : Tables → Type 0
AreSmall tables = (length tables ≤ 64) × AreFew tables

-- the table has a bit in a set of tables
abbrev pub HasBit : ElementEntry → Type 0
HasBit e = e.table.0 < 64

-- at most 32 edge tables, and each table has a bit in a set of tables
abbrev pub IsSmallGraph : GraphEntry → Type 0
IsSmallGraph g = (length g.edges ≤ 32) × (All HasBit g.vertices × All (λ e. HasBit e.element) g.edges)

-- at most 16 graphs
abbrev pub AreSmallGraphs : Graphs → Type 0
AreSmallGraphs graphs = (length graphs ≤ 16) × All (λ g. IsSmallGraph g.1) graphs

abbrev pub IsSmall : Defined → Type 0
IsSmall d = AreSmall d.0 × AreSmallGraphs d.1
