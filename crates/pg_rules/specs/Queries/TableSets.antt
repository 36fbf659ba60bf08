-- The set of tables that a checked query has for a label expression: it is the only one that has those tables and no others, and these are
-- the tables whose labels meet the expression.
use Rattle.std.specs.Prelude.{ℕ, ◌≡◌, ◌<◌, Bool, List, [], map, Option, Some, None, find}
use Rattle.pg_keyed.specs.Lists.{Each}
use Rattle.pg_value.specs.declared.shape.TableNo.{TableNo}
use Rattle.pg_value.specs.declared.shape.GraphNo.{GraphNo}
use Rattle.pg_value.specs.declared.shape.TableSet.{TableSet}
use Rattle.pg_ast.specs.Trees.{LabelTree}
use Rattle.pg_meaning.specs.LabelSets.{IsLabelSet}
use Rattle.pg_rules.specs.declared.entry.ElementEntry.{ElementEntry}
use Rattle.pg_rules.specs.Catalog.{Defined, IsSmall}
use Rattle.pg_rules.specs.Catalog.GraphLookUps.{IsSetOf, is_table, of_sort, tables_of, graph_numbered}
use Rattle.pg_rules.specs.Catalog.SoundDefinitions.{IsCatalog}
use Rattle.pg_rules.specs.Definitions.Graphs.{labels_in}
use Rattle.pg_rules.specs.Queries.CheckedQueries.{set_of}

-- a set can have the tables 0 to 63
abbrev pub HaveBits : List ℕ → Type 0
HaveBits tables = Each (λ t. t < 64) tables

-- the labels of an element table of a graph, none where it is no such table
abbrev pub labels_found : Option ElementEntry → List (List ℕ)
labels_found None = []
labels_found (Some e) = labels_in e

abbrev pub labels_at : List ElementEntry → TableNo → List (List ℕ)
labels_at elements t = labels_found (find (is_table t) elements)

-- THE LAW

pub record SetsAreOf : Type 0 where
  -- of tables that a set can have
  pub made : (tables : List ℕ) → HaveBits tables → IsSetOf (set_of tables).0 tables
  pub only : (set : TableSet) (tables : List ℕ) → HaveBits tables → IsSetOf set.0 tables → set ≡ set_of tables
  -- as all tables of a graph are
  pub small : (d : Defined) (g : GraphNo) (edges : Bool) (label : LabelTree) → IsSmall d → HaveBits (tables_of d g edges label)
  -- of a graph, the vertex tables or the edge tables whose labels meet the label expression
  pub labels : (d : Defined) (g : GraphNo) (edges : Bool) (label : LabelTree) → IsCatalog d
      → IsLabelSet (map (λ e. e.table) (of_sort (graph_numbered d.1 g) edges)) (labels_at (of_sort (graph_numbered d.1 g) edges)) label (set_of (tables_of d g edges label))
