-- The shapes of all tables, and of the edge tables of all graphs, each in order of definition.
use Rattle.std.specs.Prelude.{ℕ, List, map}
use Rattle.std.specs.List.{flat_map}
use Rattle.pg_value.specs.declared.shape.TableShape.{TableShape}
use Rattle.pg_value.specs.declared.shape.EdgeShape.{EdgeShape}
use Rattle.pg_value.specs.declared.shape.Shapes.{Shapes}
use Rattle.pg_rules.specs.declared.entry.TableEntry.{TableEntry}
use Rattle.pg_rules.specs.declared.entry.EdgeEntry.{EdgeEntry}
use Rattle.pg_rules.specs.declared.entry.GraphEntry.{GraphEntry}
use Rattle.pg_rules.specs.Catalog.{Defined}

abbrev pub table_shape : TableEntry → TableShape
table_shape t = record { columns = map (λ c. c.shape) t.columns; key = t.key }

abbrev pub edge_shape : EdgeEntry → EdgeShape
edge_shape e = record { table = e.element.table; source = e.source; source_columns = e.source_columns; dest = e.dest; dest_columns = e.dest_columns }

abbrev pub table_shapes : List (List ℕ × TableEntry) → List TableShape
table_shapes tables = map (λ t. table_shape t.1) tables

abbrev pub edge_shapes : List (List ℕ × GraphEntry) → List EdgeShape
edge_shapes graphs = flat_map (λ g. map edge_shape g.1.edges) graphs

abbrev pub shapes : Defined → Shapes
shapes d = record { tables = table_shapes d.0; edges = edge_shapes d.1 }
