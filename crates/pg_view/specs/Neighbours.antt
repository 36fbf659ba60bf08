-- What a view gives of the edges at a vertex.
use Rattle.std.specs.Prelude.{List, [], map, slice_get}
use Rattle.std.specs.Option.{option_map, unwrap_or}
use Rattle.pg_value.specs.declared.value.Dir.{Dir}
use Rattle.pg_value.specs.declared.value.Dir.TheVariants.{Out, In}
use Rattle.pg_value.specs.declared.row.Key.{Key}
use Rattle.pg_value.specs.declared.shape.TableNo.{TableNo}
use Rattle.pg_value.specs.declared.shape.EdgeNo.{EdgeNo}
use Rattle.pg_value.specs.declared.shape.EdgeShape.{EdgeShape}
use Rattle.pg_value.specs.declared.shape.Shapes.{Shapes}
use Rattle.pg_value.specs.Tables.{Tables}
use Rattle.pg_meaning.specs.Walks.{Hop}
use Rattle.pg_meaning.specs.Reads.{neighbours_of}
use Rattle.pg_view.specs.declared.view.Neighbour.{Neighbour}

-- the table of the vertices at an end of an edge table
abbrev pub end_table : EdgeShape → Dir → TableNo
end_table shape Out = shape.source
end_table shape In = shape.dest

-- the table of the vertices at the other end
abbrev pub other_table : EdgeShape → Dir → TableNo
other_table shape Out = shape.dest
other_table shape In = shape.source

-- a hop as a view gives it
abbrev pub neighbour : Hop → Neighbour
neighbour hop = record { edge = hop.edge; other = hop.to }

abbrev pub neighbours_over : Shapes → Tables → EdgeNo → Dir → Key → EdgeShape → List Neighbour
neighbours_over shapes tables e dir key shape = map neighbour (neighbours_of shapes tables e dir (record { table = end_table shape dir; key = key }))

-- the edges of an edge table that have the vertex of a key at that end, in order of their keys, each with the vertex at its other end
abbrev pub neighbours_at : Shapes → Tables → EdgeNo → Dir → Key → List Neighbour
neighbours_at shapes tables e dir key = unwrap_or (option_map (neighbours_over shapes tables e dir key) (slice_get shapes.edges e.0)) []
