-- A list is as it is with the neighbours behind it where the vertex is of another table than the edge table names at that end.
use Rattle.std.proofs.Common.{◌≡◌, ◌==◌, List, ◌++◌, map, refl, ap, sym, ◌∙◌}
use Rattle.std.specs.Prelude.{Some, slice_get}
use Rattle.std.proofs.lemmas.List.{append-nil}
use Rattle.std.proofs.lemmas.Bool.{ne_eqb}
use Rattle.pg_value.specs.declared.value.Dir.{Dir}
use Rattle.pg_value.specs.declared.value.Dir.TheVariants.{Out, In}
use Rattle.pg_value.specs.declared.shape.ElemId.{ElemId}
use Rattle.pg_value.specs.declared.shape.TableNo.{TableNo}
use Rattle.pg_value.specs.declared.shape.EdgeNo.{EdgeNo}
use Rattle.pg_value.specs.declared.shape.EdgeShape.{EdgeShape}
use Rattle.pg_value.specs.declared.shape.Shapes.{Shapes}
use Rattle.pg_value.specs.Tables.{Tables}
use Rattle.pg_meaning.specs.Walks.{Hop}
use Rattle.pg_meaning.specs.Reads.{neighbours_of}
use Rattle.pg_view.specs.declared.view.Neighbour.{Neighbour}
use Rattle.pg_view.specs.Neighbours.{end_table, neighbour}
use Rattle.pg_search.proofs.Neighbours.{table_at, no_neighbours}

table_named : (shape : EdgeShape) (dir : Dir) → table_at shape dir ≡ end_table shape dir
table_named shape Out = refl
table_named shape In = refl

pub other_table : (shapes : Shapes) (tables : Tables) (n : EdgeNo) (dir : Dir) (v : ElemId) (shape : EdgeShape) (out : List Neighbour) → slice_get shapes.edges n.0 ≡ Some shape → ((end_table shape dir).0 ≡ v.table.0 → ⊥)
    → out ≡ out ++ map neighbour (neighbours_of shapes tables n dir v)
other_table shapes tables n dir v shape out stands other =
    sym (append-nil out)
    ∙ ap (λ (hops : List Hop). out ++ map neighbour hops) (sym (no_neighbours shapes tables n dir v shape stands (ap (λ (t : TableNo). t.0 == v.table.0) (table_named shape dir) ∙ ne_eqb (end_table shape dir).0 v.table.0 other)))
