-- The edges at a vertex of which the vertices at the other ends stand.
use Rattle.std.specs.Prelude.{◌≡◌, cond, is_some, List, [], ◌∷◌, map, take, length}
use Rattle.std.specs.declared.option.Option.{Option}
use Rattle.std.specs.declared.option.Option.TheVariants.{Some, None}
use Rattle.std.specs.List.{cons_option}
use Rattle.pg_value.specs.declared.row.Key.{Key}
use Rattle.pg_value.specs.declared.shape.TableNo.{TableNo}
use Rattle.pg_value.specs.declared.value.Dir.{Dir}
use Rattle.pg_value.specs.declared.shape.EdgeShape.{EdgeShape}
use Rattle.pg_value.specs.Tables.{Tables, stored_at, held_in}
use Rattle.pg_adj.specs.Entries.{entries_at}
use Rattle.pg_view.specs.Neighbours.{other_table}
use Rattle.pg_view.specs.RowEnds.{all_ends}
use Rattle.pg_view.specs.declared.view.Neighbour.{Neighbour}

-- an edge of a table, where the row of the vertex at its other end stands in its table
abbrev pub standing : Tables → TableNo → TableNo → Key → Key → Option Neighbour
standing tables t u edge other = cond (is_some (stored_at (u.0, other.values) tables)) (Some (record { edge = record { table = t; key = edge }; other = record { table = u; key = other } })) None

abbrev pub all_standing : Tables → TableNo → TableNo → List Key → List Key → List Neighbour
all_standing tables t u (e ∷ es) (o ∷ os) = cons_option (standing tables t u e o) (all_standing tables t u es os)
all_standing tables t u [] os = []
all_standing tables t u (e ∷ es) [] = []

-- those of the edges of an edge table that have the vertex of a key at that end
abbrev pub standing_at : Tables → EdgeShape → Dir → Key → List Neighbour
standing_at tables shape dir vertex =
    let entries = entries_at dir vertex.values (all_ends shape (held_in shape.table tables)) in
    all_standing tables shape.table (other_table shape dir) (map (λ e. e.edge) entries) (map (λ e. e.other) entries)

-- a list that begins with another
abbrev pub BeginsWith : {X : Type 0} → List X → List X → Type 0
BeginsWith front xs = take (length front) xs ≡ front
