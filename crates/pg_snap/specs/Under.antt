-- The rows of an edge table that have a vertex at one end, under the writes of a run.
use Rattle.std.specs.Prelude.{◌≡◌, ◌<◌, ◌+◌, not, List, [], ◌∷◌, map, length, slice_get}
use Rattle.std.specs.declared.option.Option.{Option}
use Rattle.std.specs.declared.option.Option.TheVariants.{Some, None}
use Rattle.std.specs.List.{filter, filter_map}
use Rattle.pg_keyed.specs.Keyed as keyed
use Rattle.pg_keyed.specs.Keyed.{is_named, weave}
use Rattle.pg_value.specs.declared.value.Value.{Value}
use Rattle.pg_value.specs.declared.value.Dir.{Dir}
use Rattle.pg_value.specs.declared.row.Key.{Key}
use Rattle.pg_value.specs.declared.shape.TableNo.{TableNo}
use Rattle.pg_value.specs.declared.shape.EdgeNo.{EdgeNo}
use Rattle.pg_value.specs.declared.shape.EdgeShape.{EdgeShape}
use Rattle.pg_adj.specs.declared.group.Group.{Group}
use Rattle.pg_adj.specs.Groups.{edges_of, others_of}
use Rattle.pg_run.specs.Runs.{RunOf, entries_in_run}
use Rattle.pg_value.specs.declared.write.Write.{Write}
use Rattle.pg_value.specs.Order.{key_cmp}
use Rattle.pg_value.specs.Tables.{Tables}
use Rattle.pg_value.specs.TablesLaws.{key_named, writes_to}
use Rattle.pg_adj.specs.Entries.{Entry}
use Rattle.pg_view.specs.Standing.{standing}
use Rattle.pg_view.specs.declared.view.Neighbour.{Neighbour}
use Rattle.pg_snap.specs.declared.reached.Reached.{Reached}
pub use Rattle.pg_snap.specs.declared.vertex.Side.{Side}
use Rattle.pg_snap.specs.Bases.{entries_in_base}
use Rattle.pg_snap.specs.Snapshots.{SnapOf, parts}

abbrev pub side_of : Entry → Side
side_of e = record { edge = e.edge; other = e.other }

abbrev pub sides_of : List Entry → List Side
sides_of es = map side_of es

abbrev pub side_key : Side → List Value
side_key s = s.edge.values

abbrev pub plain : Reached → Side
plain r = record { edge = r.edge.now; other = r.other.now }

abbrev pub plains : List Reached → List Side
plains rs = map plain rs

-- keys and those of the other ends, one beside the other
abbrev pub zipped : List Key → List Key → List Side
zipped [] os = []
zipped (e ∷ es) [] = []
zipped (e ∷ es) (o ∷ os) = record { edge = e; other = o } ∷ zipped es os

-- those that no write names
abbrev pub unnamed : List Write → List Side → List Side
unnamed ws sides = filter (λ s. not (is_named key_named key_cmp (side_key s) ws)) sides

-- both lists, in order of the keys of the edges
abbrev pub woven : List Side → List Side → List Side
woven olds news = weave side_key side_key (λ s. Some s) key_cmp olds news

-- those of which the vertex at the other end stands
abbrev pub all_standing : Tables → TableNo → TableNo → List Side → List Neighbour
all_standing tables t u sides = filter_map (λ s. standing tables t u s.edge s.other) sides

-- the edges from a vertex under the writes of one run, and of several, one after another
abbrev pub under_run : EdgeNo → Dir → List Value → TableNo → List Side → RunOf → List Side
under_run e dir v t sides run = woven (unnamed (writes_to t run.writes) sides) (sides_of (entries_in_run run e dir v))

abbrev pub under_runs : EdgeNo → Dir → List Value → TableNo → List Side → List RunOf → List Side
under_runs e dir v t sides [] = sides
under_runs e dir v t sides (run ∷ runs) = under_runs e dir v t (under_run e dir v t sides run) runs

-- one step of a walk over both lists: the first of both together, and the rests
abbrev pub Stepped : List Side → List Side → List Side → List Side → Option Side → Type 0
Stepped olds news olds' news' None = woven olds news ≡ []
Stepped olds news olds' news' (Some s) = (woven olds news ≡ s ∷ woven olds' news') × (length olds' + length news' < length olds + length news)

abbrev pub plain_if : Option Reached → Option Side
plain_if None = None
plain_if (Some r) = Some (plain r)

-- the edges of a group, and that each has its other end
abbrev pub grouped : Option Group → List Side
grouped g = zipped (edges_of g) (others_of g)

abbrev pub AsMany : Option Group → Type 0
AsMany g = length (edges_of g) ≡ length (others_of g)

-- each run was made for shapes in which an edge table has this number
abbrev pub HaveShape : EdgeNo → EdgeShape → List RunOf → Type 0
HaveShape e shape runs = keyed.Each (λ run. slice_get run.shapes.edges e.0 ≡ Some shape) runs

-- the edges from a vertex in all parts of a snapshot
abbrev pub reached_in : SnapOf → EdgeNo → EdgeShape → Dir → List Value → List Side
reached_in s e shape dir v = under_runs e dir v shape.table (sides_of (entries_in_base s.base e dir v)) (parts s)
