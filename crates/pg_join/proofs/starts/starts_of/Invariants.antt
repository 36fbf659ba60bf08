use Rattle.std.proofs.Common.{◌≡◌, take}
use Rattle.std.specs.Prelude.{flat_map}
use Rattle.pg_join.specs.Starts.{starts_in}
use Rattle.pg_join.proofs.starts.starts_of.Given as goal

abbrev pub invariant-loop-table : goal.invariant-loop-table
invariant-loop-table g l = l.starts ≡ flat_map (starts_in (g.V.View.tables l.view) l.path) (take l.table-index l.path.graph.vertices)
