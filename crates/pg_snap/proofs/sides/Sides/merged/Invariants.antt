use Rattle.std.proofs.Common.{take}
use Rattle.std.specs.List.{AllZip}
use Rattle.pg_value.specs.Log.{put}
use Rattle.pg_view.specs.Lists.{joined}
use Rattle.pg_snap.specs.Bases.{ends_held}
use Rattle.pg_snap.specs.Sides.{AreBothSides}
use Rattle.pg_snap.proofs.sides.Sides.merged.Given as goal

abbrev pub invariant-shapes : goal.invariant-shapes
invariant-shapes g l = AllZip (λ shape both. AreBothSides (ends_held (put (joined l.rows) l.run.writes) shape) both) (take l.at l.shapes) l.tables.items
