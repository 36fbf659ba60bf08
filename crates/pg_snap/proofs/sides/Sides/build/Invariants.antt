use Rattle.std.proofs.Common.{take}
use Rattle.std.specs.List.{AllZip}
use Rattle.pg_view.specs.Lists.{joined}
use Rattle.pg_snap.specs.Bases.{ends_held}
use Rattle.pg_snap.specs.Sides.{AreBothSides}
use Rattle.pg_snap.proofs.sides.Sides.build.Given as goal

abbrev pub invariant-loop-shape : goal.invariant-loop-shape
invariant-loop-shape g l = AllZip (λ shape both. AreBothSides (ends_held (joined l.rows) shape) both) (take l.shape-index l.shapes) l.tables.items
