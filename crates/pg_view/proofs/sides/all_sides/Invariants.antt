use Rattle.std.proofs.Common.{take}
use Rattle.pg_view.specs.Sides.{AreSides}
use Rattle.pg_view.proofs.sides.all_sides.Given as goal

abbrev pub invariant-loop-number : goal.invariant-loop-number
invariant-loop-number l = AreSides l.lists (take l.number l.shapes) l.all.items
