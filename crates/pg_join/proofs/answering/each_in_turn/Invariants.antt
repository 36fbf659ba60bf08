use Rattle.std.proofs.Common.{take}
use Rattle.std.specs.List.{AllZip}
use Rattle.pg_join.specs.Selecting.{IsKept}
use Rattle.pg_join.proofs.answering.each_in_turn.Given as goal

abbrev pub invariant-loop-path : goal.invariant-loop-path
invariant-loop-path g l = AllZip (IsKept (g.V.View.shapes l.view) (g.V.View.tables l.view)) (take l.path-index l.query.paths) l.all
