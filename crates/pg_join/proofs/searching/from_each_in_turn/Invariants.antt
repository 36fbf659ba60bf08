use Rattle.std.proofs.Common.{take}
use Rattle.std.specs.List.{AllZip}
use Rattle.pg_join.specs.Selecting.{AreKeptFrom}
use Rattle.pg_join.proofs.searching.from_each_in_turn.Given as goal

abbrev pub invariant-loop-start : goal.invariant-loop-start
invariant-loop-start g l = AllZip (AreKeptFrom (g.V.View.shapes l.view) (g.V.View.tables l.view) l.path) (take l.start-index l.starts) l.results
