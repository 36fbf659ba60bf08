use Rattle.std.proofs.Common.{◌≡◌, take}
use Rattle.pg_meaning.specs.Reads.{elements_of}
use Rattle.pg_view.specs.Lists.{joined}
use Rattle.pg_view.proofs.lists.elements_in.Given as goal

abbrev pub invariant-loop-table : goal.invariant-loop-table
invariant-loop-table l = l.out ≡ elements_of (joined (take l.table l.lists)) l.set
