use Rattle.std.proofs.Common.{take}
use Rattle.std.specs.List.{AllZip}
use Rattle.pg_adj.specs.Adjacency.{AreBoth}
use Rattle.pg_adj.proofs.adj.all_ends.Given as goal

abbrev pub invariant-loop-list : goal.invariant-loop-list
invariant-loop-list l = AllZip AreBoth (take l.list-index l.lists) l.tables.items
