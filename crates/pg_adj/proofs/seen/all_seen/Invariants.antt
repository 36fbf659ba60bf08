use Rattle.std.proofs.Common.{◌≡◌, map, take}
use Rattle.pg_adj.specs.Entries.{entry}
use Rattle.pg_adj.specs.Gather.{plains}
use Rattle.pg_adj.proofs.seen.all_seen.Given as goal

abbrev pub invariant-loop-edge : goal.invariant-loop-edge
invariant-loop-edge l = plains l.seen.items ≡ map (entry l.dir) (take l.edge-index l.ends)
