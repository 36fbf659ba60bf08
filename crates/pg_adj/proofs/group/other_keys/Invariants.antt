use Rattle.std.proofs.Common.{◌≡◌, map, take}
use Rattle.pg_adj.specs.Gather.{plains}
use Rattle.pg_adj.proofs.group.other_keys.Given as goal

abbrev pub invariant-loop-edge : goal.invariant-loop-edge
invariant-loop-edge l = l.keys.items ≡ map (λ e. e.other) (plains (take l.edge-index l.run))
