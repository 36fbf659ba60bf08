use Rattle.std.proofs.Common.{◌≡◌, true, take}
use Rattle.pg_keyed.specs.Lists.{Each}
use Rattle.pg_adj.specs.Entries.{is_at}
use Rattle.pg_adj.specs.Gather.{plain}
use Rattle.pg_adj.proofs.group.run_length.Given as goal

abbrev pub invariant-loop-i : goal.invariant-loop-i
invariant-loop-i l = Each (λ s. is_at l.vertex.values (plain s) ≡ true) (take l.i l.seen)
