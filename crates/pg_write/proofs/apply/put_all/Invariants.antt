use Rattle.std.proofs.Common.{◌≡◌, drop}
use Rattle.pg_rules.specs.Changes.ChangeEffect.{with_writes}
use Rattle.pg_write.proofs.apply.put_all.Given as goal

-- what is left, put on the writes so far, gives what all gives
abbrev pub invariant-loop-at : goal.invariant-loop-at
invariant-loop-at l = record {
  list : with_writes l.out.list (drop l.at l.made.list) ≡ with_writes l.fn.writes.list l.made.list;
  limit : l.out.limit ≡ l.fn.writes.limit;
}
