use Rattle.std.proofs.Common.{map, take}
use Rattle.pg_join.specs.Joining.{AreJoined}
use Rattle.pg_join.proofs.joining.joined.Given as goal

abbrev pub invariant-loop-at : goal.invariant-loop-at
invariant-loop-at l = AreJoined (take l.at l.paths) (take l.at l.kept) (map (λ t. map (λ b. b.now) t) l.tuples.items)
