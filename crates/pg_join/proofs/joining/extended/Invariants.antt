use Rattle.std.proofs.Common.{◌≡◌, map, take}
use Rattle.pg_join.specs.Joining.{extended}
use Rattle.pg_join.proofs.joining.extended.Given as goal

abbrev pub invariant-loop-tuple : goal.invariant-loop-tuple
invariant-loop-tuple l = map (λ t. map (λ b. b.now) t) l.out.items ≡ extended l.before l.path l.kept (map (λ t. map (λ b. b.now) t) (take l.tuple-index l.tuples))
