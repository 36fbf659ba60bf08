use Rattle.std.proofs.Common.{map}
use Rattle.pg_join.proofs.Places.{Walks, left_of}
use Rattle.pg_join.proofs.joining.push_longer.Given as goal

abbrev pub invariant-loop-at : goal.invariant-loop-at
invariant-loop-at l = Walks l.joint.vars.now l.joint.before.now l.joint.path.now l.joint.kept.now (map (λ b. b.now) l.tuple) l.key.items (map (λ t. map (λ b. b.now) t) l.fn.out.items) (map (λ t. map (λ b. b.now) t) l.out.items) l.at

abbrev pub decreases-loop-at : goal.decreases-loop-at
decreases-loop-at l = left_of l.at
