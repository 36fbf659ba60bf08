use Rattle.std.proofs.Common.{◌≡◌, map, take}
use Rattle.pg_join.proofs.joining.longer.Given as goal

abbrev pub invariant-loop-own : goal.invariant-loop-own
invariant-loop-own l = map (λ b. b.now) l.more ≡ map (λ b. b.now) (take l.own-index l.tuple)
