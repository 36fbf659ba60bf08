use Rattle.std.proofs.Common.{◌≡◌, map, take}
use Rattle.pg_join.specs.Joining.{key_of}
use Rattle.pg_join.proofs.lists.key_of.Given as goal

abbrev pub invariant-loop-var : goal.invariant-loop-var
invariant-loop-var l = l.key.items ≡ key_of (take l.var-index l.vars) l.paths (map (λ b. b.now) l.tuple)
