use Rattle.std.proofs.Common.{◌≡◌, map, drop}
use Rattle.pg_join.specs.Joining.{agrees}
use Rattle.pg_join.proofs.lists.agrees.Given as goal

abbrev pub invariant-loop-var : goal.invariant-loop-var
invariant-loop-var l = agrees l.vars l.before (map (λ b. b.now) l.tuple) l.path l.binding ≡ agrees (drop l.var-index l.vars) l.before (map (λ b. b.now) l.tuple) l.path l.binding
