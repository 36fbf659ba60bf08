use Rattle.std.proofs.Common.{◌≡◌, drop}
use Rattle.std.specs.List.{flat_map}
use Rattle.pg_rules.specs.Places.{least, sooner}
use Rattle.pg_check.specs.Scopes.{scope, untrue}
use Rattle.pg_check.proofs.types.untrue_inside.Given as goal

abbrev pub invariant-loop-inner : goal.invariant-loop-inner
invariant-loop-inner l = sooner l.found (least (flat_map (λ i. untrue (scope l.kinds) i.condition.now) (drop l.inner-index l.conditions))) ≡ least (flat_map (λ i. untrue (scope l.kinds) i.condition.now) l.conditions)
