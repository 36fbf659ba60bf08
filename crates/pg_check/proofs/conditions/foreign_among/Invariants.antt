use Rattle.std.proofs.Common.{◌≡◌, drop}
use Rattle.std.specs.List.{flat_map}
use Rattle.pg_rules.specs.Places.{least, sooner}
use Rattle.pg_check.specs.UsePlaces.{strays_in}
use Rattle.pg_check.specs.Passes.{inner_view}
use Rattle.pg_check.proofs.conditions.foreign_among.Given as goal

abbrev pub invariant-loop-inner : goal.invariant-loop-inner
invariant-loop-inner l = sooner l.found (least (flat_map (λ i. strays_in (inner_view i)) (drop l.inner-index l.conditions))) ≡ least (flat_map (λ i. strays_in (inner_view i)) l.conditions)
