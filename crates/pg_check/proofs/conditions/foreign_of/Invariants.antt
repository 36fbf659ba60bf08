use Rattle.std.proofs.Common.{◌≡◌, drop}
use Rattle.std.specs.List.{flat_map}
use Rattle.pg_rules.specs.Places.{least, sooner}
use Rattle.pg_check.specs.UsePlaces.{foreign}
use Rattle.pg_check.specs.Gathered.{use_view}
use Rattle.pg_check.proofs.conditions.foreign_of.Given as goal

abbrev pub invariant-loop-one : goal.invariant-loop-one
invariant-loop-one l = sooner l.found (least (flat_map (λ u. foreign l.names (use_view u)) (drop l.one-index l.used))) ≡ least (flat_map (λ u. foreign l.names (use_view u)) l.used)
