use Rattle.std.proofs.Common.{◌≡◌, map, take}
use Rattle.pg_short.specs.Steps.{named_view}
use Rattle.pg_short.proofs.spots.copy_names.Given as goal

abbrev pub invariant-loop-name : goal.invariant-loop-name
invariant-loop-name l = map named_view l.copy.items ≡ map named_view (take l.name-index l.names)
