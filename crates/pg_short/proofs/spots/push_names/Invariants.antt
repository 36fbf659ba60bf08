use Rattle.std.proofs.Common.{◌≡◌, ◌++◌, map, take}
use Rattle.std.specs.Prelude.{filter}
use Rattle.std.specs.List.{list_any}
use Rattle.pg_auto.specs.Autos.{stage_view}
use Rattle.pg_short.specs.Steps.{named_view}
use Rattle.pg_short.specs.Spots.{names}
use Rattle.pg_short.proofs.spots.push_names.Given as goal

abbrev pub invariant-loop-name : goal.invariant-loop-name
invariant-loop-name l = map named_view l.out.items ≡ map named_view l.fn.out.items ++ filter (λ m. list_any (names m.var) (map stage_view l.stages)) (map named_view (take l.name-index l.names))
