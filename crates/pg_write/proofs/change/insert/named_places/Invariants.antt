use Rattle.std.proofs.Common.{◌≡◌}
use Rattle.std.proofs.Common.{take, map}
use Rattle.pg_rules.specs.Definitions.Tables.{place_of}
use Rattle.pg_write.proofs.change.insert.named_places.Given as goal

abbrev pub invariant-loop-name : goal.invariant-loop-name
invariant-loop-name l = l.out ≡ map (place_of l.columns) (take l.name-index l.names)
