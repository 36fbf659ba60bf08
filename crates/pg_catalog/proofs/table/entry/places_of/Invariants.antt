use Rattle.std.proofs.Common.{◌≡◌, take, map}
use Rattle.pg_rules.specs.Definitions.Tables.{place_of}
use Rattle.pg_catalog.proofs.table.entry.places_of.Given as goal

abbrev pub invariant-loop-name : goal.invariant-loop-name
invariant-loop-name l = l.out ≡ map (place_of l.columns) (take l.name-index l.key)
