use Rattle.std.proofs.Common.{◌≡◌, take, map}
use Rattle.pg_rules.specs.Definitions.Entries.{property_of}
use Rattle.pg_catalog.proofs.graph.entry.listed_properties.Given as goal

abbrev pub invariant-loop-property : goal.invariant-loop-property
invariant-loop-property l = l.out ≡ map (property_of l.columns) (take l.property-index l.properties)
