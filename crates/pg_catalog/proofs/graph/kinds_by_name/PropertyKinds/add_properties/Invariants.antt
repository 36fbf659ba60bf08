use Rattle.std.proofs.Common.{◌≡◌, drop}
use Rattle.pg_catalog.specs.PropertyKinds.{kinds_after}
use Rattle.pg_catalog.proofs.graph.kinds_by_name.PropertyKinds.add_properties.Given as goal

abbrev pub invariant-loop-property : goal.invariant-loop-property
invariant-loop-property l = kinds_after l.self (drop l.property-index l.properties) ≡ kinds_after l.fn.self l.properties
