use Rattle.std.proofs.Common.{◌≡◌, drop}
use Rattle.pg_catalog.specs.PropertyNames.{listed}
use Rattle.pg_catalog.specs.NameSets.{add_all}
use Rattle.pg_catalog.proofs.name_set.NameSet.add_properties.Given as goal

abbrev pub invariant-loop-property : goal.invariant-loop-property
invariant-loop-property l = add_all l.self (listed (drop l.property-index l.properties)) ≡ add_all l.fn.self (listed l.properties)
