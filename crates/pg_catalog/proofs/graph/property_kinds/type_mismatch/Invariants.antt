use Rattle.std.proofs.Common.{◌≡◌, drop}
use Rattle.pg_rules.specs.Places.{least, sooner}
use Rattle.pg_rules.specs.Definitions.Graphs.{later_of, clash}
use Rattle.pg_catalog.proofs.graph.property_kinds.type_mismatch.Given as goal

abbrev pub invariant-loop-i : goal.invariant-loop-i
invariant-loop-i l = sooner l.found (least (later_of clash (drop l.i l.elements))) ≡ least (later_of clash l.elements)
