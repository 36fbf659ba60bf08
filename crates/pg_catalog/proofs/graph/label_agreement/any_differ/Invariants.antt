use Rattle.std.proofs.Common.{◌≡◌, drop}
use Rattle.pg_rules.specs.Places.{least, sooner}
use Rattle.pg_rules.specs.Definitions.Graphs.{later_of, differ}
use Rattle.pg_catalog.proofs.graph.label_agreement.any_differ.Given as goal

abbrev pub invariant-loop-i : goal.invariant-loop-i
invariant-loop-i l = sooner l.found (least (later_of differ (drop l.i l.elements))) ≡ least (later_of differ l.elements)
