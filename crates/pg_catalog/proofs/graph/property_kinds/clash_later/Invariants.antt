use Rattle.std.proofs.Common.{◌≡◌, drop}
use Rattle.std.specs.List.{flat_map}
use Rattle.pg_rules.specs.Places.{least, sooner}
use Rattle.pg_rules.specs.Definitions.Graphs.{at_if, clash}
use Rattle.pg_catalog.proofs.graph.property_kinds.clash_later.Given as goal

abbrev pub invariant-loop-f : goal.invariant-loop-f
invariant-loop-f l = sooner l.found (least (flat_map (at_if clash l.e) (drop l.f-index l.later))) ≡ least (flat_map (at_if clash l.e) l.later)
