use Rattle.std.proofs.Common.{◌+◌, drop, arith}
use Rattle.std.proofs.lemmas.Grind.{common_steps}
use Rattle.std.specs.List.{flat_map}
use Rattle.pg_rules.specs.Definitions.Graphs.{at_if, later_of, clash}
use Rattle.pg_rules.specs.Places.{least_found}
use Rattle.pg_catalog.proofs.graph.property_kinds.type_mismatch.Goals as goal

pub loop-i-preserved : goal.loop-i-preserved
loop-i-preserved c =
    let rest = drop (c.loop-i.i + 1) c.args.elements.now in
    let e = least_found c.loop-i.found (flat_map (at_if clash c.index-elements-i.result.element) rest) (later_of clash rest) in
    grind (arith, common_steps)
