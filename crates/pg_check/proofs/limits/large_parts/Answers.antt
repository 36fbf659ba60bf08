use Rattle.pg_check.specs.Passes.{large_part}
use Rattle.pg_check.proofs.Loops.{next_place}
use Rattle.pg_check.proofs.limits.large_parts.Goals as goal

pub loop-part-preserved : goal.loop-part-preserved
loop-part-preserved c = next_place large_part c.loop-part.found c.large_part.result c.sooner-found.result c.args.parts.now c.loop-part.part-index c.part-item.result c.loop-part-test.true c.part-item.is c.large_part.ensures c.sooner-found.ensures c.loop-part.invariant
