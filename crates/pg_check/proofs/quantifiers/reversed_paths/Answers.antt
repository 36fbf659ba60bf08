use Rattle.pg_check.specs.Passes.{reversed_path}
use Rattle.pg_check.proofs.Loops.{next_place}
use Rattle.pg_check.proofs.quantifiers.reversed_paths.Goals as goal

pub loop-path-preserved : goal.loop-path-preserved
loop-path-preserved c = next_place reversed_path c.loop-path.found c.reversed_path.result c.sooner-found.result c.args.paths.now c.loop-path.path-index c.path-item.result c.loop-path-test.true c.path-item.is c.reversed_path.ensures c.sooner-found.ensures c.loop-path.invariant
