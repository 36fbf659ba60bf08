use Rattle.pg_check.specs.Passes.{unlabelled_in}
use Rattle.pg_check.proofs.Loops.{next_place}
use Rattle.pg_check.proofs.labels.unlabelled_fillers.Goals as goal

pub loop-filler-preserved : goal.loop-filler-preserved
loop-filler-preserved c = next_place (unlabelled_in c.args.names.now) c.loop-filler.found c.unlabelled_filler.result c.sooner-found.result c.args.fillers.now c.loop-filler.filler-index c.filler-item.result c.loop-filler-test.true c.filler-item.is c.unlabelled_filler.ensures c.sooner-found.ensures c.loop-filler.invariant
