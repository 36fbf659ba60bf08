use Rattle.pg_script.proofs.GeneratedLaws.{one_more_outcome}
use Rattle.pg_script.proofs.totals.last_stand.Goals as goal

pub loop-outcome-preserved : goal.loop-outcome-preserved
loop-outcome-preserved c =
    one_more_outcome c.args.outcomes.now c.loop-outcome.outcome-index c.outcome-item.result c.loop-outcome.last c.later-last.result c.loop-outcome-test.true c.outcome-item.is c.loop-outcome.invariant c.later-last.ensures
