use Rattle.pg_check.specs.declared.gather.InnerCondition.{InnerCondition}
use Rattle.pg_check.specs.UsePlaces.{strays_in}
use Rattle.pg_check.specs.Passes.{inner_view}
use Rattle.pg_check.proofs.Loops.{next_place}
use Rattle.pg_check.proofs.conditions.foreign_among.Goals as goal

pub loop-inner-preserved : goal.loop-inner-preserved
loop-inner-preserved c = next_place (λ (i : InnerCondition). strays_in (inner_view i)) c.loop-inner.found c.in_ok-place.place c.sooner-found.result c.args.conditions.now c.loop-inner.inner-index c.inner-item.result c.loop-inner-test.true c.inner-item.is c.in_ok-place.ensures c.sooner-found.ensures c.loop-inner.invariant
