use Rattle.std.proofs.Common.{◌∷◌, [], ℕ, List, map, take, subst}
use Rattle.std.specs.Prelude.{slice_index_or}
use Rattle.pg_auto.specs.Autos.{stage_view}
use Rattle.pg_auto.specs.States.{Walked}
use Rattle.pg_short.specs.Found.{steps_in}
use Rattle.pg_short.specs.Rests.{PutBack, left_of}
use Rattle.pg_short.proofs.Along.{in_at}
use Rattle.pg_short.proofs.NumberedRests.{within_stays, left_stays}
use Rattle.pg_short.proofs.Keeping.{put_none, put_more, take_at}
use Rattle.pg_short.proofs.back.put_steps.Goals as goal

pub loop-number-init : goal.loop-number-init
loop-number-init c = put_none (map stage_view c.args.stages.now) (steps_in c.args.search.now) c.args.search.now.order.items c.args.numbers.now c.args.states.now (left_of c.args.numbers.now c.args.rest) c.requires.kept

pub put_step-requires-clause-tight : goal.put_step-requires-clause-tight
put_step-requires-clause-tight c = c.requires.tight (slice_index_or c.args.tight.now c.loop-number.number-index 0) (in_at c.args.tight.now c.loop-number.number-index 0 c.loop-number-test.true)

pub put_step-requires-clause-kept : goal.put_step-requires-clause-kept
put_step-requires-clause-kept c = c.loop-number.invariant.puts.within

pub put_step-requires-clause-rest : goal.put_step-requires-clause-rest
put_step-requires-clause-rest c = within_stays c.args.numbers.now c.loop-number.numbers c.loop-number.invariant.puts.grow c.args.rest c.requires.rest

pub loop-number-preserved : goal.loop-number-preserved
loop-number-preserved c =
    let at = c.loop-number in
    let stages = map stage_view c.args.stages.now in
    let found = steps_in c.args.search.now in
    let order = c.args.search.now.order.items in
    let n = c.args.numbers.now in
    let number = slice_index_or c.args.tight.now at.number-index 0 in
    let put = subst (λ (w : Walked). PutBack stages found order (number ∷ []) w at.numbers c.put_step.new.numbers at.states c.put_step.new.states)
    (left_stays n at.numbers at.invariant.puts.grow c.args.rest c.requires.rest) c.in_ok-put_step.ensures in
    subst (λ (ks : List ℕ). PutBack stages found order ks (left_of n c.args.rest) n c.put_step.new.numbers c.args.states.now c.put_step.new.states) (take_at c.args.tight.now at.number-index 0 c.loop-number-test.true)
    (put_more stages found order n at.numbers c.put_step.new.numbers c.args.states.now at.states c.put_step.new.states (take at.number-index c.args.tight.now) number (left_of n c.args.rest) at.invariant put)
