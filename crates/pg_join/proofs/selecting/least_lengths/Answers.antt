use Rattle.std.proofs.Common.{take, sym, subst}
use Rattle.indexmap.specs.IndexMap.{get}
use Rattle.pg_value.specs.Graph.{same_elem}
use Rattle.pg_join.specs.Ends.{IsLeast}
use Rattle.pg_join.proofs.Steps.{take_next, take_whole}
use Rattle.pg_join.proofs.selecting.least_lengths.Goals as goal

pub loop-binding-preserved : goal.loop-binding-preserved
loop-binding-preserved c = λ e.
    let i = c.loop-binding.binding-index in
    subst (λ bs. IsLeast bs e (get same_elem c.note_length.new.least e)) (sym (take_next c.args.found.now i c.binding-item.result c.loop-binding-test.true c.binding-item.is))
    (c.in_ok-note_length.ensures (take i c.args.found.now) c.loop-binding.invariant e)

pub returns : goal.returns
returns c = λ e.
    subst (λ bs. IsLeast bs e (get same_elem c.loop-binding.least e)) (take_whole c.args.found.now c.loop-binding.binding-index c.loop-binding-test.false) (c.loop-binding.invariant e)
