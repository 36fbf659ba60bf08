use Rattle.std.specs.Prelude.{slice_index_or}
use Rattle.pg_short.proofs.Along.{in_at}
use Rattle.pg_short.proofs.any.ends.Goals as goal

pub push_end-requires-clause-number : goal.push_end-requires-clause-number
push_end-requires-clause-number c = c.requires.numbers (slice_index_or c.args.order.now c.loop-number.number-index 0) (in_at c.args.order.now c.loop-number.number-index 0 c.loop-number-test.true)
