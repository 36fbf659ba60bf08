use Rattle.std.proofs.Common.{sym}
use Rattle.std.specs.Prelude.{Ok, Err}
use Rattle.pg_log.proofs.Finds.{sought_place}
use Rattle.pg_log.proofs.changed.place_in.Goals as goal

pub returns-in-Ok : goal.returns-in-Ok
returns-in-Ok c = sym (sought_place c.args.write.now c.args.writes.now.list (Ok c.in-Ok.at) c.place_of.ensures.in_order c.in-Ok.ensures.value)

pub returns-in-Err : goal.returns-in-Err
returns-in-Err c = sym (sought_place c.args.write.now c.args.writes.now.list (Err c.in-Err.field-0) c.place_of.ensures.in_order c.in-Err.ensures.value)
