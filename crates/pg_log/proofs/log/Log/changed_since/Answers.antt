use Rattle.std.proofs.Common.{subst}
use Rattle.pg_log.specs.Logged.{Changed}
use Rattle.pg_log.proofs.Finds.{cut_is}
use Rattle.pg_log.proofs.log.Log.changed_since.Goals as goal

pub returns : goal.returns
returns c = subst (λ l. Changed l.list c.args.from c.args.writes.now.list c.changed_in.result) c.self.view_is
    (cut_is c.args.from _ _ c.args.writes.now.list c.changed_in.result c.as_slice.ensures.value c.changed_in.ensures)
