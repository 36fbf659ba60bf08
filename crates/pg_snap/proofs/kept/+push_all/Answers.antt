use Rattle.pg_snap.proofs.KeptLaws.{room_left}
use Rattle.pg_snap.proofs.kept.+push_all.Goals as goal

pub push-requires : goal.push-requires
push-requires t c = room_left c.args.buf.now c.push_all.new.buf c.args.runs.now c.in-len1-up.len_at_least c.requires c.in_ok-push_all-in-len1-up.ensures
