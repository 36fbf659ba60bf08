use Rattle.pg_script.proofs.Passes.After.{too_short}
use Rattle.pg_script.proofs.after.begins_after.Goals as goal

pub returns-then-bytes-lt5 : goal.returns-then-bytes-lt5
returns-then-bytes-lt5 c = too_short c.args.bytes.now c.if-bytes-lt5.true
