use Rattle.pg_script.proofs.Passes.After.{no_gap}
use Rattle.pg_script.proofs.after.behind_gap.Goals as goal

pub returns-then-len-eq0 : goal.returns-then-len-eq0
returns-then-len-eq0 c = no_gap c.args.bytes.now c.gap_len-len.result c.gap_len-len.ensures.gap c.if-len-eq0.true
