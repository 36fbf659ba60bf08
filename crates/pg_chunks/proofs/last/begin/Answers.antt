use Rattle.std.proofs.Common.{◌∙◌, arith}
use Rattle.pg_chunks.proofs.Keeps.{take_all}
use Rattle.pg_chunks.proofs.last.begin.Goals as goal

pub returns-then-is_err-clause-same : goal.returns-then-is_err-clause-same
returns-then-is_err-clause-same g c = let f = c.requires in c.in-Ok.ensures.items ∙ take_all 127 c.args.last.now.items (omega arith)

pub returns-in-Ok-push-clause-same : goal.returns-in-Ok-push-clause-same
returns-in-Ok-push-clause-same g c = let f = c.requires in c.in-Ok.ensures.items ∙ take_all 127 c.args.last.now.items (omega arith)
