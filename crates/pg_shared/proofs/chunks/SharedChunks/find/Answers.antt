use Rattle.std.proofs.Common.{sym, ◌∙◌}
use Rattle.pg_shared.proofs.Items.{found}
use Rattle.pg_shared.proofs.chunks.SharedChunks.find.Goals as goal

pub returns-in-Ok-clause-value : goal.returns-in-Ok-clause-value
returns-in-Ok-clause-value g c = sym (c.in-Ok.ensures.value.2 ∙ found c.args.self.now c.in-Ok.at c.at.result.now c.in-Ok.ensures.value.1 c.at.ensures)
