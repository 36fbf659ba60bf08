use Rattle.std.proofs.Common.{sym, ◌∙◌}
use Rattle.pg_shared.proofs.Items.{first_of_run}
use Rattle.pg_shared.proofs.chunks.SharedChunks.at.Goals as goal

pub returns : goal.returns
returns g c = c.index-run-0.is ∙ sym (first_of_run c.args.self.now c.run.result.now c.args.at c.index-run-0.result c.run.ensures)
