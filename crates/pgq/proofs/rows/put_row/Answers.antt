use Rattle.std.proofs.Common.{◌∙◌, sym}
use Rattle.pgq.proofs.Commits.RowPuts.{one_put}
use Rattle.pgq.proofs.rows.put_row.Goals as goal

pub returns : goal.returns
returns c = c.in_ok-put.ensures.ok ∙ sym (one_put c.args.rows.now c.args.write.now c.in_ok-stored.stored c.in_ok-stored.ensures)
