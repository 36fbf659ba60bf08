use Rattle.std.proofs.Common.{◌∙◌}
use Rattle.pgq.proofs.Commits.TakenOut.{behind_all}
use Rattle.pgq.proofs.rows.push_row.Goals as goal

pub returns : goal.returns
returns c = c.in_ok-put.ensures.ok ∙ behind_all c.args.rows.now c.args.row c.requires
