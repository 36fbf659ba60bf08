use Rattle.std.proofs.Common.{◌∙◌}
use Rattle.pg_run.proofs.CutLaws.{if_ok}
use Rattle.pg_run.proofs.EndsLaws.{table_is}
use Rattle.pg_run.proofs.ends.table_ends.Goals as goal

pub returns : goal.returns
returns c = if_ok c.all_write_ends.result _ _ (λ all e. e ∙ table_is c.args.shape.now c.args.lists.now c.writes_of.result.now c.requires c.writes_of.ensures) c.all_write_ends.ensures
