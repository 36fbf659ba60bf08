use Rattle.pg_value.specs.TablesLaws.{put_after_put}
use Rattle.pg_run.proofs.laws.merge_is_put_after_put.Goals as goal

pub returns : goal.returns
returns c = put_after_put
