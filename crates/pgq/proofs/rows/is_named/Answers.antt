use Rattle.std.proofs.Common.{◌∙◌}
use Rattle.pg_value.specs.Writes.{named}
use Rattle.pgq.proofs.Commits.TakenOut.{sought_named}
use Rattle.pgq.proofs.rows.is_named.Goals as goal

pub returns : goal.returns
returns c = c.is_ok.ensures.value ∙ sought_named (named c.args.sought.now) c.args.writes.now.list c.place_of.result c.place_of.ensures.value
