use Rattle.std.proofs.Common.{◌∙◌, ap}
use Rattle.pg_rules.specs.Places.{least}
use Rattle.pg_rules.specs.Queries.Collections.{inner}
use Rattle.pg_check.specs.UsePlaces.{aggregate_places}
use Rattle.pg_check.proofs.Judging.{over}
use Rattle.pg_check.proofs.UseLaws.{inside_same}
use Rattle.pg_check.proofs.judge.inside.Goals as goal

pub returns : goal.returns
returns c = λ q h. c.aggregate_among.ensures ∙ ap least (over aggregate_places c.args.inner.now (inner q) h ∙ inside_same q)
