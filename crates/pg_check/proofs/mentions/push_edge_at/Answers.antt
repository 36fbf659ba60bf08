use Rattle.std.proofs.Common.{map, arith}
use Rattle.std.specs.Prelude.{slice_get}
use Rattle.std.proofs.lemmas.Option.{slice_get_past}
use Rattle.pg_check.specs.Gathered.{spot_view}
use Rattle.pg_check.proofs.MentionLaws.{none_behind}
use Rattle.pg_check.proofs.mentions.push_edge_at.Goals as goal

pub returns-in-None : goal.returns-in-None
returns-in-None c = none_behind (map spot_view c.args.out.now.items) c.args.part (slice_get c.args.edges.now c.args.at) (slice_get_past c.args.edges.now c.args.at (omega (arith, c.in-None.ensures.lookup)))
