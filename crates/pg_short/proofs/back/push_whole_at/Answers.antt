use Rattle.std.proofs.Common.{sym}
use Rattle.pg_short.proofs.Searching.{get_in}
use Rattle.pg_short.proofs.back.push_whole_at.Goals as goal

pub push_whole-requires : goal.push_whole-requires
push_whole-requires c = c.requires c.in-Some.rest (get_in c.args.states.now c.args.at c.in-Some.rest (sym c.in-Some.ensures))
