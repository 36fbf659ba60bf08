use Rattle.pg_search.proofs.Putting.{put_of}
use Rattle.pg_search.proofs.KeptStates.{same_kept, self_kept}
use Rattle.pg_search.proofs.states.insert.Goals as goal

pub returns-clause-ok : goal.returns-clause-ok
returns-clause-ok c = put_of _ same_kept self_kept c.args.kept.now c.args.state c.insert.new.self c.in_ok-insert.ensures.keys
