use Rattle.pg_search.proofs.Putting.{put_when, place_when}
use Rattle.pg_search.proofs.LinkedLists.{same_link, self_link}
use Rattle.pg_search.proofs.chains.insert_link.Goals as goal

pub returns-clause-put : goal.returns-clause-put
returns-clause-put c = put_when _ same_link self_link c.args.links.now c.args.link c.insert.new.self c.insert.result c.insert.ensures.keys

pub returns-clause-place : goal.returns-clause-place
returns-clause-place c = place_when _ same_link self_link c.args.link c.insert.new.self c.insert.result c.insert.ensures.stored
