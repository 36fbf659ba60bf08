use Rattle.pg_value.specs.Hashing.{one_elem}
use Rattle.pg_search.proofs.Putting.{same_self, put_when, place_when}
use Rattle.pg_search.proofs.numbered.insert_elem.Goals as goal

pub returns-clause-put : goal.returns-clause-put
returns-clause-put c = put_when _ one_elem same_self c.args.elems.now c.args.elem c.insert.new.self c.insert.result c.insert.ensures.keys

pub returns-clause-place : goal.returns-clause-place
returns-clause-place c = place_when _ one_elem same_self c.args.elem c.insert.new.self c.insert.result c.insert.ensures.stored
