use Rattle.pg_short.proofs.SameSpots.{added_of}
use Rattle.pg_short.proofs.visited.put.Goals as goal

pub returns : goal.returns
returns c = added_of c.args.spots.now.keys c.args.spot c.insert.new.self.keys c.in_ok-new.new c.in_ok-new.ensures.keys c.in_ok-new.ensures.added
