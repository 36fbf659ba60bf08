use Rattle.pg_search.proofs.Putting.{distinct_after}
use Rattle.pg_search.proofs.states.States.put.Goals as goal

pub invariant_of-self : goal.invariant_of-self
invariant_of-self c = distinct_after c.self.inside.kept c.args.state c.insert.new.kept c.insert.result c.insert.ensures.ok c.insert.ensures.err c.self.invariant
