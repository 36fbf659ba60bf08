use Rattle.pg_chunks.proofs.Changes.{add_ascends, add_is}
use Rattle.pg_chunks.proofs.chunks.Chunks.add.Goals as goal

pub invariant_of-self : goal.invariant_of-self
invariant_of-self g c = add_ascends g.T.Keyed.key_of g.T.Keyed.key_cmp g.met.T.Keyed.exact c.insert.result c.self.inside.parts c.args.self.now c.insert.new.self c.args.item c.args.at c.self.view_is c.self.invariant c.requires c.insert.ensures.ok c.insert.ensures.err

pub returns-clause-ok : goal.returns-clause-ok
returns-clause-ok g c = add_is g.T.Keyed.key_of g.T.Keyed.key_cmp g.met.T.Keyed.exact c.insert.result c.self.inside.parts c.args.self.now c.insert.new.self c.args.item c.args.at c.self.view_is c.self.invariant c.requires c.insert.ensures.ok
