use Rattle.pg_chunks.proofs.Changes.{set_ascends, set_is}
use Rattle.pg_chunks.proofs.chunks.Chunks.replace.Goals as goal

pub invariant_of-self : goal.invariant_of-self
invariant_of-self g c = set_ascends g.T.Keyed.key_of g.T.Keyed.key_cmp g.met.T.Keyed.exact c.self.inside.parts c.args.self.now c.set.new.self c.args.item c.args.at c.self.view_is c.self.invariant c.requires c.set.ensures

pub returns : goal.returns
returns g c = set_is g.T.Keyed.key_of g.T.Keyed.key_cmp g.met.T.Keyed.exact c.self.inside.parts c.args.self.now c.set.new.self c.args.item c.args.at c.self.view_is c.self.invariant c.requires c.set.ensures
