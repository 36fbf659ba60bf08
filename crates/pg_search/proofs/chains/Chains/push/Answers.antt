use Rattle.std.proofs.Common.{◌<◌, ◌+◌, length, subst, sym}
use Rattle.pg_search.specs.Chains.{IsPushed, lists_of}
use Rattle.pg_search.proofs.LinkedLists.{put_links, pushed}
use Rattle.pg_search.proofs.chains.Chains.push.Goals as goal

pub invariant_of-self-2 : goal.invariant_of-self-2
invariant_of-self-2 c =
    put_links c.self.inside.links _ c.insert_link.new.links c.self.invariant (subst (λ ls. c.args.before < length ls) (sym c.self.view_is) c.requires) c.in_ok-place.ensures.put

pub returns-clause-ok : goal.returns-clause-ok
returns-clause-ok c = subst (λ ls. IsPushed ls c.args.before (c.args.first, c.args.second) (c.in_ok-place.place + 1) (lists_of c.insert_link.new.links)) c.self.view_is
    (pushed c.self.inside.links _ c.insert_link.new.links c.in_ok-place.place c.self.invariant (subst (λ ls. c.args.before < length ls) (sym c.self.view_is) c.requires) c.in_ok-place.ensures.put c.in_ok-place.ensures.place)
