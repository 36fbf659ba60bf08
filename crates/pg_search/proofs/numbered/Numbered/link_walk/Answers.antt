use Rattle.std.proofs.Common.{◌<◌, length, subst, sym}
use Rattle.pg_search.specs.Numbers.{Numbers, hop_of}
use Rattle.pg_search.specs.Steps.{IsLonger}
use Rattle.pg_search.proofs.Numbers.{push_walk, longer_walk, with_walks}
use Rattle.pg_search.proofs.numbered.Numbered.link_walk.Goals as goal

pub invariant_of-self-2 : goal.invariant_of-self-2
invariant_of-self-2 c =
    let n : Numbers = record { start = c.self.inside.start.now; elems = c.self.inside.elems; walks = c.self.inside.walks; names = c.self.inside.names } in
    push_walk n c.self.invariant c.args.walk c.args.edge c.args.to c.in_ok-number.number c.push.new.self
    (subst (λ (m : Numbers). c.args.edge < length m.elems) (sym c.self.view_is) c.requires.edge) (subst (λ (m : Numbers). c.args.to < length m.elems) (sym c.self.view_is) c.requires.to)
    c.in_ok-number.ensures.ok c.are_distinct.ensures

pub returns : goal.returns
returns c =
    let n : Numbers = record { start = c.self.inside.start.now; elems = c.self.inside.elems; walks = c.self.inside.walks; names = c.self.inside.names } in
    subst (λ (m : Numbers). IsLonger m c.args.walk (hop_of m (c.args.edge, c.args.to)) c.in_ok-number.number (with_walks n c.push.new.self)) c.self.view_is
    (longer_walk n c.self.invariant c.args.walk c.args.edge c.args.to c.in_ok-number.number c.push.new.self c.in_ok-number.ensures.ok)
