use Rattle.std.proofs.Common.{◌<◌, [], ◌∷◌, length, subst, sym}
use Rattle.pg_search.specs.Numbers.{Numbers}
use Rattle.pg_search.specs.Steps.{IsNamed}
use Rattle.pg_search.proofs.Numbers.{push_name, named, with_names}
use Rattle.pg_search.proofs.numbered.Numbered.name.Goals as goal

pub invariant_of-self-2 : goal.invariant_of-self-2
invariant_of-self-2 c =
    let n : Numbers = record { start = c.self.inside.start.now; elems = c.self.inside.elems; walks = c.self.inside.walks; names = c.self.inside.names } in
    push_name n c.self.invariant c.args.names c.args.var c.args.elem c.in_ok-number.number c.push.new.self
    (subst (λ (m : Numbers). c.args.elem < length m.elems) (sym c.self.view_is) c.requires.elem)
    c.in_ok-number.ensures.ok c.are_distinct.ensures

pub returns : goal.returns
returns c =
    let n : Numbers = record { start = c.self.inside.start.now; elems = c.self.inside.elems; walks = c.self.inside.walks; names = c.self.inside.names } in
    subst (λ (m : Numbers). IsNamed m c.args.names ((c.args.var, c.args.elem) ∷ []) c.in_ok-number.number (with_names n c.push.new.self)) c.self.view_is
    (named n c.self.invariant c.args.names c.args.var c.args.elem c.in_ok-number.number c.push.new.self c.in_ok-number.ensures.ok)
