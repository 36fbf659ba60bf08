use Rattle.std.proofs.Common.{◌≡◌, []}
use Rattle.std.specs.Prelude.{Option, Some, None, IsSome, IfNone, slice_get}
use Rattle.pg_search.proofs.LinkedLists.{link_of, first_list, long_as}
use Rattle.pg_search.proofs.chains.Chains.link.Goals as goal

found : {X : Type 0} (o : Option X) (P : Type 0) → IsSome o → IfNone o P
found None P h = absurd (cc)
found (Some x) P h = tt

pub returns-else-number-eq0-clause-none : goal.returns-else-number-eq0-clause-none
returns-else-number-eq0-clause-none c =
    found c.get.result (slice_get c.args.self.now c.args.number ≡ Some [])
    (c.get.ensures.found.1 (long_as c.self.inside.links c.args.self.now c.args.number c.self.view_is c.requires c.if-number-eq0.false))

pub returns-else-number-eq0-clause-some : goal.returns-else-number-eq0-clause-some
returns-else-number-eq0-clause-some c =
    link_of c.self.inside.links c.args.self.now c.args.number c.get.result c.self.view_is c.self.invariant c.if-number-eq0.false c.get.ensures.key

pub returns-then-number-eq0-clause-none : goal.returns-then-number-eq0-clause-none
returns-then-number-eq0-clause-none c = first_list c.self.inside.links c.args.self.now c.args.number c.self.view_is c.if-number-eq0.true
