use Rattle.std.proofs.Common.{◌≡◌, true, take}
use Rattle.pg_keyed.specs.Lists.{Each}
use Rattle.pg_shared.specs.Changes.{is_before}
use Rattle.pg_shared.proofs.merge.items_before.Given as goal

abbrev pub invariant-loop-i : goal.invariant-loop-i
invariant-loop-i g l = Each (λ x. is_before g.T.Keyed.key_of g.C.Change.named g.T.Keyed.key_cmp l.change x ≡ true) (take l.i l.items)
