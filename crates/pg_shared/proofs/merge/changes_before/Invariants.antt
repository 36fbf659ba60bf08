use Rattle.std.proofs.Common.{◌≡◌, true, take}
use Rattle.pg_keyed.specs.Lists.{Each}
use Rattle.pg_shared.specs.Changes.{is_named_before}
use Rattle.pg_shared.proofs.merge.changes_before.Given as goal

abbrev pub invariant-loop-i : goal.invariant-loop-i
invariant-loop-i g l = Each (λ w. is_named_before g.T.Keyed.key_of g.C.Change.named g.T.Keyed.key_cmp l.item w ≡ true) (take l.i l.changes)
