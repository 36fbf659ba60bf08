use Rattle.std.proofs.Common.{◌≤◌, ◌^◌, length, take}
use Rattle.pg_keyed.specs.Lists.{Each}
use Rattle.pg_join.proofs.rows.is_short.Given as goal

abbrev pub invariant-loop-binding : goal.invariant-loop-binding
invariant-loop-binding l = Each (λ b. length b.now.edges ≤ 2 ^ 47) (take l.binding-index l.tuple)
