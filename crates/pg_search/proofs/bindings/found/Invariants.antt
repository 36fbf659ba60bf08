use Rattle.std.proofs.Common.{◌≡◌, take}
use Rattle.std.specs.Prelude.{flat_map}
use Rattle.pg_search.specs.Found.{found_at}
use Rattle.pg_search.proofs.bindings.found.Given as goal

abbrev pub invariant-loop-i : goal.invariant-loop-i
invariant-loop-i l = l.out ≡ flat_map (found_at l.numbers l.count l.vars) (take l.i l.states)
