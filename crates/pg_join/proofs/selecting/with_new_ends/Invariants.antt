use Rattle.std.proofs.Common.{◌≡◌, ◌++◌}
use Rattle.std.specs.Vec.Iter.{into_iter_items}
use Rattle.pg_join.proofs.Lengths.{Noted}
use Rattle.pg_join.proofs.selecting.with_new_ends.Given as goal

abbrev pub invariant-loop-binding : goal.invariant-loop-binding
invariant-loop-binding l = record { all : l.yielded ++ into_iter_items l.binding-iterator ≡ l.fn.found; noted : Noted l.yielded l.kept l.ends.keys }
