use Rattle.std.proofs.Common.{◌≡◌, drop, map}
use Rattle.std.specs.List.{list_any}
use Rattle.pg_check.specs.UsePlaces.{is_single}
use Rattle.pg_check.specs.Gathered.{use_view}
use Rattle.pg_check.proofs.groups.any_single.Given as goal

abbrev pub invariant-loop-one : goal.invariant-loop-one
invariant-loop-one l = list_any (is_single l.variables) (map use_view l.used) ≡ list_any (is_single l.variables) (map use_view (drop l.one-index l.used))
