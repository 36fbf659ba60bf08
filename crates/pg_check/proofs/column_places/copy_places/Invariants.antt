use Rattle.std.proofs.Common.{◌≡◌, take}
use Rattle.pg_check.proofs.column_places.copy_places.Given as goal

abbrev pub invariant-loop-place : goal.invariant-loop-place
invariant-loop-place l = l.out ≡ take l.place-index l.places
