use Rattle.std.proofs.Common.{◌≡◌, drop}
use Rattle.pg_rules.specs.Changes.{is_place}
use Rattle.pg_write.proofs.change.places.is_place.Given as goal

abbrev pub invariant-loop-other : goal.invariant-loop-other
invariant-loop-other l = is_place l.place (drop l.other-index l.places) ≡ is_place l.place l.places
