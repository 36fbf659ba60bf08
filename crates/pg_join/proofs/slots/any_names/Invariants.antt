use Rattle.std.proofs.Common.{◌≡◌, drop}
use Rattle.std.specs.List.{list_any}
use Rattle.pg_join.specs.Rows.{names}
use Rattle.pg_join.proofs.slots.any_names.Given as goal

abbrev pub invariant-loop-filler : goal.invariant-loop-filler
invariant-loop-filler l = list_any (names l.var) l.fillers ≡ list_any (names l.var) (drop l.filler-index l.fillers)
