use Rattle.std.proofs.Common.{◌≡◌, false, take}
use Rattle.pg_search.specs.Searches.{is_among}
use Rattle.pg_search.proofs.search.is_among.Given as goal

abbrev pub invariant-loop-other : goal.invariant-loop-other
invariant-loop-other l = is_among (take l.other-index l.tables) l.table ≡ false
