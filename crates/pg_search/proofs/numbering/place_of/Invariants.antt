use Rattle.std.proofs.Common.{◌≡◌, drop}
use Rattle.std.specs.List.{list_any}
use Rattle.pg_search.proofs.numbering.place_of.Given as goal

abbrev pub invariant-loop-at : goal.invariant-loop-at
invariant-loop-at g l = list_any (g.K.PartialEq.eq l.item) l.items ≡ list_any (g.K.PartialEq.eq l.item) (drop l.at l.items)
