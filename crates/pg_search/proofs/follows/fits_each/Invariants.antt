use Rattle.std.proofs.Common.{◌≡◌, true, take}
use Rattle.std.specs.List.{list_all}
use Rattle.pg_search.specs.Seen.{fits}
use Rattle.pg_search.proofs.follows.fits_each.Given as goal

abbrev pub invariant-loop-mention : goal.invariant-loop-mention
invariant-loop-mention l = list_all (fits l.m) (take l.mention-index l.seen) ≡ true
