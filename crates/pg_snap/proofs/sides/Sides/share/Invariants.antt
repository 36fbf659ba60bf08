use Rattle.std.proofs.Common.{◌≡◌, take}
use Rattle.pg_snap.proofs.sides.Sides.share.Given as goal

abbrev pub invariant-loop-both : goal.invariant-loop-both
invariant-loop-both l = l.tables.items ≡ take l.both-index l.self
