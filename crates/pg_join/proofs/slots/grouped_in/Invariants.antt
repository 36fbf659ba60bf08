use Rattle.std.proofs.Common.{◌≡◌, drop}
use Rattle.pg_join.specs.Rows.{grouped_in}
use Rattle.pg_join.proofs.slots.grouped_in.Given as goal

abbrev pub invariant-loop-part : goal.invariant-loop-part
invariant-loop-part l = grouped_in l.var l.parts ≡ grouped_in l.var (drop l.part-index l.parts)
