use Rattle.std.proofs.Common.{◌≡◌, ◌+◌, ◌≤◌, min, drop, map}
use Rattle.pg_meaning.specs.Outlines.{length_number}
use Rattle.pg_rules.specs.Queries.Collections.{outline_of}
use Rattle.pg_check.proofs.limits.length_of.Given as goal

abbrev pub invariant-loop-part : goal.invariant-loop-part
invariant-loop-part l = record {
  small : l.total ≤ 1001;
  counted : min (l.total + length_number (map outline_of (drop l.part-index l.parts))) 1001 ≡ min (length_number (map outline_of l.parts)) 1001;
}
