use Rattle.std.proofs.Common.{◌≡◌, take, map}
use Rattle.pg_rules.specs.Queries.CheckedQueries.{checked_part}
use Rattle.pg_check.specs.Resolved.{names_in}
use Rattle.pg_check.proofs.resolve.checked_parts.Given as goal

abbrev pub invariant-loop-part : goal.invariant-loop-part
invariant-loop-part l = l.out ≡ map (checked_part l.catalog l.graph (names_in l.variables)) (take l.part-index l.parts)
