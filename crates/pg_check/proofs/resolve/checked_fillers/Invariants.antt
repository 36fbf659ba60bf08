use Rattle.std.proofs.Common.{◌≡◌, take, map}
use Rattle.pg_rules.specs.Queries.CheckedQueries.{checked_filler}
use Rattle.pg_check.specs.Resolved.{names_in}
use Rattle.pg_check.proofs.resolve.checked_fillers.Given as goal

abbrev pub invariant-loop-filler : goal.invariant-loop-filler
invariant-loop-filler l = l.out ≡ map (checked_filler l.catalog l.graph (names_in l.variables) l.edge) (take l.filler-index l.fillers)
