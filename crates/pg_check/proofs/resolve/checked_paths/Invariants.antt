use Rattle.std.proofs.Common.{◌≡◌, take, map}
use Rattle.pg_rules.specs.Queries.CheckedQueries.{checked_path}
use Rattle.pg_check.specs.Resolved.{names_in}
use Rattle.pg_check.proofs.resolve.checked_paths.Given as goal

abbrev pub invariant-loop-path : goal.invariant-loop-path
invariant-loop-path l = l.out ≡ map (checked_path l.catalog l.graph (names_in l.variables)) (take l.path-index l.paths)
