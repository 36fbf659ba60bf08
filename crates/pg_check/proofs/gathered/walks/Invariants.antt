use Rattle.std.proofs.Common.{◌≡◌, drop, map, ◌++◌}
use Rattle.pg_check.specs.Passes.{path_walks}
use Rattle.pg_check.proofs.gathered.walks.Given as goal

abbrev pub invariant-loop-path : goal.invariant-loop-path
invariant-loop-path l = l.out.items ++ map path_walks (drop l.path-index l.paths) ≡ map path_walks l.paths
