use Rattle.std.proofs.Common.{◌≡◌, drop}
use Rattle.std.specs.List.{flat_map}
use Rattle.pg_rules.specs.Places.{least, sooner}
use Rattle.pg_check.specs.Passes.{large_path}
use Rattle.pg_check.proofs.limits.large_paths.Given as goal

abbrev pub invariant-loop-path : goal.invariant-loop-path
invariant-loop-path l = sooner l.found (least (flat_map large_path (drop l.path-index l.paths))) ≡ least (flat_map large_path l.paths)
