use Rattle.std.proofs.Common.{◌≡◌, drop}
use Rattle.std.specs.List.{flat_map}
use Rattle.pg_rules.specs.Places.{least, sooner}
use Rattle.pg_check.specs.Passes.{unlabelled_part}
use Rattle.pg_check.proofs.labels.unlabelled_paths.Given as goal

abbrev pub invariant-loop-path : goal.invariant-loop-path
invariant-loop-path l = sooner l.found (least (flat_map (λ p. flat_map (unlabelled_part l.names) p.parts) (drop l.path-index l.paths))) ≡ least (flat_map (λ p. flat_map (unlabelled_part l.names) p.parts) l.paths)
