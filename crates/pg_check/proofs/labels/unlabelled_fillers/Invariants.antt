use Rattle.std.proofs.Common.{◌≡◌, drop}
use Rattle.std.specs.List.{flat_map}
use Rattle.pg_rules.specs.Places.{least, sooner}
use Rattle.pg_check.specs.Passes.{unlabelled_in}
use Rattle.pg_check.proofs.labels.unlabelled_fillers.Given as goal

abbrev pub invariant-loop-filler : goal.invariant-loop-filler
invariant-loop-filler l = sooner l.found (least (flat_map (unlabelled_in l.names) (drop l.filler-index l.fillers))) ≡ least (flat_map (unlabelled_in l.names) l.fillers)
