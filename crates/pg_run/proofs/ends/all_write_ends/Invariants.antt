use Rattle.std.proofs.Common.{◌≡◌, take}
use Rattle.std.specs.List.{filter_map}
use Rattle.pg_run.specs.Cuts.{write_ends}
use Rattle.pg_run.proofs.ends.all_write_ends.Given as goal

abbrev pub invariant-loop-write : goal.invariant-loop-write
invariant-loop-write l = l.all ≡ filter_map (write_ends l.shape) (take l.write-index l.writes)
