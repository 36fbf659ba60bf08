use Rattle.std.proofs.Common.{◌+◌, ◌*◌}
use Rattle.pg_script.specs.Generated.{update_line}
use Rattle.pg_script.proofs.GeneratedLaws.{SoFar}
use Rattle.pg_script.proofs.generated.push_updates.Given as goal

abbrev pub invariant-loop-place : goal.invariant-loop-place
invariant-loop-place l = SoFar (update_line l.fn.draws.seed l.persons) (12 * l.persons + l.place) l.place l.initial.out l.out l.fn.draws l.draws
