use Rattle.std.proofs.Common.{◌*◌}
use Rattle.std.specs.Prelude.{min}
use Rattle.pg_script.specs.Generated.{insert_line, draws_before}
use Rattle.pg_script.proofs.GeneratedLaws.{SoFar}
use Rattle.pg_script.proofs.generated.push_inserts.Given as goal

abbrev pub invariant-loop-place : goal.invariant-loop-place
invariant-loop-place l = SoFar (insert_line l.fn.draws.seed l.persons l.filled l.count) (draws_before l.filled (min (100 * l.place) l.count)) l.place l.initial.out l.out l.fn.draws l.draws
