use Rattle.std.proofs.Common.{◌≡◌, ◌+◌, ◌++◌, ℕ}
use Rattle.pg_script.specs.Generated.{each_below, further_row, draws_before}
use Rattle.pg_script.proofs.GeneratedLaws.{SoFar}
use Rattle.pg_script.proofs.generated.push_rows.Given as goal

abbrev pub invariant-loop-k : goal.invariant-loop-k
invariant-loop-k l = SoFar (λ (k : ℕ). further_row l.fn.draws.seed l.persons l.filled (l.first + 1 + k)) (draws_before l.filled (l.first + 1 + l.k)) l.k l.initial.out l.out l.fn.draws l.draws
