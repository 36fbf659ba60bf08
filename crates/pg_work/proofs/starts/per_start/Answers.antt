use Rattle.std.proofs.Common.{◌∙◌}
use Rattle.pg_work.proofs.Stretches.{given_for_all, ok_then}
use Rattle.pg_work.proofs.starts.per_start.Goals as goal

pub returns : goal.returns
returns g c = ok_then _ _ c.joined.result (λ made are. given_for_all (λ s. s.job.now) (λ s. s.starts.now) g.J.StartJob.promise c.args.job.now c.args.starts.now c.in_ok-tasks.tasks c.in_ok-parts.parts made (c.in_ok-tasks.ensures.whole ∙ c.as_slice.ensures) c.in_ok-tasks.ensures.job c.in_ok-parts.ensures are) c.joined.ensures
