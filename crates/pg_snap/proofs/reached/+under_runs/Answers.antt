use Rattle.std.proofs.Common.{◌≤◌, ◌+◌, ◌*◌, length, subst, ap, ◌∙◌}
use Rattle.pg_run.specs.Runs.{RunOf}
use Rattle.pg_snap.specs.Costs.{run_search, run_cost}
use Rattle.pg_snap.specs.Under.{plains, under_run}
use Rattle.pg_snap.proofs.StepLaws.{runs_step, run_len}
use Rattle.pg_snap.proofs.reached.+under_runs.Goals as goal

pub returns-in_ok-news-in-len1-up-clause-cost : goal.returns-in_ok-news-in-len1-up-clause-cost
returns-in_ok-news-in-len1-up-clause-cost g t c =
    let v = c.args.vertex.now.values in
    let n = c.in_ok-news-in-len1-up in
    let table = c.args.shape.now.table in
    runs_step c.args.edge c.args.dir v table c.args.runs.now c.run-item.result (length c.args.olds.items) (length n.news.items) c.args.steps.now c.under_run.new.steps c.under_runs.new.steps c.in-len1-up.len_at_least c.run-item.is
    (subst (λ (r : RunOf). c.under_run.new.steps ≤ c.args.steps.now + run_search c.args.edge r + length c.args.olds.items * run_cost table r) c.get.ensures n.ensures.cost)
    (run_len c.args.edge c.args.dir v table c.args.olds.items n.news.items c.run-item.result (n.ensures.value ∙ ap (under_run c.args.edge c.args.dir v table (plains c.args.olds.items)) c.get.ensures))
    c.under_runs.ensures.cost
