use Rattle.std.proofs.Common.{rules, ◌≡◌, [], ◌∷◌, ◌++◌}
use Rattle.pg_outside.proofs.Zips.{zip_more}
use Rattle.pg_outside.proofs.spawner.+each_in_threads+fn-each_in_threads-join+arg3.Goals as goal

pub returns : goal.returns
returns g t c =
    let tasks : c.args.tasks.items ≡ c.pop.new.self.items ++ c.in-Some.task ∷ [] = search rules in
    let others = rw c.in_ok-made.was at c.join-last.ensures.second in
    rw (tasks, c.in_ok-push.ensures.items) (zip_more _ _ _ _ _ others c.join-last.ensures.first)
