use Rattle.std.proofs.Common.{[], refl}
use Rattle.pg_snap.proofs.Growing.{run_more}
use Rattle.pg_snap.proofs.vertices.copies.Goals as goal

pub runs-preserved : goal.runs-preserved
runs-preserved c = run_more (λ xs. xs) (λ xs ys. refl) [] c.runs.all.items c.push_copies.new.all.items c.args.vertices.now c.run-run.result.now c.runs.at _ c.run-run.ensures refl c.runs.invariant.0 c.in-Ok.ensures
