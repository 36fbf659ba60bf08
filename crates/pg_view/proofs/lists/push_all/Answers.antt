use Rattle.std.proofs.Common.{map, refl}
use Rattle.pg_value.specs.Graph.{elem_of}
use Rattle.pg_view.proofs.Growing.{run_more}
use Rattle.pg_view.proofs.ViewLaws.{map_both}
use Rattle.pg_view.proofs.lists.push_all.Goals as goal

pub runs-preserved : goal.runs-preserved
runs-preserved c =
    run_more (map elem_of) (map_both elem_of) c.args.out.now c.runs.out c.push_rows.new.out c.args.rows.now c.run-run.result.now c.runs.at _ c.run-run.ensures refl
    c.runs.invariant.0 c.in-Ok.ensures
