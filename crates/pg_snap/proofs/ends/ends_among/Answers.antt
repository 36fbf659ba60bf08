use Rattle.std.proofs.Common.{[], refl}
use Rattle.std.proofs.lemmas.List.Elements.{filter_map-append}
use Rattle.pg_view.specs.RowEnds.{ends_in, all_ends}
use Rattle.pg_snap.proofs.Growing.{run_more}
use Rattle.pg_snap.proofs.ends.ends_among.Goals as goal

pub runs-preserved : goal.runs-preserved
runs-preserved c =
    run_more (all_ends c.args.shape.now) (filter_map-append (ends_in c.args.shape.now)) [] c.runs.all c.push_ends.new.all c.args.rows.now c.run-run.result.now c.runs.at _ c.run-run.ensures refl
    c.runs.invariant.0 c.in-Ok.ensures
