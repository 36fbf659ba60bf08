use Rattle.std.proofs.Common.{◌∙◌, ◌≡◌, ap, sym, subst}
use Rattle.pg_value.specs.declared.shape.Shapes.{Shapes}
use Rattle.pg_value.specs.Tables.{FitWrites}
use Rattle.pg_run.specs.Runs.{RunOf}
use Rattle.pg_run.specs.Cuts.{joined}
use Rattle.pg_run.proofs.CutLaws.{merge_fits}
use Rattle.pg_run.proofs.run.Run.merge.Goals as goal

pub run_of-requires-clause-fit : goal.run_of-requires-clause-fit
run_of-requires-clause-fit c =
    let same : c.newer.inside.shapes ≡ c.older.inside.shapes = ap (λ (r : RunOf). r.shapes) c.newer.view_is ∙ sym c.requires.shapes ∙ sym (ap (λ (r : RunOf). r.shapes) c.older.view_is) in
    let whole = c.in_ok-tables.ensures.whole in
    subst (λ (s : Shapes). FitWrites s (joined c.in_ok-tables.tables.items)) (sym c.in_ok-share.ensures)
    (subst (FitWrites c.older.inside.shapes) (sym whole) (merge_fits c.older.inside.shapes _ _
    (subst (λ xs. FitWrites c.older.inside.shapes (joined xs)) (sym c.as_slice.ensures.value) c.older.invariant.1)
    (subst (λ (s : Shapes). FitWrites s (joined c.as_slice-2.result.now)) same (subst (λ xs. FitWrites c.newer.inside.shapes (joined xs)) (sym c.as_slice-2.ensures.value) c.newer.invariant.1))))
