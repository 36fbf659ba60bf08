use Rattle.std.proofs.Common.{sym, subst, ◌∙◌}
use Rattle.pg_view.specs.Lists.{joined}
use Rattle.pg_snap.specs.Sides.{AreBothSides}
use Rattle.pg_snap.proofs.MergedLaws.{nothing_put}
use Rattle.pg_snap.proofs.StepLaws.{if_ok, empty_is}
use Rattle.pg_snap.proofs.sides.BothSides.merged.Goals as goal

pub returns-then-is_empty : goal.returns-then-is_empty
returns-then-is_empty g c =
    let gone = sym c.writes.ensures.value ∙ empty_is c.writes.result.now c.is_empty.result c.is_empty.ensures c.if-is_empty.true in
    let same = nothing_put c.args.shape.now (joined c.args.rows.now) c.args.run.now.writes c.requires.in_order c.well_made.ensures.in_order gone in
    if_ok c.share.result _ _ (λ both e. subst (λ ends. AreBothSides ends both) (sym same) (subst (AreBothSides _) (sym e) c.requires.sides)) c.share.ensures
