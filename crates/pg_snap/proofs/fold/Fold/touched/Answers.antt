use Rattle.std.proofs.Common.{◌<◌, List, length, get_or, subst, ap, ◌∙◌}
use Rattle.pg_value.specs.declared.write.Write.{Write}
use Rattle.pg_value.specs.TablesLaws.{writes_to}
use Rattle.pg_snap.proofs.FoldLaws.{touched_more}
use Rattle.pg_snap.proofs.fold.Fold.touched.Goals as goal

pub writes-preserved : goal.writes-preserved
writes-preserved g c =
    let f = c.args.self.now in
    let i = c.writes.write-index in
    let w = c.write-item.result in
    let e = c.writes-write-items.ensures.value in
    touched_more f (writes_to f.shape.now.table f.run.now.writes) i w c.writes.touched c.touch_both.new.touched (subst (λ (ws : List Write). i < length ws) e c.writes-test.true) (c.write-item.is ∙ ap (λ (ws : List Write). get_or ws i w) e)
    c.writes.invariant c.in-Ok.ensures.more c.in-Ok.ensures.there
