use Rattle.std.proofs.Common.{subst, sym, ap, ◌∙◌}
use Rattle.pg_keyed.specs.Keyed.{put}
use Rattle.pg_value.specs.Order.{key_cmp}
use Rattle.pg_value.specs.Log as log
use Rattle.pg_view.specs.Lists.{joined}
use Rattle.pg_snap.specs.Bases.{ends_held}
use Rattle.pg_snap.specs.Sides.{vertex_key, with_edges, AreSides}
use Rattle.pg_snap.proofs.FoldLaws.{folded}
use Rattle.pg_snap.proofs.StepLaws.{if_ok}
use Rattle.pg_snap.proofs.fold.Fold.vertices.Goals as goal

pub returns : goal.returns
returns g c =
    let f = c.args.self.now in
    let t = c.in_ok-touched in
    if_ok c.merged.result _ _
    (λ merged e. subst (AreSides f.dir (ends_held (log.put (joined f.rows.now) f.run.now.writes) f.shape.now)) (sym (e ∙ ap (put vertex_key vertex_key with_edges key_cmp f.old.now) (c.as_slice.ensures.value ∙ c.in_ok-changes.ensures.value)))
    (folded f t.touched c.requires.shape c.requires.hold c.requires.in_order c.well_made.ensures.in_order c.len.ensures.in_order c.requires.sides c.in_ok-changes.ensures.in_order t.ensures.new t.ensures.all))
    c.merged.ensures
