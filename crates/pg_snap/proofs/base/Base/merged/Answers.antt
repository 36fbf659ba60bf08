use Rattle.std.proofs.Common.{ap, sym, subst, ◌∙◌}
use Rattle.pg_value.specs.declared.shape.Shapes.{Shapes}
use Rattle.pg_value.specs.Tables.{Tables, FitWrites}
use Rattle.pg_value.specs.Log.{put}
use Rattle.pg_view.specs.Lists.{AreLists, joined}
use Rattle.pg_snap.specs.Bases.{BaseOf}
use Rattle.pg_snap.specs.Sides.{AreSidesOf}
use Rattle.pg_snap.proofs.MergedLaws.{merged_lists, merged_whole}
use Rattle.pg_snap.proofs.base.Base.merged.Goals as goal

pub invariant_of-result : goal.invariant_of-result
invariant_of-result c =
    let b = c.self.inside in
    let ws = c.args.run.now.writes in
    let of_base = ap (λ (x : BaseOf). x.shapes) c.self.view_is in
    let shapes = c.in_ok-share.ensures ∙ of_base in
    let fit = subst (λ s. FitWrites s ws) (c.requires.shapes ∙ sym of_base) c.well_made.ensures.fit in
    let lists = merged_lists c.lists_are_tables.ensures b.shapes b.rows c.in_ok-rows.rows c.lists.result.now ws c.self.invariant.0 c.well_made.ensures.in_order fit c.lists.ensures.value c.in_ok-rows.ensures in
    let whole = merged_whole c.lists_are_tables.ensures b.shapes b.rows c.in_ok-rows.rows c.lists.result.now ws c.self.invariant.0 c.well_made.ensures.in_order c.lists.ensures.value c.in_ok-rows.ensures
    ∙ ap (λ (x : BaseOf). put x.tables ws) c.self.view_is in (
      subst (λ s. AreLists s c.in_ok-rows.rows) (sym (c.in_ok-share.ensures)) lists,
      subst (λ (s : Shapes). AreSidesOf s.edges (joined c.in_ok-rows.rows) c.in_ok-sides.sides) (sym shapes) (subst (λ (t : Tables). AreSidesOf c.args.self.now.shapes.edges t c.in_ok-sides.sides) (sym whole) c.in_ok-sides.ensures),
    )

pub returns : goal.returns
returns c =
    let b = c.self.inside in
    let ws = c.args.run.now.writes in
    λ i. record {
      shapes = (c.in_ok-share.ensures ∙ ap (λ (x : BaseOf). x.shapes) c.self.view_is) i;
      no = c.last.ensures i;
      tables = (merged_whole c.lists_are_tables.ensures b.shapes b.rows c.in_ok-rows.rows c.lists.result.now ws c.self.invariant.0 c.well_made.ensures.in_order c.lists.ensures.value c.in_ok-rows.ensures ∙ ap (λ (x : BaseOf). put x.tables ws) c.self.view_is) i;
    }
