use Rattle.std.proofs.Common.{ap, sym, subst, ◌∙◌}
use Rattle.pg_value.specs.declared.shape.Shapes.{Shapes}
use Rattle.pg_value.specs.Tables.{FitTables}
use Rattle.pg_view.specs.Lists.{AreLists, joined}
use Rattle.pg_snap.specs.Bases.{BaseOf}
use Rattle.pg_snap.specs.Sides.{AreSidesOf}
use Rattle.pg_snap.proofs.MergedLaws.{reshaped_lists, reshaped_whole}
use Rattle.pg_snap.proofs.base.Base.reshaped.Goals as goal

pub built-requires-clause-rows : goal.built-requires-clause-rows
built-requires-clause-rows c =
    let b = c.self.inside in
    let fit = subst (λ (x : BaseOf). FitTables c.args.shapes.now x.tables) (sym c.self.view_is) c.requires.fit in
    (reshaped_lists c.lists_are_tables.ensures b.shapes c.args.shapes.now b.rows c.in_ok-rows.rows c.self.invariant.0 c.requires.sound fit c.in_ok-rows.ensures).hold

pub invariant_of-result : goal.invariant_of-result
invariant_of-result c =
    let b = c.self.inside in
    let fit = subst (λ (x : BaseOf). FitTables c.args.shapes.now x.tables) (sym c.self.view_is) c.requires.fit in (
      subst (λ s. AreLists s c.in_ok-rows.rows) (sym c.in_ok-share.ensures)
          (reshaped_lists c.lists_are_tables.ensures b.shapes c.args.shapes.now b.rows c.in_ok-rows.rows c.self.invariant.0 c.requires.sound fit c.in_ok-rows.ensures),
      subst (λ (s : Shapes). AreSidesOf s.edges (joined c.in_ok-rows.rows) c.in_ok-sides.sides) (c.get.ensures ∙ sym c.in_ok-share.ensures) c.in_ok-sides.ensures,
    )

pub returns : goal.returns
returns c =
    let b = c.self.inside in
    λ i. record {
      shapes = c.in_ok-share.ensures i;
      no = ap (λ (x : BaseOf). x.no) c.self.view_is i;
      tables = (reshaped_whole c.lists_are_tables.ensures b.shapes b.rows c.in_ok-rows.rows c.self.invariant.0 c.in_ok-rows.ensures ∙ ap (λ (x : BaseOf). x.tables) c.self.view_is) i;
    }
