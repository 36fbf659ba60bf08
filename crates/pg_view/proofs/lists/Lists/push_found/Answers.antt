use Rattle.std.proofs.Common.{ap, sym, subst, ◌∙◌}
use Rattle.std.specs.Prelude.{slice_get}
use Rattle.pg_value.specs.Tables.{held_in}
use Rattle.pg_adj.specs.Groups.{AreGroups}
use Rattle.pg_view.specs.RowEnds.{all_ends}
use Rattle.pg_view.specs.Sides.{side_at}
use Rattle.pg_view.proofs.HopLaws.{built}
use Rattle.pg_view.proofs.lists.Lists.push_found.Goals as goal

pub push_group-requires : goal.push_group-requires
push_group-requires g c =
    let shape = c.args.shape.now in
    let rows = sym (c.self.invariant.0.hold shape.table) ∙ ap (λ v. held_in shape.table v.tables) c.self.view_is in
    subst (λ xs. AreGroups c.args.dir (all_ends shape xs) c.in-Some.ends.now) rows
    (built c.self.inside.lists.now c.self.inside.shapes.now.edges c.self.inside.sides.items c.args.edge.0 shape c.args.dir c.in-Some.ends.now c.self.invariant.1
    (ap (λ v. slice_get v.shapes.edges c.args.edge.0) c.self.view_is ∙ c.requires)
    (c.in-Some.ensures ∙ ap (λ xs. side_at xs c.args.edge c.args.dir) c.as_slice.ensures.value))
