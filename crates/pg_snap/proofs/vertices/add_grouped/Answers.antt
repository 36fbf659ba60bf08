use Rattle.std.proofs.Common.{◌≡◌, subst, sym, ap, ◌∙◌}
use Rattle.pg_adj.specs.Groups.{group_at}
use Rattle.pg_snap.specs.Folds.{Has, IsGrouped}
use Rattle.pg_snap.specs.Under.{plains, grouped}
use Rattle.pg_snap.proofs.VertexLaws.{on_ok, one_more, has_one}
use Rattle.pg_snap.proofs.vertices.add_grouped.Goals as goal

pub returns-in_ok-sides-in-Err-clause-more : goal.returns-in_ok-sides-in-Err-clause-more
returns-in_ok-sides-in-Err-clause-more g c =
    let sides : c.in_ok-sides-in-Err.sides ≡ grouped (group_at c.args.key.now.values c.args.groups.now) =
    c.in_ok-sides-in-Err.ensures ∙ ap plains c.as_slice.ensures.value ∙ c.in_ok-all-in-Err.ensures ∙ ap grouped c.group.ensures.value in
    on_ok c.add_vertex.result _ _ (λ e. one_more (IsGrouped c.args.groups.now) c.args.vertices.now c.add_vertex.new.vertices (record { key = c.args.key.now; sides = c.in_ok-sides-in-Err.sides }) c.place_of.ensures.in_order sides e) c.add_vertex.ensures

pub returns-in_ok-sides-in-Err-clause-there : goal.returns-in_ok-sides-in-Err-clause-there
returns-in_ok-sides-in-Err-clause-there g c =
    on_ok c.add_vertex.result _ _ (λ e. subst (Has c.args.key.now.values) (sym e) (has_one c.args.vertices.now (record { key = c.args.key.now; sides = c.in_ok-sides-in-Err.sides }) c.place_of.ensures.in_order)) c.add_vertex.ensures
