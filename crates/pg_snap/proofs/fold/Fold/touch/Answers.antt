use Rattle.std.proofs.Common.{subst, sym}
use Rattle.pg_snap.specs.Folds.{Has, IsNew}
use Rattle.pg_snap.proofs.VertexLaws.{on_ok, one_more, has_one}
use Rattle.pg_snap.proofs.fold.Fold.touch.Goals as goal

pub returns-in_ok-sides-in-Err-clause-more : goal.returns-in_ok-sides-in-Err-clause-more
returns-in_ok-sides-in-Err-clause-more g c =
    on_ok c.add_vertex.result _ _ (λ e. one_more (IsNew c.args.self.now) c.args.touched.now c.add_vertex.new.vertices (record { key = c.args.vertex.now; sides = c.in_ok-sides-in-Err.sides }) c.place_of.ensures.in_order c.in_ok-sides-in-Err.ensures e) c.add_vertex.ensures

pub returns-in_ok-sides-in-Err-clause-there : goal.returns-in_ok-sides-in-Err-clause-there
returns-in_ok-sides-in-Err-clause-there g c =
    on_ok c.add_vertex.result _ _ (λ e. subst (Has c.args.vertex.now.values) (sym e) (has_one c.args.touched.now (record { key = c.args.vertex.now; sides = c.in_ok-sides-in-Err.sides }) c.place_of.ensures.in_order)) c.add_vertex.ensures
