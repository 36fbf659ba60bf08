use Rattle.std.proofs.Common.{◌≤◌, length, ap, sym, subst, ◌∙◌}
use Rattle.std.specs.Prelude.{flat_map}
use Rattle.pg_join.specs.Selecting.{AreStarts}
use Rattle.pg_join.specs.Starts.{starts_in}
use Rattle.pg_join.proofs.Starting.{are_starts}
use Rattle.pg_join.proofs.Steps.{take_whole}
use Rattle.pg_join.proofs.starts.starts_of.Goals as goal

pub returns : goal.returns
returns g c =
    let shapes = g.V.View.shapes c.args.view.now in
    let tables = g.V.View.tables c.args.view.now in
    let path = c.args.path.now in
    let l = subst (λ ts. length ts ≤ c.loop-table.table-index) c.as_slice-table-items.ensures c.loop-table-test.false in
    let e = c.loop-table.invariant ∙ ap (flat_map (starts_in tables path)) (take_whole path.graph.vertices c.loop-table.table-index l) in
    subst (AreStarts shapes tables path) (sym e) (are_starts shapes tables path c.requires c.well_made.ensures.tables.in_order)
