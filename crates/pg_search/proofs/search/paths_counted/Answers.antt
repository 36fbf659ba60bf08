use Rattle.std.proofs.Common.{◌≡◌, Bool, true, false, sym, ◌∙◌}
use Rattle.pg_search.proofs.Searching.{no_paths}
use Rattle.pg_search.proofs.search.paths_counted.Goals as goal

not_both : (b : Bool) → b ≡ true → b ≡ false → ⊥
not_both b t e = let z : true ≡ false = sym t ∙ e in cc

pub returns : goal.returns
returns g c = no_paths (g.V.View.shapes c.args.view.now) (g.V.View.tables c.args.view.now) c.args.path.now c.args.start.now
    (λ v. not_both c.is_vertex.result ((c.is_vertex.ensures.vertex c.well_made.ensures.tables.in_order).1 v) c.if-is_vertex.false) c.new.result c.new.ensures
