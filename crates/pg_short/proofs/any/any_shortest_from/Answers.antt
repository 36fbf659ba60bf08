use Rattle.std.proofs.Common.{◌≡◌, Bool, true, false, arith, sym, ◌∙◌}
use Rattle.pg_search.specs.Searches.{is_among}
use Rattle.pg_short.proofs.Bounded.{row_within}
use Rattle.pg_short.proofs.Ended.{none_shortest}
use Rattle.pg_short.proofs.any.any_shortest_from.Goals as goal

not_both : (b : Bool) → b ≡ true → b ≡ false → ⊥
not_both b t e = let z : true ≡ false = sym t ∙ e in cc

pub returns-else-is_vertex-clause-selected : goal.returns-else-is_vertex-clause-selected
returns-else-is_vertex-clause-selected g c = none_shortest (g.V.View.shapes c.args.view.now) (g.V.View.tables c.args.view.now) c.args.path.now c.args.start.now
    (λ v. not_both c.is_vertex.result ((c.is_vertex.ensures.vertex c.well_made.ensures.tables.in_order).1 v) c.if-is_vertex.false) c.new.result c.new.ensures

pub returns-then-is_vertex-clause-reads : goal.returns-then-is_vertex-clause-reads
returns-then-is_vertex-clause-reads g c = λ once.
    let a = c.is_vertex.ensures.cost in
    let b = row_within (g.V.View.row_cost c.args.view.now) c.args.path.now.graph.vertices c.args.start.now.table in
    let d = c.shortest_from.ensures.reads once in
    omega arith

pub returns-else-is_vertex-clause-reads : goal.returns-else-is_vertex-clause-reads
returns-else-is_vertex-clause-reads g c = λ once.
    let a = c.is_vertex.ensures.cost in
    let b = row_within (g.V.View.row_cost c.args.view.now) c.args.path.now.graph.vertices c.args.start.now.table in
    omega arith
