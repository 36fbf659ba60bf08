use Rattle.std.proofs.Common.{◌∙◌, ◌+◌, ap, sym, subst, drop}
use Rattle.pg_ast.specs.Trees.{label_tree}
use Rattle.pg_rules.specs.Catalog.{HasBit}
use Rattle.pg_rules.specs.Catalog.GraphLookUps.{admitted, bit, has_number}
use Rattle.pg_catalog.specs.GraphLookUps.{with_if}
use Rattle.pg_catalog.proofs.Loops.{drop_at}
use Rattle.pg_catalog.proofs.Bits.{next_table}
use Rattle.pg_catalog.proofs.graph.look_up.vertex_tables.Goals as goal

pub loop-vertex-preserved : goal.loop-vertex-preserved
loop-vertex-preserved c t =
    let x = label_tree c.args.label.now in
    let item = c.vertex-item.result in
    let vertices = c.args.vertices.now in
    let place = c.loop-vertex.vertex-index in
    next_table x (drop place vertices) (drop (place + 1) vertices) item c.loop-vertex.set c.with_if-set.result t (bit (has_number t (admitted vertices x)))
    (drop_at vertices place item c.loop-vertex-test.true c.vertex-item.is)
    (subst HasBit (sym c.vertex-item.is) (c.requires place item c.loop-vertex-test.true))
    (c.with_if-set.ensures ∙ ap (λ b. with_if c.loop-vertex.set b item.table.0) c.is_admitted.ensures)
    (c.loop-vertex.invariant t)
