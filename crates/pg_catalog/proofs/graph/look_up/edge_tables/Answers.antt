use Rattle.std.proofs.Common.{◌∙◌, ◌+◌, ap, sym, subst, map, drop}
use Rattle.pg_ast.specs.Trees.{label_tree}
use Rattle.pg_rules.specs.Catalog.{HasBit}
use Rattle.pg_rules.specs.Catalog.GraphLookUps.{admitted, bit, has_number}
use Rattle.pg_catalog.specs.GraphLookUps.{with_if}
use Rattle.pg_catalog.proofs.Loops.{drop_at}
use Rattle.pg_catalog.proofs.Bits.{next_table}
use Rattle.pg_rules.specs.declared.entry.EdgeEntry.{EdgeEntry}
use Rattle.pg_catalog.proofs.graph.look_up.edge_tables.Goals as goal

pub loop-edge-preserved : goal.loop-edge-preserved
loop-edge-preserved c t =
    let x = label_tree c.args.label.now in
    let item = c.edge-item.result in
    let edges = c.args.edges.now in
    let place = c.loop-edge.edge-index in
    let inner = map (λ (e : EdgeEntry). e.element) in
    next_table x (inner (drop place edges)) (inner (drop (place + 1) edges)) item.element c.loop-edge.set c.with_if-set.result t (bit (has_number t (admitted (inner edges) x)))
    (ap inner (drop_at edges place item c.loop-edge-test.true c.edge-item.is))
    (subst (λ (e : EdgeEntry). HasBit e.element) (sym c.edge-item.is) (c.requires place item c.loop-edge-test.true))
    (c.with_if-set.ensures ∙ ap (λ b. with_if c.loop-edge.set b item.element.table.0) c.is_admitted.ensures)
    (c.loop-edge.invariant t)
