use Rattle.pg_rules.specs.Definitions.Graphs.{twice_labelled}
use Rattle.pg_ast.specs.declared.define.EdgeDef.{EdgeDef}
use Rattle.pg_catalog.proofs.Loops.{next_place}
use Rattle.pg_catalog.proofs.graph.repeated_names.twice_in_edges.Goals as goal

pub loop-edge-preserved : goal.loop-edge-preserved
loop-edge-preserved c = next_place (λ (e : EdgeDef). twice_labelled e.labels) c.loop-edge.found c.in_ok-again.again c.sooner-found.result c.args.edges.now c.loop-edge.edge-index c.edge-item.result c.loop-edge-test.true c.edge-item.is (c.in_ok-again.ensures) c.sooner-found.ensures c.loop-edge.invariant
