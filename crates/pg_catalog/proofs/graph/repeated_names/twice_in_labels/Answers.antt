use Rattle.pg_rules.specs.Definitions.Graphs.{twice_listed}
use Rattle.pg_ast.specs.declared.define.LabelDef.{LabelDef}
use Rattle.pg_catalog.proofs.Loops.{next_place}
use Rattle.pg_catalog.proofs.graph.repeated_names.twice_in_labels.Goals as goal

pub loop-label-preserved : goal.loop-label-preserved
loop-label-preserved c = next_place (λ (d : LabelDef). twice_listed d.props) c.loop-label.found c.in_ok-again.again c.sooner-found.result c.args.labels.now c.loop-label.label-index c.label-item.result c.loop-label-test.true c.label-item.is (c.in_ok-again.ensures) c.sooner-found.ensures c.loop-label.invariant
