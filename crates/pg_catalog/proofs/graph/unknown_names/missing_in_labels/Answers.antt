use Rattle.pg_rules.specs.Definitions.Graphs.{missing_listed}
use Rattle.pg_ast.specs.declared.define.LabelDef.{LabelDef}
use Rattle.pg_catalog.proofs.Loops.{next_place}
use Rattle.pg_catalog.proofs.graph.unknown_names.missing_in_labels.Goals as goal

pub loop-label-preserved : goal.loop-label-preserved
loop-label-preserved c = next_place (λ (d : LabelDef). missing_listed c.args.columns.now d.props) c.loop-label.found c.missing_listed.result c.sooner-found.result c.args.labels.now c.loop-label.label-index c.label-item.result c.loop-label-test.true c.label-item.is (c.missing_listed.ensures) c.sooner-found.ensures c.loop-label.invariant
