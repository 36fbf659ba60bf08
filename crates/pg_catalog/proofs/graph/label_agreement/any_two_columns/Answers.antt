use Rattle.std.proofs.Common.{◌∙◌, ap}
use Rattle.pg_rules.specs.Places.{least, place_if}
use Rattle.pg_rules.specs.Definitions.Graphs.{two_columns, rows}
use Rattle.pg_rules.specs.declared.entry.PlacedElement.{PlacedElement}
use Rattle.pg_catalog.proofs.Loops.{next_place}
use Rattle.pg_catalog.proofs.graph.label_agreement.any_two_columns.Goals as goal

pub loop-e-preserved : goal.loop-e-preserved
loop-e-preserved c = next_place (λ (e : PlacedElement). place_if (two_columns (rows e.element)) e.at) c.loop-e.found c.place_if.result c.sooner-found.result c.args.elements.now c.loop-e.e-index c.e-item.result c.loop-e-test.true c.e-item.is (c.place_if.ensures ∙ ap (λ b. least (place_if b c.e-item.result.at)) c.in_ok-two.ensures) c.sooner-found.ensures c.loop-e.invariant
