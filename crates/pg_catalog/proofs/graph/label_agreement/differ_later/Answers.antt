use Rattle.std.proofs.Common.{◌∙◌, ap}
use Rattle.pg_rules.specs.Places.{least, place_if}
use Rattle.pg_rules.specs.Definitions.Graphs.{at_if, differ}
use Rattle.pg_catalog.proofs.Loops.{next_place}
use Rattle.pg_catalog.proofs.graph.label_agreement.differ_later.Goals as goal

pub loop-f-preserved : goal.loop-f-preserved
loop-f-preserved c = next_place (at_if differ c.args.e.now) c.loop-f.found c.place_if.result c.sooner-found.result c.args.later.now c.loop-f.f-index c.f-item.result c.loop-f-test.true c.f-item.is (c.place_if.ensures ∙ ap (λ b. least (place_if b c.f-item.result.at)) c.in_ok-differs.ensures) c.sooner-found.ensures c.loop-f.invariant
