use Rattle.std.proofs.Common.{◌∙◌, ◌+◌, List, ap, drop}
use Rattle.pg_catalog.proofs.EdgeNumbers.{here, further}
use Rattle.pg_catalog.proofs.Loops.{drop_at}
use Rattle.pg_rules.specs.declared.entry.PropertyEntry.{PropertyEntry}
use Rattle.pg_catalog.specs.GraphLookUps.{column_in}
use Rattle.pg_catalog.proofs.graph.look_up.in_labels.Goals as goal

pub returns-in-Some : goal.returns-in-Some
returns-in-Some c =
    let labels = c.args.labels.now in
    let place = c.loop-label.label-index in
    let item = c.label-item.result in
    here labels (drop place labels) (drop (place + 1) labels) item c.args.name.now c.in-Some.column (drop_at labels place item c.loop-label-test.true c.label-item.is)
    (c.in-Some.ensures ∙ ap (λ (ps : List PropertyEntry). column_in ps c.args.name.now) c.as_slice.ensures) c.loop-label.invariant

pub loop-label-preserved : goal.loop-label-preserved
loop-label-preserved c =
    let labels = c.args.labels.now in
    let place = c.loop-label.label-index in
    let item = c.label-item.result in
    further labels (drop place labels) (drop (place + 1) labels) item c.args.name.now (drop_at labels place item c.loop-label-test.true c.label-item.is)
    (c.in-None.ensures ∙ ap (λ (ps : List PropertyEntry). column_in ps c.args.name.now) c.as_slice.ensures) c.loop-label.invariant
