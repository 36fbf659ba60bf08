use Rattle.std.proofs.Common.{◌∙◌, ◌≡◌, ap, sym}
use Rattle.pg_value.specs.TablesLaws.{writes_to}
use Rattle.pg_run.specs.Runs.{entries_in_run}
use Rattle.pg_snap.specs.Under.{plains, zipped, unnamed, woven, sides_of}
use Rattle.pg_snap.proofs.SideLaws.{under_nothing, zipped_is}
use Rattle.pg_snap.proofs.StepLaws.{if_ok, empty_is}
use Rattle.pg_snap.proofs.reached.under_run.Goals as goal

pub returns-clause-value : goal.returns-clause-value
returns-clause-value g c =
    let v = c.args.vertex.now.values in
    let run = c.args.run.now in
    let ws = writes_to c.args.shape.now.table run.writes in
    let news : plains c.as_slice-3.result.now ≡ sides_of (entries_in_run run c.args.edge c.args.dir v) =
    ap plains c.as_slice-3.ensures.value ∙ c.in_ok-news.ensures ∙ (λ i. zipped (c.group-group.ensures.edges i) (c.group-group.ensures.others i)) ∙ zipped_is (entries_in_run run c.args.edge c.args.dir v) in
    let kept : plains c.as_slice-2.result.now ≡ unnamed ws (plains c.args.olds.items) =
    ap plains c.as_slice-2.ensures.value ∙ c.in_ok-kept.ensures.value ∙ ap (λ xs. unnamed ws (plains xs)) c.as_slice.ensures.value in
    if_ok c.woven.result _ _ (λ all e. e ∙ (λ i. woven (kept i) (news i))) c.woven.ensures

pub returns-then-is_empty-clause-value : goal.returns-then-is_empty-clause-value
returns-then-is_empty-clause-value g c =
    under_nothing c.args.shape.now c.args.run.now c.args.edge c.args.dir c.args.vertex.now.values (plains c.args.olds.items) c.requires
    (sym c.writes.ensures.value ∙ empty_is c.writes.result.now c.is_empty.result c.is_empty.ensures c.if-is_empty.true)
