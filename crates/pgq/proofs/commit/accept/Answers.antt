use Rattle.std.proofs.Common.{ap, ◌∙◌}
use Rattle.pgq.proofs.Commits.StillReady.{still_ready, list_ascends, writes_ascend_by_key, of_table}
use Rattle.pgq.proofs.commit.accept.Goals as goal

pub put_in_table-requires-clause-ascends : goal.put_in_table-requires-clause-ascends
put_in_table-requires-clause-ascends c = list_ascends c.args.engine.now c.args.table.0 c.requires.ready

pub put_in_table-requires-clause-table : goal.put_in_table-requires-clause-table
put_in_table-requires-clause-table c = of_table c.args.engine.now c.args.table c.requires.ready

pub put_in_table-requires-clause-writes : goal.put_in_table-requires-clause-writes
put_in_table-requires-clause-writes c = writes_ascend_by_key c.args.table c.args.writes.list c.requires.own c.requires.in_order

pub returns-clause-ready : goal.returns-clause-ready
returns-clause-ready c =
    let e = c.args.engine.now in
    let a = c.in_ok-append.ensures.appended in
    still_ready c.args.table _ e _ c.requires.ready (record { catalog = a.catalog; shapes = a.shapes; log = a.log; held = a.held; base = a.base; peak = a.peak }) c.requires.table c.requires.own c.requires.in_order c.requires.room
    (ap (λ lists. lists.items) c.in_ok-append.ensures.tables ∙ c.in_ok-put_in_table.ensures) c.requires.fits
