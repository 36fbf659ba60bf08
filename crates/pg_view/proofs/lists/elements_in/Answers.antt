use Rattle.pg_view.proofs.ViewLaws.{one_more_table}
use Rattle.pg_view.proofs.lists.elements_in.Goals as goal

pub loop-table-preserved : goal.loop-table-preserved
loop-table-preserved c =
    one_more_table c.args.lists.now c.args.set c.loop-table.table c.index-lists-table.result c.loop-table.out c.push_elements.new.out c.requires c.loop-table-test.true c.index-lists-table.is c.loop-table.invariant
    c.in_ok-push_elements.ensures
