use Rattle.std.proofs.Common.{[], length, get_or, sym, subst, ap, ◌∙◌, arith}
use Rattle.pg_keyed.specs.Keyed.{Ascends}
use Rattle.pg_value.specs.Order.{key_cmp}
use Rattle.pg_value.specs.TablesLaws.{key_named, put_in}
use Rattle.pg_rows.proofs.Merging.{list_ascends, under_more, under_all}
use Rattle.pg_rows.proofs.arrays.RowArrays.merged.Goals as goal

pub rows_under-requires : goal.rows_under-requires
rows_under-requires c = subst (Ascends key_named key_cmp) (sym c.writes_of-writes.ensures) (list_ascends c.args.lists.now c.loop-table.table c.requires)

pub loop-table-preserved : goal.loop-table-preserved
loop-table-preserved c =
    under_more c.args.self.now c.args.lists.now c.loop-table.table c.loop-table.tables.items c.push.new.self.items c.in_ok-rows_under.field-0 c.loop-table.invariant c.in_ok-push.ensures.items
    (c.in_ok-rows_under.ensures ∙ (λ i. put_in (get_or ((c.as_slice.ensures.value ∙ c.self.view_is) i) c.loop-table.table []) (c.writes_of-writes.ensures i)))

pub returns : goal.returns
returns c =
    let v = ap length c.self.view_is in
    let t = c.loop-table-test.false in
    let o = c.self.inside.tables.ok in
    let a = c.greater-count.ensures.first in
    let b = c.greater-count.ensures.second in
    under_all c.args.self.now c.args.lists.now c.loop-table.table c.loop-table.tables.items c.loop-table.invariant (omega arith) (omega arith)
