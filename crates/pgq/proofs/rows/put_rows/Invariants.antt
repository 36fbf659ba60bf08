use Rattle.std.proofs.Common.{◌≡◌, drop}
use Rattle.pg_keyed.specs.Keyed.{Ascends, Each}
use Rattle.pg_value.specs.Order.{key_cmp}
use Rattle.pg_value.specs.TablesLaws.{key_of, key_named, put_in}
use Rattle.pgq.specs.Commits.{HasRow}
use Rattle.pgq.proofs.rows.put_rows.Given as goal

abbrev pub invariant-loop-at : goal.invariant-loop-at
invariant-loop-at l = record {
  ascends : Ascends key_of key_cmp l.rows;
  later : Ascends key_named key_cmp (drop l.at l.writes.list);
  present : Each HasRow (drop l.at l.writes.list);
  whole : put_in l.rows (drop l.at l.writes.list) ≡ put_in l.fn.rows l.writes.list;
}
