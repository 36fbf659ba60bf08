-- What the items so far define.
use Rattle.std.proofs.Common.{◌≡◌, ◌++◌, length, filter_map, flat_map}
use Rattle.std.specs.Vec.Iter.{into_iter_items, into_iter_len}
use Rattle.pg_ast.specs.Grammar.Definitions.{column_of, keys_of}
use Rattle.pg_sql.proofs.tables.parts_of.Given as goal

abbrev pub invariant-loop-item : goal.invariant-loop-item
invariant-loop-item l = record {
  all : l.yielded ++ into_iter_items l.item-iterator ≡ into_iter_items l.initial.item-iterator;
  left : into_iter_len l.item-iterator ≡ length (into_iter_items l.item-iterator);
  columns : l.parts.columns ≡ filter_map column_of l.yielded;
  keys : l.parts.keys ≡ flat_map keys_of l.yielded;
}
