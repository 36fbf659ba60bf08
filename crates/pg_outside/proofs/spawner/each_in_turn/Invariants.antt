-- The tasks so far have run, each result meeting its task's promise, and the others are ready.
use Rattle.std.proofs.Common.{◌≡◌, ◌++◌, length}
use Rattle.std.specs.List.{AllZip}
use Rattle.std.specs.Vec.Iter.{into_iter_items, into_iter_len}
use Rattle.pg_keyed.specs.Lists.{Each}
use Rattle.pg_outside.proofs.spawner.each_in_turn.Given as goal

abbrev pub invariant-tasks : goal.invariant-tasks
invariant-tasks g l = record {
  all : l.yielded ++ into_iter_items l.task-iterator ≡ into_iter_items l.initial.task-iterator;
  left : into_iter_len l.task-iterator ≡ length (into_iter_items l.task-iterator);
  waiting : Each g.A.Task.ready (into_iter_items l.task-iterator);
  kept : AllZip g.A.Task.promise l.yielded l.made.items;
}
