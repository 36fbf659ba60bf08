use Rattle.std.proofs.Common.{◌≡◌, ◌++◌, length, map}
use Rattle.std.specs.Prelude.{flat_map}
use Rattle.std.specs.Vec.Iter.{into_iter_items, into_iter_len}
use Rattle.pg_auto.specs.Autos.{stage_view}
use Rattle.pg_short.specs.Steps.{step_view, step_if}
use Rattle.pg_short.proofs.steps.push_all_in.Given as goal

abbrev pub invariant-loop-hops : goal.invariant-loop-hops
invariant-loop-hops l = record {
  all : l.yielded ++ into_iter_items l.hops-iterator ≡ into_iter_items l.initial.hops-iterator;
  left : into_iter_len l.hops-iterator ≡ length (into_iter_items l.hops-iterator);
  kept : map step_view l.found.items ≡ map step_view l.fn.found.items ++ flat_map (step_if (map stage_view l.stages) l.number (step_view l.step) (stage_view l.stage)) l.yielded;
}
