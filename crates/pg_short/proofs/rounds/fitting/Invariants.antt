use Rattle.std.proofs.Common.{◌≡◌, ◌++◌, length}
use Rattle.std.specs.Prelude.{flat_map}
use Rattle.std.specs.Vec.Iter.{into_iter_items, into_iter_len}
use Rattle.pg_auto.specs.Autos.{stage_view}
use Rattle.pg_short.specs.Rounds.{fitting_one, reading}
use Rattle.pg_short.proofs.rounds.fitting.Given as goal

abbrev pub invariant-loop-hops : goal.invariant-loop-hops
invariant-loop-hops g l = record {
  all : l.yielded ++ into_iter_items l.hops-iterator ≡ into_iter_items l.initial.hops-iterator;
  left : into_iter_len l.hops-iterator ≡ length (into_iter_items l.hops-iterator);
  kept : l.found.items ≡ flat_map (fitting_one (reading (g.V.View.shapes l.view) (g.V.View.tables l.view) l.graph l.vertex) (stage_view l.stage) l.vertex) l.yielded;
}
