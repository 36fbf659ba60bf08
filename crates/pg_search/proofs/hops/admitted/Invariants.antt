use Rattle.std.proofs.Common.{◌≡◌, ◌++◌, [], ◌∷◌, cond, length}
use Rattle.std.specs.Prelude.{flat_map}
use Rattle.std.specs.Vec.Iter.{into_iter_items, into_iter_len}
use Rattle.pg_value.specs.declared.shape.GraphShape.{GraphShape}
use Rattle.pg_meaning.specs.Walks.{graph_of}
use Rattle.pg_auto.specs.Autos.{leg_view}
use Rattle.pg_auto.specs.Tests.{leg_admits}
use Rattle.pg_search.specs.Hops.{hop_view}
use Rattle.pg_search.proofs.hops.admitted.Given as goal

abbrev pub invariant-loop-hop : goal.invariant-loop-hop
invariant-loop-hop g l = record {
  all : l.yielded ++ into_iter_items l.hop-iterator ≡ into_iter_items l.initial.hop-iterator;
  left : into_iter_len l.hop-iterator ≡ length (into_iter_items l.hop-iterator);
  kept : (graph : GraphShape) → l.out ≡ flat_map (λ hop. cond (leg_admits (graph_of (g.V.View.shapes l.view) graph (g.V.View.tables l.view)) (leg_view l.leg) (hop_view hop)) (hop ∷ []) []) l.yielded;
}
