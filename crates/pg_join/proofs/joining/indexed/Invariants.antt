use Rattle.std.specs.Cmp.Lexicographic.{pointwise}
use Rattle.indexmap.specs.IndexMap.{get_by}
use Rattle.pg_value.specs.Graph.{same_elem}
use Rattle.pg_join.proofs.Places.{IndexedTo}
use Rattle.pg_join.proofs.joining.indexed.Given as goal

abbrev pub invariant-loop-place : goal.invariant-loop-place
invariant-loop-place l = IndexedTo l.vars l.path l.kept l.place (λ ks. get_by (λ k. pointwise same_elem ks k.items) l.last) l.before
