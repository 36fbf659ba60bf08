-- The order of edges by the vertex at one of their ends.
use Rattle.std.proofs.Common.{Bool, refl}
use Rattle.std.specs.Prelude.{List}
use Rattle.std.specs.declared.cmp.Ordering.{Ordering}
use Rattle.std.specs.Cmp.{IsTotalOrder, IsEquivalence, IsPartialEquivalence, IsPartialOrder, partial_equiv_from_equiv, eq_by_cmp_equiv, po}
use Rattle.std.specs.Ordering.{on, eq_by_cmp, as_partial_cmp}
use Rattle.std.proofs.lemmas.Cmp.{on_total}
use Rattle.pg_value.specs.declared.value.Value.{Value}
use Rattle.pg_value.specs.Order.{key_cmp}
use Rattle.pg_value.specs.Orders.{keys}
use Rattle.pg_adj.specs.declared.seen.Seen.{Seen}

abbrev pub seen_vertex : Seen → List Value
seen_vertex s = s.vertex.now.values

abbrev pub seen_cmp : Seen → Seen → Ordering
seen_cmp = on seen_vertex key_cmp

abbrev pub same_vertex : Seen → Seen → Bool
same_vertex = eq_by_cmp seen_cmp

pub seen_total : IsTotalOrder seen_cmp
seen_total = on_total seen_vertex keys.total

pub seen_equivalence : IsEquivalence same_vertex
seen_equivalence = eq_by_cmp_equiv seen_total

pub seen_partial : IsPartialEquivalence same_vertex
seen_partial = partial_equiv_from_equiv seen_equivalence

pub seen_partial_order : IsPartialOrder same_vertex (as_partial_cmp seen_cmp)
seen_partial_order = po seen_total (λ x y. refl)
