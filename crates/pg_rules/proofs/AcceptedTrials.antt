-- The query (x)-[e]->{1}(y) COLUMNS (SUM(e.w * e.w)) is one that is read and accepted over persons who know each other, so its checked tree is sound.
use Rattle.std.proofs.Common.{[], ◌∷◌, lit≤, lit<}
use Rattle.std.proofs.lemmas.List.Elements.{All-from_recursion}
use Rattle.pg_ast.specs.declared.expr.Expr.TheBlock.{hidden-the_row-Expr-0}
use denote.Hole.Carrier.{hidden}
use Rattle.pg_meaning.specs.Sound.Queries.{IsSoundQuery}
use Rattle.pg_rules.specs.declared.entry.TableEntry.{TableEntry}
use Rattle.pg_rules.specs.declared.entry.EdgeEntry.{EdgeEntry}
use Rattle.pg_rules.specs.declared.entry.GraphEntry.{GraphEntry}
use Rattle.pg_rules.specs.Catalog.{IsFew, HasBit, IsSmallGraph, IsSmall}
use Rattle.pg_rules.specs.Catalog.Shapes.{shapes}
use Rattle.pg_rules.specs.Catalog.SoundDefinitions.{IsCatalog}
use Rattle.pg_rules.specs.Queries.CheckedQueries.{checked_query}
use Rattle.pg_rules.specs.Written.{IsWrittenQuery}
use Rattle.pg_rules.proofs.Accepted.Queries.{accepted_queries_are_sound}
use Rattle.pg_rules.proofs.QueryTrials.{catalog, persons, acquaintances, graph, square, summed, accepted_sum}
use Rattle.pg_rules.proofs.SoundTrials.{catalog_is_sound}
use Rattle.std.specs.Prelude.{ℕ, List}

graph_is_small : IsSmallGraph graph
graph_is_small = (
  lit≤ tt,
  (All-from_recursion HasBit (persons ∷ []) (lit< tt, tt), All-from_recursion (λ (e : EdgeEntry). HasBit e.element) (acquaintances ∷ []) (lit< tt, tt)),
)

catalog_is_small : IsSmall catalog
catalog_is_small = (
  (lit≤ tt, All-from_recursion (λ (t : List ℕ × TableEntry). IsFew t.1.columns) catalog.0 (lit≤ tt, (lit≤ tt, tt))),
  (lit≤ tt, All-from_recursion (λ (g : List ℕ × GraphEntry). IsSmallGraph g.1) catalog.1 (graph_is_small, tt)),
)

is_catalog : IsCatalog catalog
is_catalog = record { small = catalog_is_small; sound = catalog_is_sound }

is_written : IsWrittenQuery (summed square)
unfolding hidden-the_row-Expr-0 hidden
is_written = record { groups = (tt, (tt, (tt, tt))); literals = ((tt, tt), tt) }

sum_is_sound : IsSoundQuery (shapes catalog) (checked_query catalog (summed square))
sum_is_sound = accepted_queries_are_sound catalog (summed square) is_catalog is_written accepted_sum
