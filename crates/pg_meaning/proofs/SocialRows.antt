-- One answer, whole: MATCH (x)-[e]->(y) COLUMNS (x.id AS p, y.id AS q) has a row for each edge, here in value order.
use Rattle.std.proofs.Common.{◌≡◌, ℕ, zero, suc, pos, List, [], ◌∷◌, refl, lit<, arith, subst}
use Rattle.std.specs.Prelude.{codes, Some, None, IsPermutation}
use Rattle.std.specs.Int.{bit_at}
use Rattle.pg_value.specs.declared.value.Kind.TheVariants as kinds
use Rattle.pg_value.specs.declared.value.Value.TheVariants.{Int}
use Rattle.pg_value.specs.declared.row.Row.{Row}
use Rattle.pg_value.specs.declared.shape.TableSet.{TableSet}
use Rattle.pg_value.specs.Orders.{row_order}
use Rattle.std.specs.List.Sorted.{IsSorted}
use Rattle.pg_meaning.specs.declared.checked.CExpr.TheVariants.{Property}
use Rattle.pg_meaning.specs.declared.checked.CheckedColumn.{CheckedColumn}
use Rattle.pg_meaning.specs.declared.checked.CheckedQuery.{CheckedQuery}
use Rattle.pg_meaning.specs.Answers.{Answer, column_names}
use Rattle.pg_meaning.specs.OneHop.{one_hop_query, answer_of, answer_reordered}
use Rattle.pg_meaning.specs.Members.{in_one, in_nil}
use Rattle.pg_meaning.proofs.Social.{shapes, social, tables, in_order, person_table, knows_table}

-- the set of one table
abbrev persons : TableSet
persons = record { 0 = 1 }

abbrev acquaintances : TableSet
acquaintances = record { 0 = 2 }

abbrev id_of : ℕ → List ℕ → CheckedColumn
id_of x name = record { expr = Property x (Some 0 ∷ None ∷ []); name = name; kind = Some kinds.Int; width = 31 }

abbrev query : CheckedQuery
query = one_hop_query social persons acquaintances (id_of 0 (codes "P") ∷ id_of 2 (codes "Q") ∷ [])

abbrev pair : ℕ → ℕ → Row
pair p q = record { values = Int (pos p) ∷ Int (pos q) ∷ [] }

names : column_names query ≡ codes "P" ∷ codes "Q" ∷ []
names = refl

by_edges : Answer shapes tables query (pair 1 2 ∷ pair 2 3 ∷ pair 3 1 ∷ pair 1 2 ∷ pair 4 4 ∷ [])
by_edges =
    answer_of shapes social tables persons acquaintances (id_of 0 (codes "P") ∷ id_of 2 (codes "Q") ∷ []) (pair 1 2 ∷ pair 2 3 ∷ pair 3 1 ∷ pair 1 2 ∷ pair 4 4 ∷ [])
    in_order (in_nil knows_table, tt)
    (λ t c. subst (λ z. bit_at 1 z.0 ≡ 1) (in_one person_table t c) refl)
    (λ t c. subst (λ z. bit_at 2 z.0 ≡ 1) (in_one knows_table t c) refl)
    refl

-- the same rows, the fourth in the second place
moved : IsPermutation (pair 1 2 ∷ pair 2 3 ∷ pair 3 1 ∷ pair 1 2 ∷ pair 4 4 ∷ []) (pair 1 2 ∷ pair 1 2 ∷ pair 2 3 ∷ pair 3 1 ∷ pair 4 4 ∷ [])
moved = record { moves = (1, 2) ∷ (2, 3) ∷ []; below = (lit< tt, lit< tt, (lit< tt, lit< tt, tt)); is = refl }

in_value_order : Answer shapes tables query (pair 1 2 ∷ pair 1 2 ∷ pair 2 3 ∷ pair 3 1 ∷ pair 4 4 ∷ [])
in_value_order = answer_reordered shapes tables query (pair 1 2 ∷ pair 2 3 ∷ pair 3 1 ∷ pair 1 2 ∷ pair 4 4 ∷ []) (pair 1 2 ∷ pair 1 2 ∷ pair 2 3 ∷ pair 3 1 ∷ pair 4 4 ∷ []) moved by_edges

sorted : IsSorted row_order (pair 1 2 ∷ pair 1 2 ∷ pair 2 3 ∷ pair 3 1 ∷ pair 4 4 ∷ [])
sorted zero d l h = refl
sorted (suc zero) d l h = refl
sorted (suc (suc zero)) d l h = refl
sorted (suc (suc (suc zero))) d l h = refl
sorted (suc (suc (suc (suc k)))) d l h = absurd (omega arith)
