-- Queries of which each path pattern keeps what its selector names, so that nothing is chosen: their answers in value order are one list.
use Rattle.std.specs.Prelude.{◌≡◌, Bool, true, false, List, IsPermutation, IsSorted}
use Rattle.std.specs.List.{list_all}
use Rattle.pg_value.specs.declared.row.Row.{Row}
use Rattle.pg_value.specs.declared.shape.Shapes.{Shapes}
use Rattle.pg_value.specs.Orders.{row_order}
use Rattle.pg_value.specs.Tables.{Tables}
use Rattle.pg_ast.specs.declared.pattern.Selector.{Selector}
use Rattle.pg_ast.specs.declared.pattern.Selector.TheVariants.{Every, Any, AnyShortest, AllShortest}
use Rattle.pg_meaning.specs.declared.checked.CheckedQuery.{CheckedQuery}
use Rattle.pg_meaning.specs.Answers.{Answer}

-- ANY and ANY SHORTEST take one of several
abbrev pub takes_all : Selector → Bool
takes_all Every = true
takes_all Any = false
takes_all AnyShortest = false
takes_all AllShortest = true

-- no path pattern has ANY or ANY SHORTEST
abbrev pub has_one_answer : CheckedQuery → Bool
has_one_answer q = list_all (λ p. takes_all p.selector) q.paths

-- THE LAW

-- two answers of such a query have the same rows, each as often, and in value order they are equal
pub record AnswersAreOne : Type 0 where
  pub rows : (shapes : Shapes) (tables : Tables) (q : CheckedQuery) (rows more : List Row) → has_one_answer q ≡ true
      → Answer shapes tables q rows → Answer shapes tables q more → IsPermutation rows more
  pub in_order : (shapes : Shapes) (tables : Tables) (q : CheckedQuery) (rows more : List Row) → has_one_answer q ≡ true
      → Answer shapes tables q rows → IsSorted row_order rows → Answer shapes tables q more → IsSorted row_order more → rows ≡ more
