-- What the variables stand for gives the rows of the tuple.
use Rattle.std.proofs.Common.{◌≡◌, List, [], ◌∷◌, cond, map, refl, ap}
use Rattle.std.specs.Prelude.{Option, Some, None}
use Rattle.pg_keyed.specs.Lists.{Each}
use Rattle.pg_value.specs.declared.value.Value.{Value}
use Rattle.pg_value.specs.declared.shape.Shapes.{Shapes}
use Rattle.pg_value.specs.Tables.{Tables}
use Rattle.pg_meaning.specs.declared.checked.Bound.{Bound}
use Rattle.pg_meaning.specs.declared.checked.CExpr.{CExpr}
use Rattle.pg_meaning.specs.declared.checked.CheckedColumn.{CheckedColumn}
use Rattle.pg_meaning.specs.declared.checked.CheckedQuery.{CheckedQuery}
use Rattle.pg_meaning.specs.declared.checked.PathBinding.{PathBinding}
use Rattle.pg_meaning.specs.CExprs.{ctree_of}
use Rattle.pg_meaning.specs.Meaning.{OfVars, value_of, as_truth}
use Rattle.pg_meaning.specs.Answers.{bound_to}
use Rattle.pg_meaning.specs.Sound.{IsSoundCondition}
use Rattle.pg_meaning.specs.Sound.Kinds.{OfTables}
use Rattle.pg_meaning.specs.Sound.Queries.{IsSoundQuery, IsSoundColumn, degrees_of}
use Rattle.pg_join.specs.Rows.{IsBoundTo, scope_of, is_true, meets, rows_of, bound_rows}

module _ (shapes : Shapes) (tables : Tables) (q : CheckedQuery) (tuple : List PathBinding) (bound : Bound) (to : IsBoundTo shapes tables q tuple bound) where
  same_meets : (c : Option CExpr) → IsSoundCondition (OfTables shapes) (degrees_of q) c → meets c (OfVars tables (bound_to bound)) ≡ meets c (scope_of tables q tuple)
  same_meets None s = refl
  same_meets (Some c) s = ap (λ (v : Value). is_true (as_truth v)) (to.value (ctree_of c) s.sound)

  same_values : (cs : List CheckedColumn) → Each (IsSoundColumn shapes (degrees_of q)) cs → map (λ c. value_of (ctree_of c.expr) (OfVars tables (bound_to bound))) cs ≡ map (λ c. value_of (ctree_of c.expr) (scope_of tables q tuple)) cs
  same_values [] s = refl
  same_values (c ∷ cs) s = λ i. to.value (ctree_of c.expr) s.0.sound i ∷ same_values cs s.1 i

pub same_rows : (shapes : Shapes) (tables : Tables) (q : CheckedQuery) (tuple : List PathBinding) (bound : Bound) → IsSoundQuery shapes q → IsBoundTo shapes tables q tuple bound → bound_rows tables q bound ≡ rows_of tables q tuple
same_rows shapes tables q tuple bound sound to =
    λ i. cond (same_meets shapes tables q tuple bound to q.cond sound.condition i) (record { values = same_values shapes tables q tuple bound to q.columns sound.columns i } ∷ []) []
