-- What the judgement of a query goes over: its expressions, conditions, mentions and variables.
use Rattle.std.specs.Prelude.{◌≡◌, List, [], ◌∷◌, map, Option}
use Rattle.std.proofs.Common.{Bor}
use Rattle.pg_ast.specs.declared.expr.Expr.{Expr}
use Rattle.pg_ast.specs.declared.pattern.Query.{Query}
use Rattle.pg_ast.specs.Trees.{ExprTree, tree_of}
use Rattle.pg_rules.specs.Queries.Collections.{inner, outer, inner_conditions, mentions_of}
use Rattle.pg_rules.specs.declared.entry.GraphEntry.{GraphEntry}
use Rattle.pg_rules.specs.declared.fault.QueryFault.{QueryFault}
use Rattle.pg_rules.specs.declared.fault.QueryFault.TheVariants as faults
use Rattle.pg_rules.specs.Places.{least, fault_at, first_fault}
use Rattle.pg_rules.specs.Queries.{no_label, no_property, unbounded, bounds, bad_variable, group_use, types, wide, limit}
use Rattle.pg_check.specs.declared.gathered.Gathered.{Gathered}
use Rattle.pg_check.specs.Passes.{inner_view, path_walks}
use Rattle.pg_check.specs.Gathered.{mention_view, firsts_after}

abbrev pub trees : List (Bor Expr) → List ExprTree
trees es = map (λ e. tree_of e.now) es

-- the expressions inside the patterns of a query, and those outside
pub record AreOf (q : Query) (inside outside : List (Bor Expr)) : Type 0 where
  pub inner_are : trees inside ≡ inner q
  pub outer_are : trees outside ≡ outer q

-- what is gathered of a query
pub record IsGathered (q : Query) (g : Gathered) : Type 0 where
  pub conditions : map inner_view g.conditions.items ≡ inner_conditions q
  pub exprs : AreOf q g.inner.items g.outer.items
  pub mentions : map mention_view g.mentions.items ≡ mentions_of q
  pub variables : g.variables ≡ firsts_after [] (mentions_of q)
  pub walks : g.walks.items ≡ map path_walks q.paths

-- THE KINDS IN ORDER, FROM ONE ON

abbrev pub kinds_fault : GraphEntry → Query → Option QueryFault
kinds_fault g q = first_fault ((faults.Types, types g q) ∷ (faults.Wide, wide g q) ∷ (faults.Limit, limit q) ∷ [])

abbrev pub variables_fault : GraphEntry → Query → Option QueryFault
variables_fault g q = fault_at faults.BadVariable (least (bad_variable q)) (fault_at faults.GroupUse (least (group_use q)) (kinds_fault g q))

abbrev pub properties_fault : GraphEntry → Query → Option QueryFault
properties_fault g q = fault_at faults.NoProperty (least (no_property g q)) (fault_at faults.Unbounded (least (unbounded q)) (fault_at faults.Bounds (least (bounds q)) (variables_fault g q)))

abbrev pub labels_fault : GraphEntry → Query → Option QueryFault
labels_fault g q = fault_at faults.NoLabel (least (no_label g q)) (properties_fault g q)
