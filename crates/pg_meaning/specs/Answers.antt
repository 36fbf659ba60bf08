-- The answer of a query: the selected bindings of its path patterns, joined on shared variables and filtered, one row for each
-- (ISO/IEC 9075-16:2023, GRAPH_TABLE; after Deutsch et al., SIGMOD 2022).
use Rattle.std.specs.Prelude.{◌≡◌, ◌==◌, ℕ, List, [], ◌∷◌, ◌++◌, map, Contains, ◌↔◌, Option, Some, None, find, slice_get, IsPermutation}
use Rattle.std.specs.List.{AllZip}
use Rattle.pg_value.specs.declared.row.Row.{Row}
use Rattle.pg_value.specs.declared.shape.ElemId.{ElemId}
use Rattle.pg_value.specs.declared.shape.Shapes.{Shapes}
use Rattle.pg_value.specs.Tables.{Tables}
use Rattle.pg_meaning.specs.declared.checked.Slot.{Slot}
use Rattle.pg_meaning.specs.declared.checked.Slot.TheVariants.{One, Many}
use Rattle.pg_meaning.specs.declared.checked.Bound.{Bound}
use Rattle.pg_meaning.specs.declared.checked.CheckedPath.{CheckedPath}
use Rattle.pg_meaning.specs.declared.checked.CheckedQuery.{CheckedQuery}
use Rattle.pg_meaning.specs.CExprs.{ctree_of}
use Rattle.pg_meaning.specs.Meaning.{Assignment, OfVars, Meets, value_of}
use Rattle.pg_meaning.specs.Walks.{graph_of}
use Rattle.pg_meaning.specs.Bindings.{Binding, Selected, Distinct}

-- a variable of the query, and its list
pub record VarList : Type 0 where
  pub var : ℕ
  pub elems : List ElemId

abbrev pub lists_with : List ℕ → List (List ElemId) → List VarList
lists_with (x ∷ vars) (elems ∷ lists) = record { var = x; elems = elems } ∷ lists_with vars lists
lists_with _ _ = []

-- what a tuple of bindings, one for each path pattern, says of the variables
abbrev pub lists_in : List CheckedPath → List Binding → List VarList
lists_in (p ∷ paths) (b ∷ tuple) = lists_with p.vars b.vars ++ lists_in paths tuple
lists_in _ _ = []

-- a variable that stands in two path patterns has the same list in both
abbrev pub ListsAgree : List VarList → Type 0
ListsAgree lists = (a b : VarList) → Contains lists a → Contains lists b → a.var ≡ b.var → a.elems ≡ b.elems

abbrev pub elems_found : Option VarList → List ElemId
elems_found None = []
elems_found (Some found) = found.elems

-- what the lists assign to each variable
abbrev pub assigned : List VarList → Assignment
assigned lists x = elems_found (find (λ l. l.var == x) lists)

abbrev pub slot_elems : Option Slot → List ElemId
slot_elems None = []
slot_elems (Some (One e)) = e ∷ []
slot_elems (Some (Many es)) = es

-- what the slots of a query's variables assign to each
abbrev pub bound_to : Bound → Assignment
bound_to bound x = slot_elems (slice_get bound.vars x)

-- one kept binding of each path pattern, agreeing, with the final condition true
pub record Joins (tables : Tables) (q : CheckedQuery) (kept : List (List Binding)) (tuple : List Binding) : Type 0 where
  pub members : AllZip (λ bindings b. Contains bindings b) kept tuple
  pub agree : ListsAgree (lists_in q.paths tuple)
  pub where_true : Meets q.cond (OfVars tables (assigned (lists_in q.paths tuple)))

-- the row of a joined tuple
abbrev pub row_of : Tables → CheckedQuery → List Binding → Row
row_of tables q tuple =
    record { values = map (λ c. value_of (ctree_of c.expr) (OfVars tables (assigned (lists_in q.paths tuple)))) q.columns }

-- The rows are those of the joined tuples, one for each, in some order. Only ANY and ANY SHORTEST leave a choice of what is kept.
pub record Answer (shapes : Shapes) (tables : Tables) (q : CheckedQuery) (rows : List Row) : Type 0 where
  pub kept : List (List Binding)
  pub selected : AllZip (λ p bindings. Selected (graph_of shapes q.graph tables) p bindings) q.paths kept
  pub joined : List (List Binding)
  pub distinct : Distinct joined
  pub exactly : (tuple : List Binding) → Contains joined tuple ↔ Joins tables q kept tuple
  pub listed : IsPermutation (map (row_of tables q) joined) rows

-- the names of the answer's columns
abbrev pub column_names : CheckedQuery → List (List ℕ)
column_names q = map (λ c. c.name) q.columns
