-- The rows of joined tuples.
use Rattle.std.specs.Prelude.{◌≡◌, ◌==◌, ◌||◌, ℕ, Bool, true, false, cond, is_some, List, [], ◌∷◌, map, slice_get, Option, Some, None}
use Rattle.std.specs.List.{list_any, range_with_len, AllZip}
use Rattle.std.specs.Option.{unwrap_or}
use Rattle.pg_value.specs.declared.value.Truth.{Truth}
use Rattle.pg_value.specs.declared.value.Truth.TheVariants.{True, False, Unknown}
use Rattle.pg_value.specs.declared.row.Row.{Row}
use Rattle.pg_value.specs.declared.shape.ElemId.{ElemId}
use Rattle.pg_value.specs.declared.shape.Shapes.{Shapes}
use Rattle.pg_value.specs.Tables.{Tables}
use Rattle.pg_meaning.specs.declared.checked.CExpr.{CExpr}
use Rattle.pg_meaning.specs.declared.checked.CFiller.{CFiller}
use Rattle.pg_meaning.specs.declared.checked.CPart.{CPart}
use Rattle.pg_meaning.specs.declared.checked.CPart.TheVariants.{Node, Edge, Group}
use Rattle.pg_meaning.specs.declared.checked.CheckedPath.{CheckedPath}
use Rattle.pg_meaning.specs.declared.checked.CheckedQuery.{CheckedQuery}
use Rattle.pg_meaning.specs.declared.checked.PathBinding.{PathBinding}
use Rattle.pg_meaning.specs.declared.checked.Slot.{Slot}
use Rattle.pg_meaning.specs.declared.checked.Slot.TheVariants.{One, Many}
use Rattle.pg_meaning.specs.declared.checked.Bound.{Bound}
use Rattle.pg_meaning.specs.CExprs.{CTree, ctree_of}
use Rattle.pg_meaning.specs.Meaning.{Scope, OfVars, truth_of, value_of}
use Rattle.pg_meaning.specs.Walks.{graph_of}
use Rattle.pg_meaning.specs.Bindings.{Binding, IsBinding, path_binding}
use Rattle.pg_meaning.specs.Answers.{assigned, bound_to}
use Rattle.pg_meaning.specs.Sound.{IsSoundTree}
use Rattle.pg_meaning.specs.Sound.Kinds.{OfTables}
use Rattle.pg_meaning.specs.Sound.Queries.{FitsBound, degrees_of}
use Rattle.pg_meaning.specs.Rounds.{quant_of}
use Rattle.pg_join.specs.Joining.{list_of, lists_of}

-- TUPLES

-- one binding of each path pattern
pub record IsTuple (shapes : Shapes) (tables : Tables) (q : CheckedQuery) (tuple : List PathBinding) : Type 0 where
  pub bindings : List Binding
  pub given : tuple ≡ map path_binding bindings
  pub fits : AllZip (λ p b. IsBinding (graph_of shapes q.graph tables) p b) q.paths bindings

-- what a condition and the columns are judged over
abbrev pub scope_of : Tables → CheckedQuery → List PathBinding → Scope
scope_of tables q tuple = OfVars tables (assigned (lists_of q.paths tuple))

abbrev pub is_true : Truth → Bool
is_true True = true
is_true False = false
is_true Unknown = false

-- the condition, where there is one, is true
abbrev pub meets : Option CExpr → Scope → Bool
meets None scope = true
meets (Some c) scope = is_true (truth_of (ctree_of c) scope)

-- the row of a tuple
abbrev pub row_of : Tables → CheckedQuery → List PathBinding → Row
row_of tables q tuple = record { values = map (λ c. value_of (ctree_of c.expr) (scope_of tables q tuple)) q.columns }

-- the row of a tuple that the final condition keeps
abbrev pub rows_of : Tables → CheckedQuery → List PathBinding → List Row
rows_of tables q tuple = cond (meets q.cond (scope_of tables q tuple)) (row_of tables q tuple ∷ []) []

-- GROUP VARIABLES

abbrev pub names : ℕ → CFiller → Bool
names x f = elim f.var [ None ↦ false | Some y ↦ x == y ]

abbrev pub part_names : ℕ → CPart → Bool
part_names x (Node f) = names x f
part_names x (Edge arrow f quant) = names x f
part_names x (Group nodes arrows edges condition quant) = list_any (names x) nodes || list_any (names x) edges

-- the first part that names a variable is quantified
abbrev pub grouped_in : ℕ → List CPart → Option Bool
grouped_in x [] = None
grouped_in x (part ∷ parts) = cond (part_names x part) (Some (is_some (quant_of part))) (grouped_in x parts)

abbrev pub first_so : Option Bool → Option Bool → Option Bool
first_so (Some b) other = Some b
first_so None other = other

abbrev pub grouped : ℕ → List CheckedPath → Option Bool
grouped x [] = None
grouped x (p ∷ paths) = first_so (grouped_in x p.parts) (grouped x paths)

-- for each variable whether it is a group variable
abbrev pub groups_of : CheckedQuery → List Bool
groups_of q = map (λ x. unwrap_or (grouped x q.paths) false) (range_with_len 0 q.vars)

-- SLOTS

abbrev pub slot_with : Bool → List ElemId → Slot
slot_with true elems = Many elems
slot_with false (e ∷ []) = One e
slot_with false elems = Many elems

-- what each variable stands for in a tuple
abbrev pub slots_of : CheckedQuery → List Bool → List PathBinding → List Slot
slots_of q groups tuple = map (λ x. slot_with (unwrap_or (slice_get groups x) false) (unwrap_or (list_of q.paths tuple x) [])) (range_with_len 0 q.vars)

-- expressions have the same values over the slots and over the tuple
pub record IsBoundTo (shapes : Shapes) (tables : Tables) (q : CheckedQuery) (tuple : List PathBinding) (bound : Bound) : Type 0 where
  pub slots : FitsBound (degrees_of q) tables bound
  pub value : (x : CTree) → IsSoundTree (OfTables shapes) (degrees_of q) x → value_of x (OfVars tables (bound_to bound)) ≡ value_of x (scope_of tables q tuple)

-- the row of what the variables stand for, where the final condition keeps it
abbrev pub bound_rows : Tables → CheckedQuery → Bound → List Row
bound_rows tables q bound = cond (meets q.cond (OfVars tables (bound_to bound))) (record { values = map (λ c. value_of (ctree_of c.expr) (OfVars tables (bound_to bound))) q.columns } ∷ []) []
