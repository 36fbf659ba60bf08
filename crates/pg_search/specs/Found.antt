-- What a search from one start gives: every allowed binding that begins there, once.
use Rattle.std.specs.Prelude.{◌≡◌, ◌↔◌, ◌==◌, ℕ, nat_le, cond, List, [], ◌∷◌, ◌++◌, map, flat_map, Contains, Option, Some, None}
use Rattle.pg_value.specs.declared.shape.ElemId.{ElemId}
use Rattle.pg_value.specs.declared.shape.Shapes.{Shapes}
use Rattle.pg_value.specs.Tables.{Tables}
use Rattle.pg_meaning.specs.declared.checked.CheckedPath.{CheckedPath}
use Rattle.pg_meaning.specs.declared.checked.PathBinding.{PathBinding}
use Rattle.pg_meaning.specs.Walks.{graph_of}
use Rattle.pg_meaning.specs.Bindings.{Binding, Distinct, IsAllowed, path_binding}
use Rattle.pg_auto.specs.States.{Walked, binding_of, walked}
use Rattle.pg_search.specs.declared.states.Kept.{Kept}
use Rattle.pg_search.specs.Numbers.{Numbers, elem_at, hop_of, mention_of, state_of}

pub record AreBindings (shapes : Shapes) (tables : Tables) (path : CheckedPath) (start : ElemId) (found : List Binding) : Type 0 where
  pub exactly : (b : Binding) → Contains found b ↔ (IsAllowed (graph_of shapes path.graph tables) path b × (b.start ≡ start))
  pub once : Distinct found

-- the same with the vertices and the edges of each walk apart
pub record ArePaths (shapes : Shapes) (tables : Tables) (path : CheckedPath) (start : ElemId) (found : List PathBinding) : Type 0 where
  pub bindings : List Binding
  pub listed : found ≡ map path_binding bindings
  pub are : AreBindings shapes tables path start bindings

-- READ OFF THE STATES

abbrev pub to_of : Numbers → ℕ × ℕ → ElemId
to_of n item = elem_at n item.1

abbrev pub edge_of : Numbers → ℕ × ℕ → ElemId
edge_of n item = elem_at n item.0

-- the number of the first element of a variable
abbrev pub first_no : List (ℕ × ℕ) → ℕ → Option ℕ
first_no [] x = None
first_no (m ∷ ms) x = cond (m.0 == x) (Some m.1) (first_no ms x)

-- an element, where it is of a variable
abbrev pub named : Numbers → ℕ → ℕ × ℕ → List ElemId
named n x m = cond (m.0 == x) (elem_at n m.1 ∷ []) []

abbrev pub first_elem : Numbers → Option ℕ → List ElemId
first_elem n o = elim o [ None ↦ [] | Some k ↦ elem_at n k ∷ [] ]

-- what a variable stands for
abbrev pub list_of : Numbers → List (ℕ × ℕ) → List (ℕ × ℕ) → ℕ → List ElemId
list_of n singles groups x = first_elem n (first_no singles x) ++ flat_map (named n x) groups

-- the walk of some hops and mentions
abbrev pub walk_of : Numbers → List (ℕ × ℕ) → List (ℕ × ℕ) → List (ℕ × ℕ) → Walked
walk_of n hops singles groups = record { hops = map (hop_of n) hops; singles = map (mention_of n) singles; groups = map (mention_of n) groups }

-- the binding of a state behind the last of so many stages
abbrev pub found_at : Numbers → ℕ → List ℕ → Kept → List PathBinding
found_at n count vars a = cond (nat_le count a.stage) (path_binding (binding_of n.start vars (walked (state_of n a))) ∷ []) []

abbrev pub found_in : Numbers → ℕ → List ℕ → Option Kept → List PathBinding
found_in n count vars o = elim o [ None ↦ [] | Some a ↦ found_at n count vars a ]
