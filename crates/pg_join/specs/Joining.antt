-- Tuples of bindings, one for each path pattern, that agree on the variables that they share.
use Rattle.std.specs.Prelude.{◌≡◌, ◌<◌, ◌==◌, ℕ, Bool, true, false, cond, List, [], ◌∷◌, ◌++◌, map, filter, flat_map, length, slice_get, Contains, ◌↔◌, Option, Some, None}
use Rattle.std.specs.List.{list_any, list_all, AllZip}
use Rattle.std.specs.Option.{unwrap_or}
use Rattle.std.specs.Cmp.Lexicographic.{pointwise}
use Rattle.pg_value.specs.declared.shape.ElemId.{ElemId}
use Rattle.pg_value.specs.Graph.{same_elem}
use Rattle.pg_meaning.specs.declared.checked.CheckedPath.{CheckedPath}
use Rattle.pg_meaning.specs.declared.checked.PathBinding.{PathBinding}
use Rattle.pg_meaning.specs.Bindings.{Distinct}
use Rattle.pg_meaning.specs.Answers.{VarList, ListsAgree, lists_with}

-- THE LISTS OF VARIABLES

-- the list of a variable, None where there is none
abbrev pub list_in : List ℕ → List (List ElemId) → ℕ → Option (List ElemId)
list_in (y ∷ vars) (elems ∷ lists) x = cond (y == x) (Some elems) (list_in vars lists x)
list_in _ _ x = None

abbrev pub first_of : Option (List ElemId) → Option (List ElemId) → Option (List ElemId)
first_of (Some elems) other = Some elems
first_of None other = other

-- the first list that a tuple has of a variable
abbrev pub list_of : List CheckedPath → List PathBinding → ℕ → Option (List ElemId)
list_of (p ∷ paths) (b ∷ tuple) x = first_of (list_in p.vars b.vars x) (list_of paths tuple x)
list_of _ _ x = None

-- what a tuple says of the variables
abbrev pub lists_of : List CheckedPath → List PathBinding → List VarList
lists_of (p ∷ paths) (b ∷ tuple) = lists_with p.vars b.vars ++ lists_of paths tuple
lists_of _ _ = []

-- SHARED VARIABLES

abbrev pub occurs : List CheckedPath → ℕ → Bool
occurs paths x = list_any (λ p. list_any (λ y. y == x) p.vars) paths

-- the variables of a path pattern that earlier ones have
abbrev pub shared : List CheckedPath → CheckedPath → List ℕ
shared before p = filter (occurs before) p.vars

-- the elements of some variables
abbrev pub key_of : List ℕ → List CheckedPath → List PathBinding → List ElemId
key_of vars paths tuple = flat_map (λ x. unwrap_or (list_of paths tuple x) []) vars

abbrev pub same_list : Option (List ElemId) → Option (List ElemId) → Bool
same_list (Some xs) (Some ys) = pointwise same_elem xs ys
same_list None None = true
same_list _ _ = false

-- a binding has the lists that a tuple has of some variables
abbrev pub agrees : List ℕ → List CheckedPath → List PathBinding → CheckedPath → PathBinding → Bool
agrees vars before tuple p b = list_all (λ x. same_list (list_of before tuple x) (list_of (p ∷ []) (b ∷ []) x)) vars

-- BINDINGS BY THEIR KEYS

-- a binding with these elements of some variables
abbrev pub has_key : List ℕ → CheckedPath → List ElemId → PathBinding → Bool
has_key vars p key b = pointwise same_elem key (key_of vars (p ∷ []) (b ∷ []))

-- the place is that of the last that passes the test, of those before the n-th; None where none passes
abbrev pub IsLast : {X : Type 0} → (X → Bool) → List X → ℕ → Option ℕ → Type 0
IsLast {X} test xs n None = (j : ℕ) (x : X) → j < n → slice_get xs j ≡ Some x → test x ≡ false
IsLast {X} test xs n (Some i) = (i < n) × ((x : X) × (slice_get xs i ≡ Some x) × (test x ≡ true))
    × ((j : ℕ) (x : X) → i < j → j < n → slice_get xs j ≡ Some x → test x ≡ false)

-- those that pass the test, the last first
abbrev pub down : {X : Type 0} → (X → Bool) → List X → List X
down test [] = []
down test (x ∷ xs) = down test xs ++ cond (test x) (x ∷ []) []

-- LONGER TUPLES

abbrev pub longer : List PathBinding → PathBinding → List PathBinding
longer tuple b = tuple ++ b ∷ []

-- a tuple with each binding that agrees with it
abbrev pub longer_by : List ℕ → List CheckedPath → CheckedPath → List PathBinding → List PathBinding → List (List PathBinding)
longer_by vars before p kept tuple = map (longer tuple) (filter (agrees vars before tuple p) (down (has_key vars p (key_of vars before tuple)) kept))

abbrev pub extended : List CheckedPath → CheckedPath → List PathBinding → List (List PathBinding) → List (List PathBinding)
extended before p kept tuples = flat_map (longer_by (shared before p) before p kept) tuples

-- JOINED TUPLES

-- as many lists as the path pattern has variables, and equal variables have equal lists
pub record IsOf (p : CheckedPath) (b : PathBinding) : Type 0 where
  pub long : length b.vars ≡ length p.vars
  pub agree : ListsAgree (lists_with p.vars b.vars)

-- bindings of a path pattern, each once
pub record AreOf (p : CheckedPath) (kept : List PathBinding) : Type 0 where
  pub distinct : Distinct kept
  pub each : (b : PathBinding) → Contains kept b → IsOf p b

-- one binding of each path pattern, agreeing: each such tuple, once
pub record AreJoined (paths : List CheckedPath) (kept : List (List PathBinding)) (tuples : List (List PathBinding)) : Type 0 where
  pub distinct : Distinct tuples
  pub exactly : (tuple : List PathBinding) → Contains tuples tuple ↔ (AllZip (λ bindings b. Contains bindings b) kept tuple × ListsAgree (lists_of paths tuple))
