-- What a shortest search gives: of the bindings that a path pattern allows from one start, those that a selector keeps.
use Rattle.std.specs.Prelude.{◌≡◌, ◌<◌, ◌^◌, List, map, length}
use Rattle.pg_value.specs.declared.shape.ElemId.{ElemId}
use Rattle.pg_value.specs.declared.shape.Shapes.{Shapes}
use Rattle.pg_value.specs.Tables.{Tables}
use Rattle.pg_ast.specs.declared.pattern.Selector.{Selector}
use Rattle.pg_meaning.specs.declared.checked.CheckedPath.{CheckedPath}
use Rattle.pg_meaning.specs.declared.checked.PathBinding.{PathBinding}
use Rattle.pg_meaning.specs.Walks.{graph_of}
use Rattle.pg_meaning.specs.Bindings.{Binding, IsAllowed, IsSelected, path_binding}

-- a binding that the path pattern allows, and that begins at the start
abbrev pub IsAllowedFrom : Shapes → Tables → CheckedPath → ElemId → Binding → Type 0
IsAllowedFrom shapes tables path start b = IsAllowed (graph_of shapes path.graph tables) path b × (b.start ≡ start)

-- what is found are the bindings that the selector keeps of those
pub record AreSelected (selector : Selector) (shapes : Shapes) (tables : Tables) (path : CheckedPath) (start : ElemId) (found : List PathBinding) : Type 0 where
  pub kept : List Binding
  pub selected : IsSelected selector (IsAllowedFrom shapes tables path start) kept
  pub given : found ≡ map path_binding kept

-- no list of it, of which its vertices are the longest, has so many items
abbrev pub IsShort : PathBinding → Type 0
IsShort b = length b.vertices < 2 ^ 34
