-- What a selector keeps of the bindings that are found from one start, and what is kept of a path pattern.
use Rattle.std.specs.Prelude.{◌≡◌, ◌≤◌, ◌-◌, true, is_some, List, map, length, slice_get, Contains, ◌↔◌, Option}
use Rattle.pg_value.specs.declared.shape.ElemId.{ElemId}
use Rattle.pg_value.specs.declared.shape.Shapes.{Shapes}
use Rattle.pg_value.specs.Tables.{Tables}
use Rattle.pg_ast.specs.declared.pattern.Selector.{Selector}
use Rattle.pg_ast.specs.declared.pattern.Selector.TheVariants.{Every, Any, AnyShortest, AllShortest}
use Rattle.pg_meaning.specs.declared.checked.CheckedPath.{CheckedPath}
use Rattle.pg_meaning.specs.declared.checked.PathBinding.{PathBinding}
use Rattle.pg_meaning.specs.Walks.{graph_of}
use Rattle.pg_meaning.specs.Bindings.{Binding, Distinct, IsAllowed, Selected, SelectedFrom, path_binding}

-- FROM ONE START

-- the last vertex
abbrev pub end_of : PathBinding → Option ElemId
end_of b = slice_get b.vertices (length b.vertices - 1)

abbrev pub HasEnd : PathBinding → Type 0
HasEnd b = is_some (end_of b) ≡ true

-- none of these with the same last vertex is shorter
abbrev pub IsLeastIn : List PathBinding → PathBinding → Type 0
IsLeastIn all b = (c : PathBinding) → Contains all c → end_of c ≡ end_of b → length b.edges ≤ length c.edges

-- those of least length, for each last vertex
pub record AreLeast (all kept : List PathBinding) : Type 0 where
  pub exactly : (b : PathBinding) → Contains kept b ↔ (Contains all b × IsLeastIn all b)
  pub some : (b : PathBinding) → Contains all b → (c : PathBinding) × Contains kept c × (end_of c ≡ end_of b)
  pub distinct : Distinct all → Distinct kept

-- one for each last vertex
pub record AreFirsts (all kept : List PathBinding) : Type 0 where
  pub among : (b : PathBinding) → Contains kept b → Contains all b
  pub apart : Distinct (map end_of kept)
  pub whole : (b : PathBinding) → Contains all b → Contains (map end_of kept) (end_of b)

abbrev pub AreKept : Selector → List PathBinding → List PathBinding → Type 0
AreKept Every all kept = kept ≡ all
AreKept Any all kept = AreFirsts all kept
AreKept AnyShortest all kept = (least : List PathBinding) × AreLeast all least × AreFirsts least kept
AreKept AllShortest all kept = AreLeast all kept

-- what the path pattern's selector keeps of those from the start
pub record AreKeptFrom (shapes : Shapes) (tables : Tables) (path : CheckedPath) (start : ElemId) (kept : List PathBinding) : Type 0 where
  pub bindings : List Binding
  pub given : kept ≡ map path_binding bindings
  pub selected : SelectedFrom (graph_of shapes path.graph tables) path start bindings

-- FROM ALL STARTS

-- vertices, each once, among them the first vertex of each allowed binding
pub record AreStarts (shapes : Shapes) (tables : Tables) (path : CheckedPath) (starts : List ElemId) : Type 0 where
  pub distinct : Distinct starts
  pub whole : (b : Binding) → IsAllowed (graph_of shapes path.graph tables) path b → Contains starts b.start

-- what the path pattern's selector keeps
pub record IsKept (shapes : Shapes) (tables : Tables) (path : CheckedPath) (kept : List PathBinding) : Type 0 where
  pub bindings : List Binding
  pub given : kept ≡ map path_binding bindings
  pub selected : Selected (graph_of shapes path.graph tables) path bindings
