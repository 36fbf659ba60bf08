-- Bindings of a path pattern, which of them its mode allows, and which of these its selector keeps
-- (after Deutsch et al., "Graph Pattern Matching in GQL and SQL/PGQ", SIGMOD 2022).
use Rattle.std.specs.Prelude.{◌≡◌, ◌≤◌, List, [], ◌∷◌, length, flat_map, map, Contains, ◌↔◌}
use Rattle.pg_value.specs.declared.shape.ElemId.{ElemId}
use Rattle.pg_ast.specs.declared.pattern.Mode.{Mode}
use Rattle.pg_ast.specs.declared.pattern.Mode.TheVariants.{Walk, Trail, Acyclic, Simple}
use Rattle.pg_ast.specs.declared.pattern.Selector.{Selector}
use Rattle.pg_ast.specs.declared.pattern.Selector.TheVariants.{Every, Any, AnyShortest, AllShortest}
use Rattle.pg_meaning.specs.declared.checked.CheckedPath.{CheckedPath}
use Rattle.pg_meaning.specs.declared.checked.PathBinding.{PathBinding}
use Rattle.pg_meaning.specs.Walks.{Graph, Hop, vertices_of, edges_of, last_vertex}
use Rattle.pg_meaning.specs.Fits.{Fits, singles, lists_of, Agree, join}

-- a walk, and the list of each variable of the pattern, in order of first mention
pub record Binding : Type 0 where
  pub start : ElemId
  pub hops : List Hop
  pub vars : List (List ElemId)

-- the same with the vertices and the edges of the walk apart
abbrev pub path_binding : Binding → PathBinding
path_binding b = record { vertices = vertices_of b.start b.hops; edges = edges_of b.hops; vars = b.vars }

-- some cuts of the walk fit, repeated singletons agree, and these are the lists
pub record IsBinding (g : Graph) (p : CheckedPath) (b : Binding) : Type 0 where
  pub start : Contains g.vertices b.start
  pub cuts : List (List (List Hop))
  pub hops : b.hops ≡ flat_map join cuts
  pub fits : Fits g p.parts b.start cuts
  pub agree : Agree (singles p.parts b.start cuts)
  pub vars : b.vars ≡ map (lists_of p.parts b.start cuts) p.vars

-- no item is equal to one after it
abbrev pub Distinct : {X : Type 0} → List X → Type 0
Distinct [] = Unit {0}
Distinct (x ∷ xs) = (Contains xs x → ⊥) × Distinct xs

-- all but the last
abbrev pub front_of : {X : Type 0} → List X → List X
front_of [] = []
front_of (x ∷ []) = []
front_of (x ∷ y ∷ xs) = x ∷ front_of (y ∷ xs)

abbrev pub Permits : Mode → ElemId → List Hop → Type 0
Permits Walk v hops = Unit {0}
Permits Trail v hops = Distinct (edges_of hops)
Permits Acyclic v hops = Distinct (vertices_of v hops)
Permits Simple v hops = Distinct (front_of (vertices_of v hops)) × Distinct (map (λ hop. hop.to) hops)

pub record IsAllowed (g : Graph) (p : CheckedPath) (b : Binding) : Type 0 where
  pub binding : IsBinding g p b
  pub permitted : Permits p.mode b.start b.hops

-- first and last vertex are the same
abbrev pub SamePair : Binding → Binding → Type 0
SamePair a b = (a.start ≡ b.start) × (last_vertex a.start a.hops ≡ last_vertex b.start b.hops)

-- no allowed binding of its pair is shorter
abbrev pub IsShortest : (Binding → Type 0) → Binding → Type 0
IsShortest Allowed b = (c : Binding) → Allowed c → SamePair b c → length b.hops ≤ length c.hops

-- one of each pair that has one
pub record OnePerPair (Allowed : Binding → Type 0) (kept : List Binding) : Type 0 where
  pub some : (b : Binding) → Allowed b → (c : Binding) × Contains kept c × SamePair b c
  pub once : (b c : Binding) → Contains kept b → Contains kept c → SamePair b c → b ≡ c

abbrev pub IsComplete : Selector → (Binding → Type 0) → List Binding → Type 0
IsComplete Every Allowed kept = (b : Binding) → Allowed b → Contains kept b
IsComplete Any Allowed kept = OnePerPair Allowed kept
IsComplete AnyShortest Allowed kept = OnePerPair Allowed kept × ((b : Binding) → Contains kept b → IsShortest Allowed b)
IsComplete AllShortest Allowed kept = (b : Binding) → Allowed b → (Contains kept b ↔ IsShortest Allowed b)

-- the bindings that a selector keeps of those that are allowed, each once
pub record IsSelected (selector : Selector) (Allowed : Binding → Type 0) (kept : List Binding) : Type 0 where
  pub distinct : Distinct kept
  pub allowed : (b : Binding) → Contains kept b → Allowed b
  pub complete : IsComplete selector Allowed kept

abbrev pub Selected : Graph → CheckedPath → List Binding → Type 0
Selected g p kept = IsSelected p.selector (IsAllowed g p) kept

-- the same of the bindings that begin at one vertex
abbrev pub SelectedFrom : Graph → CheckedPath → ElemId → List Binding → Type 0
SelectedFrom g p start kept = IsSelected p.selector (λ b. IsAllowed g p b × (b.start ≡ start)) kept
