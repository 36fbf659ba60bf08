-- What the bindings of sound path patterns and queries name: rows of the graph's tables, in lists that are at most one longer than their walks.
-- Evaluation behind a search may rely on this.
use Rattle.std.specs.Prelude.{ℕ, ◌≡◌, ◌≤◌, ◌<◌, ◌+◌, ◌^◌, List, [], ◌∷◌, length, slice_get, Contains, Option, Some, None, IfSome}
use Rattle.std.specs.List.{AllZip}
use Rattle.pg_keyed.specs.Lists.{Each}
use Rattle.pg_value.specs.declared.shape.ElemId.{ElemId}
use Rattle.pg_value.specs.declared.shape.Shapes.{Shapes}
use Rattle.pg_value.specs.declared.shape.GraphShape.{GraphShape}
use Rattle.pg_value.specs.Tables.{Tables, IsInOrder}
use Rattle.pg_meaning.specs.declared.checked.Slot.{Slot}
use Rattle.pg_meaning.specs.declared.checked.Slot.TheVariants.{One, Many}
use Rattle.pg_meaning.specs.declared.checked.Bound.{Bound}
use Rattle.pg_meaning.specs.declared.checked.CheckedPath.{CheckedPath}
use Rattle.pg_meaning.specs.declared.checked.CheckedQuery.{CheckedQuery}
use Rattle.pg_meaning.specs.CExprs.{CTree}
use Rattle.pg_meaning.specs.Typing.{count_width}
use Rattle.pg_meaning.specs.Meaning.{OfVars, value_of}
use Rattle.pg_meaning.specs.Walks.{graph_of, vertices_of, edges_of}
use Rattle.pg_meaning.specs.Bindings.{Binding, IsBinding}
use Rattle.pg_meaning.specs.Answers.{lists_in, assigned, bound_to}
use Rattle.pg_meaning.specs.HopQuery.{edge_tables}
use Rattle.pg_meaning.specs.Mentions.{Degree, Singleton, Grouped}
use Rattle.pg_meaning.specs.Sound.{IsSoundTree}
use Rattle.pg_meaning.specs.Sound.Kinds.{OfTables}
use Rattle.pg_meaning.specs.Sound.Patterns.{IsSoundPath}
use Rattle.pg_meaning.specs.Sound.Queries.{IsSoundQuery, IsRow, FitsBound, degrees_of}

-- BINDINGS

-- a row of a vertex table of the graph
pub record IsVertexRow (g : GraphShape) (tables : Tables) (e : ElemId) : Type 0 where
  pub table : Contains g.vertices e.table
  pub row : IsRow tables e

-- a row of an edge table of the graph
pub record IsEdgeRow (shapes : Shapes) (g : GraphShape) (tables : Tables) (e : ElemId) : Type 0 where
  pub table : Contains (edge_tables shapes g) e.table
  pub row : IsRow tables e

-- rows, at most one more than a walk has hops
pub record IsShortList (tables : Tables) (hops : ℕ) (elems : List ElemId) : Type 0 where
  pub rows : Each (IsRow tables) elems
  pub short : length elems ≤ hops + 1

pub record IsStanding (shapes : Shapes) (g : GraphShape) (tables : Tables) (b : Binding) : Type 0 where
  pub vertices : Each (IsVertexRow g tables) (vertices_of b.start b.hops)
  pub edges : Each (IsEdgeRow shapes g tables) (edges_of b.hops)
  pub lists : Each (IsShortList tables (length b.hops)) b.vars

-- JOINED TUPLES

-- what a variable stands for: one row for a singleton, and a list of rows for a group variable
abbrev pub FitsDegree : Tables → ℕ → Degree → List ElemId → Type 0
FitsDegree tables hops Singleton elems = (e : ElemId) × (elems ≡ e ∷ []) × IsRow tables e
FitsDegree tables hops Grouped elems = IsShortList tables hops elems

-- the slot of a variable: its one element, or its list
abbrev pub slot_for : Degree → List ElemId → Option Slot
slot_for Singleton [] = None
slot_for Singleton (e ∷ []) = Some (One e)
slot_for Singleton (e ∷ f ∷ elems) = None
slot_for Grouped elems = Some (Many elems)

-- slots that have what a joined tuple says of the variables
abbrev pub IsBoundOf : CheckedQuery → List Binding → Bound → Type 0
IsBoundOf q tuple bound = (x : ℕ) → IfSome (degrees_of q x) (λ d. slice_get bound.vars x ≡ slot_for d (assigned (lists_in q.paths tuple) x))

-- THE LAWS

-- a binding of a sound path pattern names rows of the graph's tables, in short lists
abbrev pub BindingsStand : Type 0
BindingsStand = (shapes : Shapes) (tables : Tables) (p : CheckedPath) (b : Binding) → IsSoundPath shapes p → IsInOrder tables → IsBinding (graph_of shapes p.graph tables) p b
    → IsStanding shapes p.graph tables b

-- of a sound query, bindings of its path patterns over no more hops than this give each variable what its degree says
abbrev pub TuplesFit : Type 0
TuplesFit = (shapes : Shapes) (tables : Tables) (q : CheckedQuery) (tuple : List Binding) (hops : ℕ) → IsSoundQuery shapes q → IsInOrder tables
    → AllZip (λ p b. IsBinding (graph_of shapes q.graph tables) p b) q.paths tuple → Each (λ b. length b.hops ≤ hops) tuple
    → (x : ℕ) → IfSome (degrees_of q x) (λ d. FitsDegree tables hops d (assigned (lists_in q.paths tuple) x))

-- Such slots are what the final condition and the columns may be judged over, where each walk has fewer than 2^48 - 1 hops, and these have the
-- same value over the slots and over the tuple.
pub record BoundsFit (shapes : Shapes) (tables : Tables) (q : CheckedQuery) (tuple : List Binding) (bound : Bound) : Type 0 where
  pub slots : FitsBound (degrees_of q) tables bound
  pub value : (x : CTree) → IsSoundTree (OfTables shapes) (degrees_of q) x → value_of x (OfVars tables (bound_to bound)) ≡ value_of x (OfVars tables (assigned (lists_in q.paths tuple)))

abbrev pub BoundTuplesFit : Type 0
BoundTuplesFit = (shapes : Shapes) (tables : Tables) (q : CheckedQuery) (tuple : List Binding) (hops : ℕ) (bound : Bound) → IsSoundQuery shapes q → IsInOrder tables
    → AllZip (λ p b. IsBinding (graph_of shapes q.graph tables) p b) q.paths tuple → Each (λ b. length b.hops ≤ hops) tuple → hops + 1 < 2 ^ count_width → IsBoundOf q tuple bound
    → BoundsFit shapes tables q tuple bound
