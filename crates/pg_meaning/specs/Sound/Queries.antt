-- Sound queries, and what the variables of one may stand for.
use Rattle.std.specs.Prelude.{ℕ, ◌≡◌, ◌≤◌, ◌<◌, ◌^◌, Bool, false, List, map, length, slice_get, is_some, true, Option, Some, None, IfSome}
use Rattle.std.specs.List.{range_with_len}
use Rattle.pg_keyed.specs.Lists.{Each}
use Rattle.pg_value.specs.declared.shape.ElemId.{ElemId}
use Rattle.pg_value.specs.declared.shape.Shapes.{Shapes}
use Rattle.pg_value.specs.Tables.{Tables, stored_at}
use Rattle.pg_value.specs.Graph.{elem_place}
use Rattle.pg_meaning.specs.declared.checked.Slot.{Slot}
use Rattle.pg_meaning.specs.declared.checked.Slot.TheVariants.{One, Many}
use Rattle.pg_meaning.specs.declared.checked.Bound.{Bound}
use Rattle.pg_meaning.specs.declared.checked.CheckedPath.{CheckedPath}
use Rattle.pg_meaning.specs.declared.checked.CheckedColumn.{CheckedColumn}
use Rattle.pg_meaning.specs.declared.checked.CheckedQuery.{CheckedQuery}
use Rattle.pg_meaning.specs.CExprs.{ctree_of}
use Rattle.pg_meaning.specs.Typing.{count_width}
use Rattle.pg_meaning.specs.Outlines.{walks_on}
use Rattle.pg_meaning.specs.Mentions.{Mention, Degree, Singleton, Grouped, mentions, degree_in, clash}
use Rattle.pg_meaning.specs.Sound.Kinds.{OfTables, kind_in, width_in}
use Rattle.pg_meaning.specs.Sound.{Degrees, IsSoundExpr, IsSoundCondition}
use Rattle.pg_meaning.specs.Sound.Graphs.{IsSoundGraph}
use Rattle.pg_meaning.specs.Sound.Patterns.{NoPair, IsSoundPath, outlines, same_number, variables_of}

-- QUERIES

abbrev pub mentions_of : CheckedQuery → List (Mention ℕ)
mentions_of q = mentions (map outlines q.paths)

-- what each variable of a query stands for in its final condition and its columns
abbrev pub degrees_of : CheckedQuery → Degrees
degrees_of q x = degree_in same_number (mentions_of q) x

abbrev pub walks_on_in : Option CheckedPath → Bool
walks_on_in None = false
walks_on_in (Some p) = walks_on p.mode (outlines p)

-- a path pattern in which a variable may stand twice only as first and as last node
abbrev pub is_strict : CheckedQuery → ℕ → Bool
is_strict q path = walks_on_in (slice_get q.paths path)

-- a column's kind and width are those of its expression
pub record IsSoundColumn (shapes : Shapes) (degrees : Degrees) (c : CheckedColumn) : Type 0 where
  pub sound : IsSoundExpr (OfTables shapes) degrees c.expr
  pub kind : c.kind ≡ kind_in (OfTables shapes) (ctree_of c.expr)
  pub width : c.width ≡ width_in (OfTables shapes) (ctree_of c.expr)

pub record IsSoundQuery (shapes : Shapes) (q : CheckedQuery) : Type 0 where
  pub graph : IsSoundGraph shapes q.graph
  pub few : length q.paths ≤ 8
  pub paths : Each (λ p. (p.graph ≡ q.graph) × IsSoundPath shapes p) q.paths
  pub apart : NoPair (clash same_number (is_strict q)) (mentions_of q)
  -- the variables are numbered in order of first mention
  pub numbered : variables_of (mentions_of q) ≡ range_with_len 0 q.vars
  pub few_variables : q.vars ≤ 32
  pub condition : IsSoundCondition (OfTables shapes) (degrees_of q) q.cond
  pub few_columns : length q.columns ≤ 32
  pub columns : Each (IsSoundColumn shapes (degrees_of q)) q.columns

-- WHAT VARIABLES STAND FOR

-- a row of the tables
abbrev pub IsRow : Tables → ElemId → Type 0
IsRow tables e = is_some (stored_at (elem_place e) tables) ≡ true

-- one row for a singleton, and a short list of rows for a group variable
abbrev pub FitsSlot : Tables → Degree → Slot → Type 0
FitsSlot tables Singleton (One e) = IsRow tables e
FitsSlot tables Singleton (Many es) = ⊥
FitsSlot tables Grouped (One e) = ⊥
FitsSlot tables Grouped (Many es) = Each (IsRow tables) es × (length es < 2 ^ count_width)

-- each variable that may stand in an expression has a slot of its degree
abbrev pub FitsBound : Degrees → Tables → Bound → Type 0
FitsBound degrees tables bound = (x : ℕ) → IfSome (degrees x) (λ d. (s : Slot) × (slice_get bound.vars x ≡ Some s) × FitsSlot tables d s)
