-- The outline of a path pattern: how its nodes, edges and quantifiers follow one another, for patterns as they are written and as they
-- are checked. `V` is a name with its place there, and a number here.
use Rattle.std.specs.Prelude.{ℕ, ◌+◌, ◌*◌, ◌&&◌, Bool, true, false, not, is_some, is_none, max, List, [], ◌∷◌, ◌++◌, map, length, Option, Some, None}
use Rattle.std.specs.List.{list_any}
use Rattle.pg_ast.specs.declared.pattern.Quant.{Quant}
use Rattle.pg_ast.specs.declared.pattern.Mode.{Mode}
use Rattle.pg_ast.specs.declared.pattern.Mode.TheVariants as modes
use Rattle.pg_ast.specs.declared.pattern.Selector.{Selector}
use Rattle.pg_ast.specs.declared.pattern.Selector.TheVariants as selectors

-- THE OUTLINE

-- the variables of a part's nodes and of its edges, in order of writing, and how often it is repeated; a node or an edge without a
-- variable has none
pub record Outline (V : Type 0) : Type 0 where
  pub nodes : List (Option V)
  pub edges : List (Option V)
  pub quant : Option Quant

-- REPETITION

abbrev pub is_walk : Mode → Bool
is_walk modes.Walk = true
is_walk modes.Trail = false
is_walk modes.Acyclic = false
is_walk modes.Simple = false

abbrev pub is_every : Selector → Bool
is_every selectors.Every = true
is_every selectors.Any = false
is_every selectors.AnyShortest = false
is_every selectors.AllShortest = false

-- a quantifier without an upper number
abbrev pub has_no_upper : Option Quant → Bool
has_no_upper None = false
has_no_upper (Some q) = is_none q.high

-- every walk is allowed, and a part may be repeated without end
abbrev pub walks_on : {V : Type 0} → Mode → List (Outline V) → Bool
walks_on mode os = is_walk mode && list_any (λ o. has_no_upper o.quant) os

-- how often a part counts: by its upper number, or else by its lower one, but once at least
abbrev pub times_of : Option Quant → ℕ
times_of None = 1
times_of (Some q) = elim q.high [ None ↦ max q.low 1 | Some high ↦ high ]

-- the length number: the edges of each part, as often as it counts
abbrev pub length_number : {V : Type 0} → List (Outline V) → ℕ
length_number [] = 0
length_number (o ∷ os) = length o.edges * times_of o.quant + length_number os

-- NODES AND EDGES

-- a node or an edge of a path pattern
pub record Spot (V : Type 0) : Type 0 where
  pub variable : Option V
  pub edge : Bool
  -- the number of the quantified part in which it stands
  pub part : Option ℕ
  -- it is the first or the last node of its path pattern
  pub end : Bool

-- nodes and edges in turn, a node first
abbrev pub in_turn : {X : Type 0} → List X → List X → List X
in_turn [] edges = edges
in_turn (n ∷ nodes) [] = n ∷ nodes
in_turn (n ∷ nodes) (e ∷ edges) = n ∷ e ∷ in_turn nodes edges

abbrev pub spot : {V : Type 0} → Bool → Option ℕ → Option V → Spot V
spot edge part variable = record { variable = variable; edge = edge; part = part; end = false }

-- the number of a part, where it is quantified
abbrev pub part_if : Bool → ℕ → Option ℕ
part_if true number = Some number
part_if false number = None

abbrev pub spots_in : {V : Type 0} → ℕ → Outline V → List (Spot V)
spots_in number o = in_turn (map (spot false (part_if (is_some o.quant) number)) o.nodes) (map (spot true (part_if (is_some o.quant) number)) o.edges)

-- the spots of parts that are numbered from here on
abbrev pub spots_from : {V : Type 0} → ℕ → List (Outline V) → List (Spot V)
spots_from number [] = []
spots_from number (o ∷ os) = spots_in number o ++ spots_from (number + 1) os

-- a node that stands in no quantified part may be an end of its path pattern
abbrev pub as_end : {V : Type 0} → Spot V → Spot V
as_end s = record { variable = s.variable; edge = s.edge; part = s.part; end = not s.edge && is_none s.part }

abbrev pub first_as_end : {V : Type 0} → List (Spot V) → List (Spot V)
first_as_end [] = []
first_as_end (s ∷ ss) = as_end s ∷ ss

abbrev pub last_as_end : {V : Type 0} → List (Spot V) → List (Spot V)
last_as_end [] = []
last_as_end (s ∷ []) = as_end s ∷ []
last_as_end (s ∷ t ∷ ss) = s ∷ last_as_end (t ∷ ss)

-- the nodes and edges of a path pattern, in order of writing
abbrev pub spots : {V : Type 0} → List (Outline V) → List (Spot V)
spots os = last_as_end (first_as_end (spots_from 0 os))
