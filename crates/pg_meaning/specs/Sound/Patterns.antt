-- Sound path patterns: the sets of tables are of the graph, conditions are sound over the variables that may stand in them, walks are
-- bounded where they must be, and no two mentions of a variable clash. Compilation and search may rely on this.
use Rattle.std.specs.Prelude.{ℕ, ◌≡◌, ◌≤◌, ◌+◌, ◌==◌, ◌&&◌, Bool, false, cond, List, [], ◌∷◌, ◌++◌, map, length, filter_map, Contains, Option, Some, None, IfSome}
use Rattle.std.specs.List.{list_any}
use Rattle.pg_keyed.specs.Lists.{Each}
use Rattle.pg_value.specs.declared.shape.TableNo.{TableNo}
use Rattle.pg_value.specs.declared.shape.Shapes.{Shapes}
use Rattle.pg_value.specs.declared.shape.GraphShape.{GraphShape}
use Rattle.pg_ast.specs.declared.pattern.Quant.{Quant}
use Rattle.pg_meaning.specs.declared.checked.CFiller.{CFiller}
use Rattle.pg_meaning.specs.declared.checked.CPart.{CPart}
use Rattle.pg_meaning.specs.declared.checked.CPart.TheVariants.{Node, Edge, Group}
use Rattle.pg_meaning.specs.declared.checked.CheckedPath.{CheckedPath}
use Rattle.pg_meaning.specs.Fits.{HasTable}
use Rattle.pg_meaning.specs.HopQuery.{edge_tables}
use Rattle.pg_meaning.specs.Rounds.{quant_of}
use Rattle.pg_meaning.specs.Outlines.{Outline, is_every, walks_on, length_number}
use Rattle.pg_meaning.specs.Mentions.{Mention, Singleton, mentions_in, first_mentions, clash}
use Rattle.pg_meaning.specs.Sound.Kinds.{OfTables}
use Rattle.pg_meaning.specs.Sound.{Degrees, IsSoundCondition}
use Rattle.pg_meaning.specs.Sound.Graphs.{IsSoundGraph}

-- THE OUTLINE OF A CHECKED PATH PATTERN

abbrev pub outline_of : CPart → Outline ℕ
outline_of (Node f) = record { nodes = f.var ∷ []; edges = []; quant = None }
outline_of (Edge arrow f quant) = record { nodes = []; edges = f.var ∷ []; quant = quant }
outline_of (Group nodes arrows edges condition quant) = record { nodes = map (λ f. f.var) nodes; edges = map (λ f. f.var) edges; quant = quant }

abbrev pub outlines : CheckedPath → List (Outline ℕ)
outlines p = map outline_of p.parts

abbrev pub same_number : ℕ → ℕ → Bool
same_number x y = x == y

-- the variables of some mentions, each once, in order of first mention
abbrev pub variables_of : List (Mention ℕ) → List ℕ
variables_of ms = map (λ m. m.variable) (first_mentions same_number ms)

-- PARTS

-- these variables alone, as singletons
abbrev pub singletons : List ℕ → Degrees
singletons xs x = cond (list_any (λ y. y == x) xs) (Some Singleton) None

abbrev pub variables_in : List CFiller → List ℕ
variables_in fillers = filter_map (λ f. f.var) fillers

-- tables of one sort alone, and a condition over its own variable alone
pub record IsSoundFiller (shapes : Shapes) (sort : List TableNo) (f : CFiller) : Type 0 where
  pub tables : (t : TableNo) → HasTable f.tables t → Contains sort t
  pub condition : IsSoundCondition (OfTables shapes) (singletons (variables_in (f ∷ []))) f.cond

abbrev pub IsSoundNode : Shapes → GraphShape → CFiller → Type 0
IsSoundNode shapes g f = IsSoundFiller shapes g.vertices f

abbrev pub IsSoundLink : Shapes → GraphShape → CFiller → Type 0
IsSoundLink shapes g f = IsSoundFiller shapes (edge_tables shapes g) f

-- one to three edges, a node before and behind each, and a condition over the group's own variables
abbrev pub IsSoundPart : Shapes → GraphShape → CPart → Type 0
IsSoundPart shapes g (Node f) = IsSoundNode shapes g f
IsSoundPart shapes g (Edge arrow f quant) = IsSoundLink shapes g f
IsSoundPart shapes g (Group nodes arrows edges condition quant) =
    Each (IsSoundNode shapes g) nodes × Each (IsSoundLink shapes g) edges × (length nodes ≡ length edges + 1) × (length arrows ≡ length edges)
    × (1 ≤ length edges) × (length edges ≤ 3) × IsSoundCondition (OfTables shapes) (singletons (variables_in (nodes ++ edges))) condition

-- the lower number is not above the upper, and neither is above 255
abbrev pub IsSoundQuant : Option Quant → Type 0
IsSoundQuant None = Unit {0}
IsSoundQuant (Some q) = (q.low ≤ 255) × IfSome q.high (λ high. (q.low ≤ high) × (high ≤ 255))

-- PATH PATTERNS

-- no item has a relation to one behind it
abbrev pub NoPair : {X : Type 0} → (X → X → Bool) → List X → Type 0
NoPair test [] = Unit {0}
NoPair test (x ∷ xs) = Each (λ y. test x y ≡ false) xs × NoPair test xs

pub record IsSoundPath (shapes : Shapes) (p : CheckedPath) : Type 0 where
  pub graph : IsSoundGraph shapes p.graph
  pub parts : Each (IsSoundPart shapes p.graph) p.parts
  pub quantifiers : Each (λ part. IsSoundQuant (quant_of part)) p.parts
  -- a selector, a mode or an upper number bounds its walks
  pub bounded : (is_every p.selector && walks_on p.mode (outlines p)) ≡ false
  pub short : length_number (outlines p) ≤ 1000
  pub apart : NoPair (clash same_number (λ path. walks_on p.mode (outlines p))) (mentions_in 0 (outlines p))
  pub variables : p.vars ≡ variables_of (mentions_in 0 (outlines p))
