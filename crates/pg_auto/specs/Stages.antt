-- The stages of a path pattern: each of its parts is a round with the numbers of times that it may be repeated; and its variables.
use Rattle.std.specs.Prelude.{ℕ, Bool, false, is_some, ◌&&◌, ◌||◌, ◌==◌, List, [], ◌∷◌, map, Option, Some, None}
use Rattle.std.specs.List.{list_any}
use Rattle.pg_value.specs.declared.shape.GraphShape.{GraphShape}
use Rattle.pg_ast.specs.declared.pattern.Arrow.{Arrow}
use Rattle.pg_ast.specs.declared.pattern.Quant.{Quant}
use Rattle.pg_meaning.specs.declared.checked.CFiller.{CFiller}
use Rattle.pg_meaning.specs.declared.checked.CPart.{CPart}
use Rattle.pg_meaning.specs.declared.checked.CheckedPath.{CheckedPath}
use Rattle.pg_meaning.specs.Rounds.{Leg, Round, round_of, quant_of}

pub record Stage : Type 0 where
  pub round : Round
  pub low : ℕ
  -- without it there is no upper number
  pub high : Option ℕ
  -- it is quantified, so its variables are group variables
  pub grouped : Bool

-- a part without a quantifier stands once

abbrev pub low_of : Option Quant → ℕ
low_of None = 1
low_of (Some q) = q.low

abbrev pub high_of : Option Quant → Option ℕ
high_of None = Some 1
high_of (Some q) = q.high

abbrev pub counted : Round → Option Quant → Stage
counted round quant = record { round = round; low = low_of quant; high = high_of quant; grouped = is_some quant }

abbrev pub stage_of : CPart → Stage
stage_of part = counted (round_of part) (quant_of part)

-- the stage of an edge that stands between nodes that ask nothing
abbrev pub edge_stage : Arrow → CFiller → Option Quant → Stage
edge_stage arrow edge quant = counted (record { node = None; legs = record { arrow = arrow; edge = edge; node = None } ∷ []; cond = None }) quant

-- VARIABLES

pub record Variable : Type 0 where
  pub number : ℕ
  pub grouped : Bool

abbrev pub is_of : ℕ → CFiller → Bool
is_of x f = elim f.var [ None ↦ false | Some y ↦ y == x ]

abbrev pub is_of_node : ℕ → Option CFiller → Bool
is_of_node x node = elim node [ None ↦ false | Some f ↦ is_of x f ]

abbrev pub is_of_leg : ℕ → Leg → Bool
is_of_leg x leg = is_of x leg.edge || is_of_node x leg.node

-- a round mentions the variable
abbrev pub mentions : ℕ → Round → Bool
mentions x round = is_of_node x round.node || list_any (is_of_leg x) round.legs

-- a quantified stage mentions it
abbrev pub groups : ℕ → Stage → Bool
groups x stage = stage.grouped && mentions x stage.round

abbrev pub is_grouped : List Stage → ℕ → Bool
is_grouped stages x = list_any (groups x) stages

abbrev pub variable : List Stage → ℕ → Variable
variable stages x = record { number = x; grouped = is_grouped stages x }

-- THE PATTERN

-- what is compiled of a path pattern: its graph, its stages, and its variables in order of first mention
pub record Pattern : Type 0 where
  pub graph : GraphShape
  pub stages : List Stage
  pub vars : List Variable

abbrev pub stages_of : CheckedPath → List Stage
stages_of path = map stage_of path.parts

abbrev pub pattern_of : CheckedPath → Pattern
pattern_of path = record {
  graph = path.graph;
  stages = stages_of path;
  vars = map (variable (stages_of path)) path.vars;
}
