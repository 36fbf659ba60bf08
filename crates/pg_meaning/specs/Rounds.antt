-- The parts of a path pattern. Each is a round, a node and then legs of an edge and a node, with how often it is repeated:
-- a node is a round without legs, an edge is a round of one leg between nodes that ask nothing, and a group is a round of its legs.
use Rattle.std.specs.Prelude.{List, [], ◌∷◌, Option, Some, None}
use Rattle.pg_ast.specs.declared.pattern.Arrow.{Arrow}
use Rattle.pg_ast.specs.declared.pattern.Quant.{Quant}
use Rattle.pg_meaning.specs.declared.checked.CExpr.{CExpr}
use Rattle.pg_meaning.specs.declared.checked.CFiller.{CFiller}
use Rattle.pg_meaning.specs.declared.checked.CPart.{CPart}
use Rattle.pg_meaning.specs.declared.checked.CPart.TheVariants.{Node, Edge, Group}

pub record Leg : Type 0 where
  pub arrow : Arrow
  pub edge : CFiller
  pub node : Option CFiller

pub record Round : Type 0 where
  pub node : Option CFiller
  pub legs : List Leg
  pub cond : Option CExpr

abbrev pub legs_of : List Arrow → List CFiller → List CFiller → List Leg
legs_of (arrow ∷ arrows) (edge ∷ edges) (node ∷ nodes) = record { arrow = arrow; edge = edge; node = Some node } ∷ legs_of arrows edges nodes
legs_of _ _ _ = []

abbrev pub group_of : List CFiller → List Arrow → List CFiller → Option CExpr → Round
group_of [] arrows edges condition = record { node = None; legs = []; cond = condition }
group_of (node ∷ nodes) arrows edges condition = record { node = Some node; legs = legs_of arrows edges nodes; cond = condition }

abbrev pub round_of : CPart → Round
round_of (Node filler) = record { node = Some filler; legs = []; cond = None }
round_of (Edge arrow filler quant) = record { node = None; legs = record { arrow = arrow; edge = filler; node = None } ∷ []; cond = None }
round_of (Group nodes arrows edges condition quant) = group_of nodes arrows edges condition

-- none where the part stands once
abbrev pub quant_of : CPart → Option Quant
quant_of (Node filler) = None
quant_of (Edge arrow filler quant) = quant
quant_of (Group nodes arrows edges condition quant) = quant
