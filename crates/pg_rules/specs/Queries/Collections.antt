-- What the rules of queries look at: where a query mentions its variables, and where its expressions use them.
use Rattle.std.specs.Prelude.{ℕ, Bool, List, [], ◌∷◌, ◌++◌, map, filter_map, flat_map, Option, Some, None, option_to_list}
use Rattle.std.specs.Str.{bytes_eq}
use Rattle.pg_ast.specs.declared.expr.Name.{Name}
use Rattle.pg_ast.specs.declared.expr.Whole.{Whole}
use Rattle.pg_ast.specs.declared.pattern.Filler.{Filler}
use Rattle.pg_ast.specs.declared.pattern.Quant.{Quant}
use Rattle.pg_ast.specs.declared.pattern.Part.{Part}
use Rattle.pg_ast.specs.declared.pattern.Part.TheVariants as parts
use Rattle.pg_ast.specs.declared.pattern.PathPattern.{PathPattern}
use Rattle.pg_ast.specs.declared.pattern.Query.{Query}
use Rattle.pg_ast.specs.Trees.{ExprTree, tree_of, Literal, Wide, ColumnOf, PropertyOf, One, Two, Group, Counted}
use Rattle.pg_meaning.specs.Outlines.{Outline}
use Rattle.pg_meaning.specs.Mentions.{Mention, mentions, first_mentions}

-- MENTIONS

abbrev pub same_name : Name → Name → Bool
same_name a b = bytes_eq a.text b.text

abbrev pub outline_of : Part → Outline Name
outline_of (parts.Node f) = record { nodes = f.var ∷ []; edges = []; quant = None }
outline_of (parts.Edge arrow f quant) = record { nodes = []; edges = f.var ∷ []; quant = quant }
outline_of (parts.Group nodes arrows edges condition quant) = record { nodes = map (λ f. f.var) nodes; edges = map (λ f. f.var) edges; quant = quant }

abbrev pub outlines : PathPattern → List (Outline Name)
outlines p = map outline_of p.parts

-- each mention of a variable: its place, whether it names a node or an edge, in which path pattern and in which quantified part, and
-- whether it is the first or the last node
abbrev pub mentions_of : Query → List (Mention Name)
mentions_of q = mentions (map outlines q.paths)

-- the variables of a query, each at its first mention
abbrev pub variables_of : Query → List Name
variables_of q = map (λ m. m.variable) (first_mentions same_name (mentions_of q))

-- NODES, EDGES AND QUANTIFIERS

abbrev pub fillers_of : Part → List Filler
fillers_of (parts.Node f) = f ∷ []
fillers_of (parts.Edge arrow f quant) = f ∷ []
fillers_of (parts.Group nodes arrows edges condition quant) = nodes ++ edges

abbrev pub quant_of : Part → Option Quant
quant_of (parts.Node f) = None
quant_of (parts.Edge arrow f quant) = quant
quant_of (parts.Group nodes arrows edges condition quant) = quant

abbrev pub parts_of : Query → List Part
parts_of q = flat_map (λ p. p.parts) q.paths

-- CONDITIONS AND COLUMNS

-- a condition inside a pattern, and the variables that it may use
pub record Inner : Type 0 where
  pub condition : Whole
  pub own : List Name

abbrev pub inner_if : Option Whole → List Name → List Inner
inner_if None own = []
inner_if (Some w) own = record { condition = w; own = own } ∷ []

-- the condition of a node or an edge, over its own variable
abbrev pub inner_of : Filler → List Inner
inner_of f = inner_if f.cond (option_to_list f.var)

abbrev pub named : List Filler → List Name
named fillers = filter_map (λ f. f.var) fillers

-- the condition of a group, over the group's variables
abbrev pub inner_of_group : Part → List Inner
inner_of_group (parts.Node f) = []
inner_of_group (parts.Edge arrow f quant) = []
inner_of_group (parts.Group nodes arrows edges condition quant) = inner_if condition (named (nodes ++ edges))

abbrev pub inner_in : Part → List Inner
inner_in part = flat_map inner_of (fillers_of part) ++ inner_of_group part

-- the conditions inside the patterns of a query
abbrev pub inner_conditions : Query → List Inner
inner_conditions q = flat_map inner_in (parts_of q)

-- all conditions: those inside the patterns, and the final one
abbrev pub conditions : Query → List Whole
conditions q = map (λ i. i.condition) (inner_conditions q) ++ option_to_list q.cond

-- the expressions outside the patterns: the final condition, and the columns
abbrev pub outer : Query → List ExprTree
outer q = map (λ w. tree_of w.expr) (option_to_list q.cond) ++ map (λ c. tree_of c.expr.expr) q.columns

-- those inside
abbrev pub inner : Query → List ExprTree
inner q = map (λ i. tree_of i.condition.expr) (inner_conditions q)

-- USES

-- a variable where an expression uses it: by a property, or without one in COUNT(v)
pub record Use : Type 0 where
  pub variable : Name
  pub property : Option Name
  -- the places of the aggregates around it, the outermost first
  pub around : List ℕ

abbrev pub uses_in : List ℕ → ExprTree → List Use
uses_in around (Literal v bits at) = []
uses_in around (Wide at) = []
uses_in around (ColumnOf n) = []
uses_in around (PropertyOf v n) = record { variable = v; property = Some n; around = around } ∷ []
uses_in around (One op x at) = uses_in around x
uses_in around (Two op x y at) = uses_in around x ++ uses_in around y
uses_in around (Group agg x at) = uses_in (around ++ at ∷ []) x
uses_in around (Counted v at) = record { variable = v; property = None; around = around ++ at ∷ [] } ∷ []

abbrev pub uses : ExprTree → List Use
uses x = uses_in [] x

-- an aggregate: the place of its word, the places of those around it, and the uses of variables in its argument
pub record Aggregate : Type 0 where
  pub at : ℕ
  pub around : List ℕ
  pub argument : List Use

abbrev pub aggregates_in : List ℕ → ExprTree → List Aggregate
aggregates_in around (Literal v bits at) = []
aggregates_in around (Wide at) = []
aggregates_in around (ColumnOf n) = []
aggregates_in around (PropertyOf v n) = []
aggregates_in around (One op x at) = aggregates_in around x
aggregates_in around (Two op x y at) = aggregates_in around x ++ aggregates_in around y
aggregates_in around (Group agg x at) =
    record { at = at; around = around; argument = uses_in (around ++ at ∷ []) x } ∷ aggregates_in (around ++ at ∷ []) x
aggregates_in around (Counted v at) =
    record { at = at; around = around; argument = record { variable = v; property = None; around = around ++ at ∷ [] } ∷ [] } ∷ []

abbrev pub aggregates : ExprTree → List Aggregate
aggregates x = aggregates_in [] x

-- all uses of a query
abbrev pub uses_of : Query → List Use
uses_of q = flat_map uses (inner q ++ outer q)
