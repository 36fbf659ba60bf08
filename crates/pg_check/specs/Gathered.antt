-- The mentions and uses of variables as passes over a query gather them.
use Rattle.std.specs.Prelude.{ℕ, ◌||◌, Bool, true, false, cond, not, is_some, List, [], ◌∷◌, ◌++◌, map, Option, Some, None, option_to_list}
use Rattle.std.proofs.Common.{Bor}
use Rattle.std.specs.Map.{lookup}
use Rattle.std.specs.Option.{option_copied}
use Rattle.std.specs.Str.{bytes_eq}
use Rattle.pg_ast.specs.declared.expr.Name.{Name}
use Rattle.pg_ast.specs.declared.pattern.Filler.{Filler}
use Rattle.pg_ast.specs.Trees.{ExprTree, Literal, Wide, ColumnOf, PropertyOf, One, Two, Group, Counted}
use Rattle.pg_meaning.specs.Outlines.{Spot, as_end, in_turn, spot}
use Rattle.pg_meaning.specs.Mentions.{Mention, mention_at}
use Rattle.pg_rules.specs.Queries.{is_empty as is_none_around}
use Rattle.pg_rules.specs.Queries.Collections.{Use}
use Rattle.pg_check.specs.declared.mentions.PlacedSpot.{PlacedSpot}
use Rattle.pg_check.specs.declared.mentions.MentionOf.{MentionOf}
use Rattle.pg_check.specs.declared.uses.UseOf.{UseOf}

-- NODES AND EDGES

abbrev pub spot_view : PlacedSpot → Spot Name
spot_view s = record { variable = option_copied s.variable; edge = s.edge; part = s.part; end = false }

abbrev pub mention_view : MentionOf → Mention Name
mention_view m = record { variable = m.variable.now; edge = m.edge; path = m.path; part = m.part; end = m.end }

abbrev pub variable_in : Filler → Option Name
variable_in f = f.var

abbrev pub spots_of_nodes : Option ℕ → List Filler → List (Spot Name)
spots_of_nodes part fillers = map (spot false part) (map variable_in fillers)

abbrev pub spots_of_edges : Option ℕ → List Filler → List (Spot Name)
spots_of_edges part fillers = map (spot true part) (map variable_in fillers)

-- the nodes and edges of a chain, a node first
abbrev pub chain : Option ℕ → List Filler → List Filler → List (Spot Name)
chain part nodes edges = in_turn (spots_of_nodes part nodes) (spots_of_edges part edges)

abbrev pub is_empty : {X : Type 0} → List X → Bool
is_empty [] = true
is_empty (x ∷ xs) = false

abbrev pub end_if : {V : Type 0} → Bool → Spot V → Spot V
end_if true s = as_end s
end_if false s = s

-- the last one is an end, and so is the first where it is the path pattern's first
abbrev pub marked : {V : Type 0} → Bool → List (Spot V) → List (Spot V)
marked first [] = []
marked first (s ∷ ss) = end_if (first || is_empty ss) s ∷ marked false ss

abbrev pub mention_of : ℕ → Bool → PlacedSpot → List (Mention Name)
mention_of path end s = option_to_list (mention_at path (end_if end (spot_view s)))

-- VARIABLES

abbrev pub entry_view : Bor (List ℕ) × MentionOf → List ℕ × Mention Name
entry_view e = (e.0.now, mention_view e.1)

-- what is new stands behind what was seen
abbrev pub add_last : List (List ℕ × Mention Name) → Mention Name → List (List ℕ × Mention Name)
add_last seen m = seen ++ (m.variable.text, m) ∷ []

-- the first mention of a variable stays
abbrev pub add_mention : List (List ℕ × Mention Name) → Mention Name → List (List ℕ × Mention Name)
add_mention seen m = cond (is_some (lookup (bytes_eq m.variable.text) seen)) seen (add_last seen m)

abbrev pub firsts_after : List (List ℕ × Mention Name) → List (Mention Name) → List (List ℕ × Mention Name)
firsts_after seen [] = seen
firsts_after seen (m ∷ ms) = firsts_after (add_mention seen m) ms

-- USES

-- a use of a variable, and whether an aggregate stands around it
pub record Seen : Type 0 where
  pub variable : Name
  pub property : Option Name
  pub inside : Bool

abbrev pub seen_in : Bool → ExprTree → List Seen
seen_in inside (Literal v bits at) = []
seen_in inside (Wide at) = []
seen_in inside (ColumnOf n) = []
seen_in inside (PropertyOf v n) = record { variable = v; property = Some n; inside = inside } ∷ []
seen_in inside (One op x at) = seen_in inside x
seen_in inside (Two op x y at) = seen_in inside x ++ seen_in inside y
seen_in inside (Group agg x at) = seen_in true x
seen_in inside (Counted v at) = record { variable = v; property = None; inside = true } ∷ []

abbrev pub seen_of : Use → Seen
seen_of u = record { variable = u.variable; property = u.property; inside = not (is_none_around u.around) }

abbrev pub use_view : UseOf → Seen
use_view u = record { variable = u.variable.now; property = option_copied u.property; inside = u.inside }
