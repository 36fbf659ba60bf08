-- The places of faults in the uses of variables, as passes over the uses find them.
use Rattle.std.specs.Prelude.{ℕ, ◌&&◌, ◌||◌, Bool, true, false, not, is_some, List, [], ◌∷◌, ◌++◌, map, flat_map, Option, Some, None, option_map}
use Rattle.std.specs.List.{list_any, list_all}
use Rattle.std.specs.Map.{lookup}
use Rattle.std.specs.Str.{bytes_eq}
use Rattle.pg_ast.specs.declared.expr.Name.{Name}
use Rattle.pg_ast.specs.Trees.{ExprTree, tree_of, Literal, Wide, ColumnOf, PropertyOf, One, Two, Group, Counted}
use Rattle.pg_meaning.specs.Mentions.{Mention}
use Rattle.pg_rules.specs.Definitions.Tables.{member}
use Rattle.pg_rules.specs.Places.{place_if}
use Rattle.pg_rules.specs.Queries.{is_among}
use Rattle.pg_rules.specs.Queries.Collections.{Inner, same_name}
use Rattle.pg_check.specs.Gathered.{Seen, seen_in}

abbrev pub missing_name : List (List ℕ) → Option Name → List ℕ
missing_name names None = []
missing_name names (Some n) = place_if (not (member n.text names)) n.at

-- a property that is none of some names
abbrev pub missing : List (List ℕ) → Seen → List ℕ
missing names u = missing_name names u.property

abbrev pub Known : Type 0
Known = List (List ℕ × Mention Name)

-- a variable that is none of these
abbrev pub unknown : Known → Seen → List ℕ
unknown known u = place_if (not (is_some (lookup (bytes_eq u.variable.text) known))) u.variable.at

-- a variable that is none of some names
abbrev pub foreign : List (List ℕ) → Seen → List ℕ
foreign own u = place_if (not (member u.variable.text own)) u.variable.at

-- whether a variable stands for one element for each round of its part, none where it is not known
abbrev pub rounds : Known → Name → Option Bool
rounds known n = option_map (λ m. is_some m.part) (lookup (bytes_eq n.text) known)

abbrev pub is_yes : Option Bool → Bool
is_yes None = false
is_yes (Some b) = b

abbrev pub is_no : Option Bool → Bool
is_no None = false
is_no (Some b) = not b

-- a group variable outside aggregates
abbrev pub bare : Known → Seen → List ℕ
bare known u = place_if (not u.inside && is_yes (rounds known u.variable)) u.variable.at

abbrev pub is_single : Known → Seen → Bool
is_single known u = is_no (rounds known u.variable)

-- the uses are all of one variable, and there is one
abbrev pub are_of_one : List Seen → Bool
are_of_one [] = false
are_of_one (u ∷ us) = list_all (λ w. same_name u.variable w.variable) us

-- an aggregate that stands in another, or whose argument has not just one variable, or a singleton
abbrev pub is_misused : Known → Bool → List Seen → Bool
is_misused known inside us = inside || (not (are_of_one us) || list_any (is_single known) us)

abbrev pub misused_from : Known → Bool → ExprTree → List ℕ
misused_from known inside (Literal v bits at) = []
misused_from known inside (Wide at) = []
misused_from known inside (ColumnOf n) = []
misused_from known inside (PropertyOf v n) = []
misused_from known inside (One op x at) = misused_from known inside x
misused_from known inside (Two op x y at) = misused_from known inside x ++ misused_from known inside y
misused_from known inside (Group agg x at) = place_if (is_misused known inside (seen_in true x)) at ++ misused_from known true x
misused_from known inside (Counted v at) = place_if (is_misused known inside (record { variable = v; property = None; inside = true } ∷ [])) at

-- the places of the aggregates
abbrev pub aggregate_places : ExprTree → List ℕ
aggregate_places (Literal v bits at) = []
aggregate_places (Wide at) = []
aggregate_places (ColumnOf n) = []
aggregate_places (PropertyOf v n) = []
aggregate_places (One op x at) = aggregate_places x
aggregate_places (Two op x y at) = aggregate_places x ++ aggregate_places y
aggregate_places (Group agg x at) = at ∷ aggregate_places x
aggregate_places (Counted v at) = at ∷ []

-- OWN VARIABLES

abbrev pub texts_of : List Name → List (List ℕ)
texts_of names = map (λ n. n.text) names

-- a variable that is none of a condition's own
abbrev pub stray : List Name → Seen → List ℕ
stray own u = place_if (not (is_among own u.variable)) u.variable.at

-- the uses in a condition of variables that are not its own
abbrev pub strays_in : Inner → List ℕ
strays_in i = flat_map (stray i.own) (seen_in false (tree_of i.condition.expr))
