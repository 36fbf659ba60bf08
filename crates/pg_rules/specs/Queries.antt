-- Which queries are refused before they read the tables, and where: for each kind of fault its places.
pub mod Collections
pub mod CheckedQueries
pub mod TableSets
use Rattle.std.specs.Prelude.{ℕ, ◌≡◌, ◌&&◌, ◌||◌, Bool, true, false, not, is_none, nat_lt, List, [], ◌∷◌, ◌++◌, map, length, flat_map, slice_get, Option, Some, None, option_map, option_to_list}
use Rattle.std.specs.List.{list_any, list_all, find}
use Rattle.std.specs.Option.{unwrap_or}
use Rattle.std.specs.Str.{bytes_eq}
use Rattle.pg_value.specs.declared.shape.GraphNo.{GraphNo}
use Rattle.pg_value.specs.declared.value.Kind.TheVariants as kinds
use Rattle.pg_ast.specs.declared.expr.Name.{Name}
use Rattle.pg_ast.specs.declared.pattern.Filler.{Filler}
use Rattle.pg_ast.specs.declared.pattern.Quant.{Quant}
use Rattle.pg_ast.specs.declared.pattern.Part.{Part}
use Rattle.pg_ast.specs.declared.pattern.Part.TheVariants as parts
use Rattle.pg_ast.specs.declared.pattern.PathPattern.{PathPattern}
use Rattle.pg_ast.specs.declared.pattern.Query.{Query}
use Rattle.pg_ast.specs.Trees.{tree_of, LabelTree, Every, Named, NotL, AndL, OrL, label_tree}
use Rattle.pg_meaning.specs.Typing.{Typed, Names, typed, kind_of, may_be}
use Rattle.pg_meaning.specs.Outlines.{is_every, walks_on, length_number}
use Rattle.pg_meaning.specs.Mentions.{Mention, Degree, Singleton, Grouped, degree_in, clash}
use Rattle.pg_rules.specs.declared.entry.GraphEntry.{GraphEntry}
use Rattle.pg_rules.specs.declared.fault.QueryFault.{QueryFault}
use Rattle.pg_rules.specs.declared.fault.QueryFault.TheVariants as faults
use Rattle.pg_rules.specs.Catalog.{Defined}
use Rattle.pg_rules.specs.Catalog.LookUps.{graph_at, graph_number}
use Rattle.pg_rules.specs.Catalog.GraphLookUps.{graph_numbered, elements_in, has_property}
use Rattle.pg_rules.specs.Definitions.Graphs.{labels_in, rows}
use Rattle.pg_rules.specs.Definitions.Tables.{member}
use Rattle.pg_rules.specs.ExprFaults.{types_at, wide_at}
use Rattle.pg_rules.specs.Places.{place_if, first_fault}
use Rattle.pg_rules.specs.Queries.Collections.{Use, same_name, outlines, mentions_of, variables_of, fillers_of, quant_of, parts_of, inner_conditions, conditions, inner, outer, uses, aggregates, uses_of}

-- A GRAPH, LABELS AND PROPERTIES THAT DO NOT EXIST

abbrev pub graph_of : Defined → Query → GraphNo
graph_of d q = graph_number (unwrap_or (graph_at d q.graph.text) 0)

-- the graph of a query, empty where it does not exist
abbrev pub entry_of : Defined → Query → GraphEntry
entry_of d q = graph_numbered d.1 (graph_of d q)

abbrev pub no_graph : Defined → Query → List ℕ
no_graph d q = place_if (is_none (graph_at d q.graph.text)) q.graph.at

abbrev pub names_in : LabelTree → List Name
names_in Every = []
names_in (Named n) = n ∷ []
names_in (NotL x) = names_in x
names_in (AndL x y) = names_in x ++ names_in y
names_in (OrL x y) = names_in x ++ names_in y

abbrev pub labels_of : Filler → List Name
labels_of f = flat_map (λ l. names_in (label_tree l)) (option_to_list f.label)

-- an element table of the graph, of either sort, has the label
abbrev pub has_label : GraphEntry → List ℕ → Bool
has_label g name = list_any (λ e. member name (labels_in e)) (elements_in g)

abbrev pub no_label : GraphEntry → Query → List ℕ
no_label g q = flat_map (λ part. flat_map (λ f. flat_map (λ n. place_if (not (has_label g n.text)) n.at) (labels_of f)) (fillers_of part)) (parts_of q)

abbrev pub no_property : GraphEntry → Query → List ℕ
no_property g q = flat_map (λ u. flat_map (λ n. place_if (not (has_property g n.text)) n.at) (option_to_list u.property)) (uses_of q)

-- QUANTIFIERS

abbrev pub quants_in : PathPattern → List Quant
quants_in p = flat_map (λ part. option_to_list (quant_of part)) p.parts

-- without an upper number, where neither a mode nor a selector bounds the walks
abbrev pub unbounded : Query → List ℕ
unbounded q = flat_map (λ p. flat_map (λ c. place_if (is_none c.high && (is_every p.selector && walks_on p.mode (outlines p))) c.at) (quants_in p)) q.paths

abbrev pub is_below : Option ℕ → ℕ → Bool
is_below None low = false
is_below (Some high) low = nat_lt high low

-- a lower number above the upper
abbrev pub bounds : Query → List ℕ
bounds q = flat_map (λ p. flat_map (λ c. place_if (is_below c.high c.low) c.at) (quants_in p)) q.paths

-- VARIABLES

abbrev pub is_among : List Name → Name → Bool
is_among names n = list_any (same_name n) names

-- that no node or edge of the query names
abbrev pub unknown : Query → List ℕ
unknown q = flat_map (λ u. place_if (not (is_among (variables_of q) u.variable)) u.variable.at) (uses_of q)

-- in a condition inside a pattern, other than its own
abbrev pub foreign : Query → List ℕ
foreign q = flat_map (λ i. flat_map (λ u. place_if (not (is_among i.own u.variable)) u.variable.at) (uses (tree_of i.condition.expr))) (inner_conditions q)

abbrev pub walks_on_in : Option PathPattern → Bool
walks_on_in None = false
walks_on_in (Some p) = walks_on p.mode (outlines p)

-- a path pattern in which a variable may stand twice only as first and as last node
abbrev pub is_strict : Query → ℕ → Bool
is_strict q path = walks_on_in (slice_get q.paths path)

-- the later of two mentions that meet a test
abbrev pub later_of : (Mention Name → Mention Name → Bool) → List (Mention Name) → List ℕ
later_of test [] = []
later_of test (m ∷ ms) = flat_map (λ n. place_if (test m n) n.variable.at) ms ++ later_of test ms

abbrev pub bad_variable : Query → List ℕ
bad_variable q = unknown q ++ (foreign q ++ later_of (clash same_name (is_strict q)) (mentions_of q))

-- GROUP VARIABLES AND AGGREGATES

abbrev pub is_empty : List ℕ → Bool
is_empty [] = true
is_empty (x ∷ xs) = false

abbrev pub is_grouped : Option Degree → Bool
is_grouped None = false
is_grouped (Some Singleton) = false
is_grouped (Some Grouped) = true

abbrev pub is_singleton : Option Degree → Bool
is_singleton None = false
is_singleton (Some Singleton) = true
is_singleton (Some Grouped) = false

abbrev pub degree_of : Query → Name → Option Degree
degree_of q n = degree_in same_name (mentions_of q) n

-- outside the patterns, a group variable outside aggregates
abbrev pub bare : Query → List ℕ
bare q = flat_map (λ x. flat_map (λ u. place_if (is_empty u.around && is_grouped (degree_of q u.variable)) u.variable.at) (uses x)) (outer q)

-- the uses are all of one variable, and there is one
abbrev pub are_of_one : List Use → Bool
are_of_one [] = false
are_of_one (u ∷ us) = list_all (λ w. same_name u.variable w.variable) us

-- outside the patterns, an aggregate that stands in another, or whose argument has not just one variable, or a singleton
abbrev pub misused : Query → List ℕ
misused q = flat_map (λ x. flat_map (λ a.
    place_if (not (is_empty a.around) || (not (are_of_one a.argument) || list_any (λ u. is_singleton (degree_of q u.variable)) a.argument)) a.at) (aggregates x)) (outer q)

-- inside a pattern, every aggregate
abbrev pub inside : Query → List ℕ
inside q = flat_map (λ x. map (λ a. a.at) (aggregates x)) (inner q)

abbrev pub group_use : Query → List ℕ
group_use q = bare q ++ (misused q ++ inside q)

-- KINDS AND WIDTHS

-- a property of the graph, whatever its variable: in a graph a property name has one kind
abbrev pub property_of : GraphEntry → List ℕ → Option Typed
property_of g name = option_map (λ r. typed r.property.kind) (find (λ r. bytes_eq name r.property.name) (flat_map rows (elements_in g)))

-- what names stand for in a query
abbrev pub names_of : GraphEntry → Names
names_of g None name = None
names_of g (Some variable) name = property_of g name

-- operators and aggregates that meet a wrong kind, and conditions that are no truth values
abbrev pub types : GraphEntry → Query → List ℕ
types g q =
    flat_map (λ w. place_if (not (may_be kinds.Bool (kind_of (names_of g) (tree_of w.expr)))) w.at) (conditions q)
    ++ flat_map (types_at (names_of g)) (inner q ++ outer q)

abbrev pub wide : GraphEntry → Query → List ℕ
wide g q = flat_map (wide_at (names_of g)) (inner q ++ outer q)

-- LIMITS

-- the first of some places beyond a number
abbrev pub beyond : ℕ → List ℕ → List ℕ
beyond most places = option_to_list (slice_get places most)

-- the fourth edge of a group
abbrev pub fourth_edge : Part → List ℕ
fourth_edge (parts.Node f) = []
fourth_edge (parts.Edge arrow f quant) = []
fourth_edge (parts.Group nodes arrows edges condition quant) = beyond 3 (map (λ f. f.at) edges)

abbrev pub is_above : ℕ → Option ℕ → Bool
is_above most None = false
is_above most (Some n) = nat_lt most n

-- a quantifier with a number above 255
abbrev pub large : Quant → List ℕ
large c = place_if (nat_lt 255 c.low || is_above 255 c.high) c.at

-- the 9th path pattern, the 33rd column, the 33rd variable, the 4th edge of a group, a quantifier's number, and a path pattern's length
abbrev pub limit : Query → List ℕ
limit q =
    beyond 8 (map (λ p. p.at) q.paths) ++ (beyond 32 (map (λ c. c.expr.at) q.columns) ++ (beyond 32 (map (λ n. n.at) (variables_of q)) ++
    (flat_map fourth_edge (parts_of q) ++ (flat_map (λ p. flat_map large (quants_in p)) q.paths ++
    flat_map (λ p. place_if (nat_lt 1000 (length_number (outlines p))) p.at) q.paths))))

-- THE KINDS IN ORDER, WITH THEIR PLACES

abbrev pub query_fault : Defined → Query → Option QueryFault
query_fault d q = first_fault (
    (faults.NoGraph, no_graph d q) ∷
    (faults.NoLabel, no_label (entry_of d q) q) ∷
    (faults.NoProperty, no_property (entry_of d q) q) ∷
    (faults.Unbounded, unbounded q) ∷
    (faults.Bounds, bounds q) ∷
    (faults.BadVariable, bad_variable q) ∷
    (faults.GroupUse, group_use q) ∷
    (faults.Types, types (entry_of d q) q) ∷
    (faults.Wide, wide (entry_of d q) q) ∷
    (faults.Limit, limit q) ∷ [])

-- THE LAW

-- no kind has a place
pub record HasNoPlace (d : Defined) (q : Query) : Type 0 where
  pub graph : no_graph d q ≡ []
  pub labels : no_label (entry_of d q) q ≡ []
  pub properties : no_property (entry_of d q) q ≡ []
  pub upper : unbounded q ≡ []
  pub ordered : bounds q ≡ []
  pub variables : bad_variable q ≡ []
  pub groups : group_use q ≡ []
  pub kinds : types (entry_of d q) q ≡ []
  pub widths : wide (entry_of d q) q ≡ []
  pub limits : limit q ≡ []

-- a query that is not refused has no place of any kind
abbrev pub AcceptedHaveNoPlace : Type 0
AcceptedHaveNoPlace = (d : Defined) (q : Query) → query_fault d q ≡ None → HasNoPlace d q
