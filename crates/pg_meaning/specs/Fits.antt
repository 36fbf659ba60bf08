-- Whether a walk with cuts fits a pattern, and what the pattern's variables then name
-- (after Deutsch et al., "Graph Pattern Matching in GQL and SQL/PGQ", SIGMOD 2022).
use Rattle.std.specs.Prelude.{◌≡◌, ◌≤◌, ◌==◌, ℕ, not, List, [], ◌∷◌, ◌++◌, length, flat_map, filter, map, Contains, Option, Some, None, IfSome}
use Rattle.std.specs.Int.{bit_at}
use Rattle.pg_value.specs.declared.shape.ElemId.{ElemId}
use Rattle.pg_value.specs.declared.shape.TableNo.{TableNo}
use Rattle.pg_value.specs.declared.shape.TableSet.{TableSet}
use Rattle.pg_ast.specs.declared.pattern.Quant.{Quant}
use Rattle.pg_meaning.specs.declared.checked.CFiller.{CFiller}
use Rattle.pg_meaning.specs.declared.checked.CPart.{CPart}
use Rattle.pg_meaning.specs.Meaning.{Assignment, Scope, OfVars, Meets}
use Rattle.pg_meaning.specs.Walks.{Graph, Hop, Leads, last_vertex}
use Rattle.pg_meaning.specs.Rounds.{Leg, Round, round_of, quant_of}

-- an element that stands for a variable
pub record Mention : Type 0 where
  pub var : ℕ
  pub elem : ElemId

-- the elements of each variable, in order
abbrev pub elements : List Mention → Assignment
elements seen x = map (λ m. m.elem) (filter (λ m. m.var == x) seen)

-- the scope of a condition inside a pattern
abbrev pub scope_of : Graph → List Mention → Scope
scope_of g seen = OfVars g.tables (elements seen)

-- what a node or an edge says of its variable
abbrev pub mention : CFiller → ElemId → List Mention
mention filler elem = elim filler.var [ None ↦ [] | Some x ↦ record { var = x; elem = elem } ∷ [] ]

abbrev pub node_mention : Option CFiller → ElemId → List Mention
node_mention node elem = elim node [ None ↦ [] | Some filler ↦ mention filler elem ]

-- the table stands in the set
abbrev pub HasTable : TableSet → TableNo → Type 0
HasTable set table = bit_at set.0 table.0 ≡ 1

-- the element's table is admitted, and the condition is true of the element itself
abbrev pub Admits : Graph → CFiller → ElemId → Type 0
Admits g filler elem = HasTable filler.tables elem.table × Meets filler.cond (scope_of g (mention filler elem))

abbrev pub NodeAdmits : Graph → Option CFiller → ElemId → Type 0
NodeAdmits g node elem = IfSome node (λ filler. Admits g filler elem)

-- elements that stand for one variable are equal
abbrev pub Agree : List Mention → Type 0
Agree seen = (m n : Mention) → Contains seen m → Contains seen n → m.var ≡ n.var → m.elem ≡ n.elem

abbrev pub LegsFit : Graph → List Leg → ElemId → List Hop → Type 0
LegsFit g [] v [] = Unit {0}
LegsFit g [] v (hop ∷ hops) = ⊥
LegsFit g (leg ∷ legs) v [] = ⊥
LegsFit g (leg ∷ legs) v (hop ∷ hops) = Leads g leg.arrow v hop × Admits g leg.edge hop.edge × NodeAdmits g leg.node hop.to × LegsFit g legs hop.to hops

abbrev pub seen_on_legs : List Leg → List Hop → List Mention
seen_on_legs [] hops = []
seen_on_legs (leg ∷ legs) [] = []
seen_on_legs (leg ∷ legs) (hop ∷ hops) = mention leg.edge hop.edge ++ (node_mention leg.node hop.to ++ seen_on_legs legs hops)

-- what one round names, in order
abbrev pub seen_in : Round → ElemId → List Hop → List Mention
seen_in round v hops = node_mention round.node v ++ seen_on_legs round.legs hops

-- each variable once, at the first element that it names
abbrev pub firsts : List Mention → List Mention
firsts [] = []
firsts (m ∷ ms) = m ∷ filter (λ n. not (n.var == m.var)) (firsts ms)

-- one round, from the vertex over the hops; its condition is judged over each variable once
abbrev pub RoundFits : Graph → Round → ElemId → List Hop → Type 0
RoundFits g round v hops =
    NodeAdmits g round.node v × LegsFit g round.legs v hops × Agree (seen_in round v hops) × Meets round.cond (scope_of g (firsts (seen_in round v hops)))

-- rounds one after another, each with its hops, each from where the one before ends
abbrev pub RoundsFit : Graph → Round → ElemId → List (List Hop) → Type 0
RoundsFit g round v [] = Unit {0}
RoundsFit g round v (hops ∷ rounds) = RoundFits g round v hops × RoundsFit g round (last_vertex v hops) rounds

-- how many rounds a quantifier allows: without one, one
abbrev pub InRange : Option Quant → ℕ → Type 0
InRange None n = n ≡ 1
InRange (Some q) n = (q.low ≤ n) × IfSome q.high (λ high. n ≤ high)

abbrev pub join : List (List Hop) → List Hop
join rounds = flat_map (λ hops. hops) rounds

-- The cuts give each part its rounds, and each round its hops. They fit the parts, from the vertex.
abbrev pub Fits : Graph → List CPart → ElemId → List (List (List Hop)) → Type 0
Fits g [] v [] = Unit {0}
Fits g [] v (rounds ∷ cuts) = ⊥
Fits g (part ∷ parts) v [] = ⊥
Fits g (part ∷ parts) v (rounds ∷ cuts) =
    InRange (quant_of part) (length rounds) × RoundsFit g (round_of part) v rounds × Fits g parts (last_vertex v (join rounds)) cuts

-- what the rounds of a quantified part name: each round names each of its variables once
abbrev pub seen_in_rounds : Round → ElemId → List (List Hop) → List Mention
seen_in_rounds round v [] = []
seen_in_rounds round v (hops ∷ rounds) = firsts (seen_in round v hops) ++ seen_in_rounds round (last_vertex v hops) rounds

-- what the parts without a quantifier name
abbrev pub singles : List CPart → ElemId → List (List (List Hop)) → List Mention
singles [] v cuts = []
singles (part ∷ parts) v [] = []
singles (part ∷ parts) v (rounds ∷ cuts) =
    elim (quant_of part) [ None ↦ seen_in (round_of part) v (join rounds) | Some q ↦ [] ] ++ singles parts (last_vertex v (join rounds)) cuts

-- what the quantified parts name
abbrev pub groups : List CPart → ElemId → List (List (List Hop)) → List Mention
groups [] v cuts = []
groups (part ∷ parts) v [] = []
groups (part ∷ parts) v (rounds ∷ cuts) =
    elim (quant_of part) [ None ↦ [] | Some q ↦ seen_in_rounds (round_of part) v rounds ] ++ groups parts (last_vertex v (join rounds)) cuts

-- what each variable stands for: a singleton's list has one element, a group variable's one for each round
abbrev pub lists_of : List CPart → ElemId → List (List (List Hop)) → Assignment
lists_of parts v cuts = elements (firsts (singles parts v cuts) ++ groups parts v cuts)
