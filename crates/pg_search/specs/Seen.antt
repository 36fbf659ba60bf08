-- What a round names, by the numbers of the elements, and the tests of it.
use Rattle.std.specs.Prelude.{◌==◌, ◌&&◌, ◌||◌, not, cond, filter, ℕ, Bool, true, List, [], ◌∷◌, ◌++◌, Option, Some, None}
use Rattle.std.specs.List.{list_any, list_all}
use Rattle.pg_ast.specs.declared.pattern.Mode.{Mode}
use Rattle.pg_ast.specs.declared.pattern.Mode.TheVariants.{Walk, Trail, Acyclic, Simple}
use Rattle.pg_meaning.specs.declared.checked.CFiller.{CFiller}
use Rattle.pg_meaning.specs.Rounds.{Leg}
use Rattle.pg_search.specs.Chains.{is_first, is_second, is_other}

abbrev pub mention_no : CFiller → ℕ → List (ℕ × ℕ)
mention_no filler k = elim filler.var [ None ↦ [] | Some x ↦ (x, k) ∷ [] ]

abbrev pub node_mention_no : Option CFiller → ℕ → List (ℕ × ℕ)
node_mention_no node k = elim node [ None ↦ [] | Some filler ↦ mention_no filler k ]

-- what a leg names, of an edge and the vertex behind it
abbrev pub leg_nos : Leg → ℕ × ℕ → List (ℕ × ℕ)
leg_nos leg hop = mention_no leg.edge hop.0 ++ node_mention_no leg.node hop.1

-- two mentions of one variable name one element
abbrev pub fits : ℕ × ℕ → ℕ × ℕ → Bool
fits m n = not (m.0 == n.0) || (m.1 == n.1)

abbrev pub agree : List (ℕ × ℕ) → Bool
agree [] = true
agree (m ∷ seen) = list_all (fits m) seen && agree seen

-- others fit each of some mentions
abbrev pub fit_all : List (ℕ × ℕ) → List (ℕ × ℕ) → Bool
fit_all names seen = list_all (λ m. not (list_any (is_other m.0 m.1) names)) seen

-- whether a mode permits one hop more; the start has the number 0
abbrev pub may_follow_no : Mode → List (ℕ × ℕ) → ℕ × ℕ → Bool
may_follow_no Walk items hop = true
may_follow_no Trail items hop = not (list_any (is_first hop.0) items)
may_follow_no Acyclic items hop = not ((hop.1 == 0) || list_any (is_second hop.1) items)
may_follow_no Simple items hop = not (list_any (is_second 0) items) && not (list_any (is_second hop.1) items)

-- EACH VARIABLE ONCE

abbrev pub has_variable : List (ℕ × ℕ) → ℕ → Bool
has_variable seen x = list_any (λ m. m.0 == x) seen

abbrev pub firsts_no : List (ℕ × ℕ) → List (ℕ × ℕ)
firsts_no [] = []
firsts_no (m ∷ ms) = m ∷ filter (λ n. not (n.0 == m.0)) (firsts_no ms)

-- with a mention behind the others, where its variable is not mentioned yet
abbrev pub with_first : List (ℕ × ℕ) → ℕ × ℕ → List (ℕ × ℕ)
with_first seen m = cond (has_variable seen m.0) seen (seen ++ m ∷ [])
