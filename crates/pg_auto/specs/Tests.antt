-- The tests of a walk, as a search makes them.
use Rattle.std.specs.Prelude.{◌≡◌, ◌↔◌, ◌++◌, Bool, true, false, not, ◌&&◌, ◌||◌, ◌==◌, List, [], ◌∷◌, map, Option, Some, None}
use Rattle.std.specs.List.{list_any, list_all}
use Rattle.std.specs.Int.{bit_at}
use Rattle.pg_value.specs.declared.value.Truth.{Truth}
use Rattle.pg_value.specs.declared.value.Truth.TheVariants.{True, False, Unknown}
use Rattle.pg_value.specs.declared.shape.ElemId.{ElemId}
use Rattle.pg_value.specs.declared.shape.TableNo.{TableNo}
use Rattle.pg_value.specs.declared.shape.TableSet.{TableSet}
use Rattle.pg_value.specs.Graph.{same_elem}
use Rattle.pg_ast.specs.declared.pattern.Mode.{Mode}
use Rattle.pg_ast.specs.declared.pattern.Mode.TheVariants.{Walk, Trail, Acyclic, Simple}
use Rattle.pg_meaning.specs.declared.checked.CExpr.{CExpr}
use Rattle.pg_meaning.specs.declared.checked.CFiller.{CFiller}
use Rattle.pg_meaning.specs.CExprs.{ctree_of}
use Rattle.pg_meaning.specs.Meaning.{Scope, Meets, truth_of}
use Rattle.pg_meaning.specs.Walks.{Graph, Hop, vertices_of, edges_of}
use Rattle.pg_meaning.specs.Rounds.{Leg}
use Rattle.pg_meaning.specs.Fits.{Mention, Admits, Agree, scope_of, mention}
use Rattle.pg_meaning.specs.Bindings.{Permits, front_of}

-- ELEMENTS

abbrev pub is_true : Truth → Bool
is_true True = true
is_true False = false
is_true Unknown = false

-- a condition, where there is one, is true
abbrev pub meets : Option CExpr → Scope → Bool
meets condition scope = elim condition [ None ↦ true | Some c ↦ is_true (truth_of (ctree_of c) scope) ]

abbrev pub has_table : TableSet → TableNo → Bool
has_table set table = bit_at set.0 table.0 == 1

-- the element's table is admitted, and the condition is true of the element itself
abbrev pub admits : Graph → CFiller → ElemId → Bool
admits g filler elem = has_table filler.tables elem.table && meets filler.cond (scope_of g (mention filler elem))

abbrev pub node_admits : Graph → Option CFiller → ElemId → Bool
node_admits g node elem = elim node [ None ↦ true | Some filler ↦ admits g filler elem ]

abbrev pub leg_admits : Graph → Leg → Hop → Bool
leg_admits g leg hop = admits g leg.edge hop.edge && node_admits g leg.node hop.to

-- MENTIONS

-- two mentions of one variable name one element
abbrev pub fits_mention : Mention → Mention → Bool
fits_mention m n = not (m.var == n.var) || same_elem m.elem n.elem

-- elements that stand for one variable are equal
abbrev pub agrees : List Mention → Bool
agrees [] = true
agrees (m ∷ seen) = list_all (fits_mention m) seen && agrees seen

-- MODES

-- no element stands twice
abbrev pub distinct : List ElemId → Bool
distinct [] = true
distinct (x ∷ xs) = not (list_any (same_elem x) xs) && distinct xs

abbrev pub permits : Mode → ElemId → List Hop → Bool
permits Walk v hops = true
permits Trail v hops = distinct (edges_of hops)
permits Acyclic v hops = distinct (vertices_of v hops)
permits Simple v hops = distinct (front_of (vertices_of v hops)) && distinct (map (λ hop. hop.to) hops)

-- the same of one hop more, where the walk before it is permitted
abbrev pub may_follow : Mode → ElemId → List Hop → Hop → Bool
may_follow Walk v hops hop = true
may_follow Trail v hops hop = not (list_any (same_elem hop.edge) (edges_of hops))
may_follow Acyclic v hops hop = not (list_any (same_elem hop.to) (vertices_of v hops))
may_follow Simple v hops hop = not (list_any (same_elem v) (map (λ h. h.to) hops)) && not (list_any (same_elem hop.to) (map (λ h. h.to) hops))

-- THE TESTS TELL WHAT IS MEANT

pub record TestsTell : Type 0 where
  pub meets_tells : (condition : Option CExpr) (scope : Scope) → (meets condition scope ≡ true) ↔ Meets condition scope
  pub admits_tells : (g : Graph) (f : CFiller) (e : ElemId) → (admits g f e ≡ true) ↔ Admits g f e
  pub agrees_tells : (seen : List Mention) → (agrees seen ≡ true) ↔ Agree seen
  pub permits_tells : (mode : Mode) (v : ElemId) (hops : List Hop) → (permits mode v hops ≡ true) ↔ Permits mode v hops
  -- what a mode permits, it permits of each front
  pub fronts : (mode : Mode) (v : ElemId) (hops more : List Hop) → Permits mode v (hops ++ more) → Permits mode v hops
  pub follows_tells : (mode : Mode) (v : ElemId) (hops : List Hop) (hop : Hop) → permits mode v hops ≡ true → permits mode v (hops ++ hop ∷ []) ≡ may_follow mode v hops hop
