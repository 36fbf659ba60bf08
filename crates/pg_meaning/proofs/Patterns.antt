-- Patterns over the small graph, and what is needed to tell its elements apart.
use Rattle.std.proofs.Common.{◌≡◌, ℕ, pos, negsuc, List, [], ◌∷◌, Contains, ◌⊎◌, inl, inr, refl, ap, sym, lit<, arith}
use Rattle.std.specs.Prelude.{Option, Some, None}
use Rattle.pg_value.specs.declared.value.Value.{Value}
use Rattle.pg_value.specs.declared.value.Value.TheVariants.{Null, Int, Text, Bool as Truth'}
use Rattle.pg_value.specs.declared.shape.ElemId.{ElemId}
use Rattle.pg_value.specs.declared.shape.TableSet.{TableSet}
use Rattle.pg_ast.specs.declared.pattern.Arrow.TheVariants.{Right}
use Rattle.pg_ast.specs.declared.pattern.Mode.{Mode}
use Rattle.pg_ast.specs.declared.pattern.Quant.{Quant}
use Rattle.pg_ast.specs.declared.pattern.Selector.{Selector}
use Rattle.pg_meaning.specs.declared.checked.CFiller.{CFiller}
use Rattle.pg_meaning.specs.declared.checked.CPart.{CPart}
use Rattle.pg_meaning.specs.declared.checked.CPart.TheVariants.{Edge as EdgePart}
use Rattle.pg_meaning.specs.declared.checked.CheckedPath.{CheckedPath}
use Rattle.pg_meaning.specs.Walks.{HasEdge}
use Rattle.pg_meaning.specs.Rounds.{round_of}
use Rattle.pg_meaning.specs.Fits.{RoundFits}
use Rattle.pg_meaning.specs.Members.{in_cons, in_nil}
use Rattle.pg_meaning.specs.Cuts.{one_agrees}
use Rattle.pg_meaning.proofs.Social.{g, social, person, knows, hop, edge}

abbrev pub persons : TableSet
persons = record { 0 = 1 }

abbrev pub acquaintances : TableSet
acquaintances = record { 0 = 2 }

-- (x), -[e]->, ->, each with the number of its variable
abbrev pub vertex : ℕ → CFiller
vertex x = record { var = Some x; tables = persons; cond = None }

abbrev pub named : ℕ → CFiller
named e = record { var = Some e; tables = acquaintances; cond = None }

abbrev pub unnamed : CFiller
unnamed = record { var = None; tables = acquaintances; cond = None }

abbrev pub middle : CFiller
middle = record { var = None; tables = persons; cond = None }

abbrev pub times : ℕ → Option Quant
times n = Some (record { low = n; high = Some n; at = 0 })

abbrev pub from_on : ℕ → Option Quant
from_on n = Some (record { low = n; high = None; at = 0 })

abbrev pub right : CFiller → Option Quant → CPart
right filler quant = EdgePart Right filler quant

abbrev pub pattern : Selector → Mode → List CPart → List ℕ → CheckedPath
pattern selector mode parts vars = record { graph = social; selector = selector; mode = mode; parts = parts; vars = vars }

-- one round of an edge, named or not
pub named_round : (e i a b : ℕ) → HasEdge g (knows i) (person a) (person b) → RoundFits g (round_of (right (named e) None)) (person a) (hop i b ∷ [])
named_round e i a b h = (tt, (h, (refl, tt), tt, tt), one_agrees e (knows i), tt)

pub unnamed_round : (i a b : ℕ) → HasEdge g (knows i) (person a) (person b) → RoundFits g (round_of (right unnamed None)) (person a) (hop i b ∷ [])
unnamed_round i a b h = (tt, (h, (refl, tt), tt, tt), λ m n p q e. absurd (in_nil m p), tt)

-- TELLING APART

abbrev number : Value → ℕ
number (Int (pos n)) = n
number (Int (negsuc n)) = 0
number Null = 0
number (Text t) = 0
number (Truth' b) = 0

abbrev first_number : List Value → ℕ
first_number [] = 0
first_number (v ∷ vs) = number v

abbrev pub id_of : ElemId → ℕ
id_of e = first_number e.key.values

pub five : {X : Type 0} {P : Type 0} (a b c d e x : X) → Contains (a ∷ b ∷ c ∷ d ∷ e ∷ []) x → (a ≡ x → P) → (b ≡ x → P) → (c ≡ x → P) → (d ≡ x → P) → (e ≡ x → P) → P
five a b c d e x m fa fb fc fd fe = elim (in_cons a (b ∷ c ∷ d ∷ e ∷ []) x m) [
  | inl h ↦ fa h
  | inr m ↦ elim (in_cons b (c ∷ d ∷ e ∷ []) x m) [
    | inl h ↦ fb h
    | inr m ↦ elim (in_cons c (d ∷ e ∷ []) x m) [
      | inl h ↦ fc h
      | inr m ↦ elim (in_cons d (e ∷ []) x m) [ inl h ↦ fd h | inr m ↦ elim (in_cons e [] x m) [ inl h ↦ fe h | inr m ↦ absurd (in_nil x m) ] ]
    ]
  ]
]

-- the graph's edges from the vertices 1 and 2
pub from_1 : (e to : ElemId) → HasEdge g e (person 1) to → ((e ≡ knows 1) ⊎ (e ≡ knows 4)) × (to ≡ person 2)
from_1 e to m = five (edge 1 1 2) (edge 2 2 3) (edge 3 3 1) (edge 4 1 2) (edge 5 4 4) (record { elem = e; source = person 1; dest = to }) m
    (λ h. (inl (sym (ap (λ z. z.elem) h)), sym (ap (λ z. z.dest) h)))
    (λ h. let n : 2 ≡ 1 = ap (λ z. id_of z.source) h in absurd (omega arith))
    (λ h. let n : 3 ≡ 1 = ap (λ z. id_of z.source) h in absurd (omega arith))
    (λ h. (inr (sym (ap (λ z. z.elem) h)), sym (ap (λ z. z.dest) h)))
    (λ h. let n : 4 ≡ 1 = ap (λ z. id_of z.source) h in absurd (omega arith))

pub from_2 : (e to : ElemId) → HasEdge g e (person 2) to → (e ≡ knows 2) × (to ≡ person 3)
from_2 e to m = five (edge 1 1 2) (edge 2 2 3) (edge 3 3 1) (edge 4 1 2) (edge 5 4 4) (record { elem = e; source = person 2; dest = to }) m
    (λ h. let n : 1 ≡ 2 = ap (λ z. id_of z.source) h in absurd (omega arith))
    (λ h. (sym (ap (λ z. z.elem) h), sym (ap (λ z. z.dest) h)))
    (λ h. let n : 3 ≡ 2 = ap (λ z. id_of z.source) h in absurd (omega arith))
    (λ h. let n : 1 ≡ 2 = ap (λ z. id_of z.source) h in absurd (omega arith))
    (λ h. let n : 4 ≡ 2 = ap (λ z. id_of z.source) h in absurd (omega arith))

-- the edges as they stand in the graph
pub edge_1 : HasEdge g (knows 1) (person 1) (person 2)
edge_1 = (0, lit< tt, refl)

pub edge_2 : HasEdge g (knows 2) (person 2) (person 3)
edge_2 = (1, lit< tt, refl)

pub edge_3 : HasEdge g (knows 3) (person 3) (person 1)
edge_3 = (2, lit< tt, refl)

pub edge_4 : HasEdge g (knows 4) (person 1) (person 2)
edge_4 = (3, lit< tt, refl)

pub edge_5 : HasEdge g (knows 5) (person 4) (person 4)
edge_5 = (4, lit< tt, refl)
