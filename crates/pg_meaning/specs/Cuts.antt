-- What cuts of a node and of an edge look like.
use Rattle.std.proofs.Common.{◌≡◌, ℕ, List, [], ◌∷◌, map, length, refl, ap, arith}
use Rattle.std.specs.Prelude.{Option, None}
use Rattle.pg_value.specs.declared.shape.ElemId.{ElemId}
use Rattle.pg_ast.specs.declared.pattern.Arrow.{Arrow}
use Rattle.pg_ast.specs.declared.pattern.Quant.{Quant}
use Rattle.pg_meaning.specs.declared.checked.CFiller.{CFiller}
use Rattle.pg_meaning.specs.declared.checked.CPart.TheVariants.{Node, Edge}
use Rattle.pg_meaning.specs.Walks.{Graph, Hop, Leads}
use Rattle.pg_meaning.specs.Rounds.{round_of}
use Rattle.pg_meaning.specs.Fits.{Mention, RoundsFit, Agree, join}
use Rattle.pg_meaning.specs.Bindings.{Distinct}
use Rattle.pg_meaning.specs.Members.{in_nil, same_item}

-- different variables always agree
pub agree_by : (seen : List Mention) → Distinct (map (λ m. m.var) seen) → Agree seen
agree_by seen d m n a b e = ap (λ z. z.elem) (same_item (λ m. m.var) seen m n d a b e)

pub one_agrees : (x : ℕ) (v : ElemId) → Agree (record { var = x; elem = v } ∷ [])
one_agrees x v = agree_by (record { var = x; elem = v } ∷ []) (in_nil x, tt)

-- a node alone has one round without hops
pub node_rounds : (g : Graph) (filler : CFiller) (v : ElemId) (rounds : List (List Hop)) → length rounds ≡ 1 → RoundsFit g (round_of (Node filler)) v rounds → rounds ≡ [] ∷ []
node_rounds g filler v [] n f = absurd (omega arith)
node_rounds g filler v ([] ∷ []) n f = refl
node_rounds g filler v ((hop ∷ hops) ∷ []) n f = absurd f.0.1
node_rounds g filler v (hops ∷ more ∷ rounds) n f = absurd (omega arith)

-- the hops lead one after another as the arrow asks
abbrev pub Follows : Graph → Arrow → ElemId → List Hop → Type 0
Follows g arrow v [] = Unit {0}
Follows g arrow v (hop ∷ hops) = Leads g arrow v hop × Follows g arrow hop.to hops

abbrev pub one_each : List Hop → List (List Hop)
one_each hops = map (λ hop. hop ∷ []) hops

-- each round of an edge has one hop
pub edge_rounds : (g : Graph) (arrow : Arrow) (filler : CFiller) (quant : Option Quant) (v : ElemId) (rounds : List (List Hop)) → RoundsFit g (round_of (Edge arrow filler quant)) v rounds
    → rounds ≡ one_each (join rounds)
edge_rounds g arrow filler quant v [] f = refl
edge_rounds g arrow filler quant v ([] ∷ rounds) f = absurd f.0.1
edge_rounds g arrow filler quant v ((hop ∷ []) ∷ rounds) f = λ i. (hop ∷ []) ∷ edge_rounds g arrow filler quant hop.to rounds f.1 i
edge_rounds g arrow filler quant v ((hop ∷ next ∷ hops) ∷ rounds) f = absurd f.0.1.3

pub edge_follows : (g : Graph) (arrow : Arrow) (filler : CFiller) (quant : Option Quant) (v : ElemId) (rounds : List (List Hop)) → RoundsFit g (round_of (Edge arrow filler quant)) v rounds
    → Follows g arrow v (join rounds)
edge_follows g arrow filler quant v [] f = tt
edge_follows g arrow filler quant v ([] ∷ rounds) f = absurd f.0.1
edge_follows g arrow filler quant v ((hop ∷ []) ∷ rounds) f = (f.0.1.0, edge_follows g arrow filler quant hop.to rounds f.1)
edge_follows g arrow filler quant v ((hop ∷ next ∷ hops) ∷ rounds) f = absurd f.0.1.3

-- an edge that stands once has one hop
pub one_edge : (g : Graph) (arrow : Arrow) (filler : CFiller) (v : ElemId) (rounds : List (List Hop)) → length rounds ≡ 1 → RoundsFit g (round_of (Edge arrow filler None)) v rounds
    → (hop : Hop) × (rounds ≡ (hop ∷ []) ∷ []) × Leads g arrow v hop
one_edge g arrow filler v [] n f = absurd (omega arith)
one_edge g arrow filler v ([] ∷ []) n f = absurd f.0.1
one_edge g arrow filler v ((hop ∷ []) ∷ []) n f = (hop, refl, f.0.1.0)
one_edge g arrow filler v ((hop ∷ next ∷ hops) ∷ []) n f = absurd f.0.1.3
one_edge g arrow filler v (hops ∷ more ∷ rounds) n f = absurd (omega arith)
