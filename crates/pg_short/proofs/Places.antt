-- The places of an automaton from which a round of edges may begin, and the visits there: no more than the path pattern's length number allows.
use Rattle.std.proofs.Common.{◌≡◌, ◌≤◌, ◌<◌, ◌+◌, ◌*◌, ℕ, zero, suc, Bool, true, false, cond, max, List, [], ◌∷◌, ◌++◌, length, map, Contains, ◌⊎◌, inl, inr, refl, arith, ap, sym, ◌∙◌, subst, mul-le-mul_right, length-append}
use Rattle.std.specs.Prelude.{Option, Some, None, slice_get, flat_map, sum_by, is_some, nat_lt}
use Rattle.std.proofs.lemmas.Bool.{ltb-true, ltb-false}
use Rattle.std.proofs.lemmas.List.{length-map}
use Rattle.std.proofs.lemmas.List.Sums.{sum_by-cons, sum_by-append}
use Rattle.pg_value.specs.declared.shape.ElemId.{ElemId}
use Rattle.pg_ast.specs.declared.pattern.Arrow.{Arrow}
use Rattle.pg_ast.specs.declared.pattern.Quant.{Quant}
use Rattle.pg_meaning.specs.declared.checked.CPart.{CPart}
use Rattle.pg_meaning.specs.declared.checked.CPart.TheVariants.{Node, Edge, Group}
use Rattle.pg_meaning.specs.declared.checked.CFiller.{CFiller}
use Rattle.pg_meaning.specs.declared.checked.CheckedPath.{CheckedPath}
use Rattle.pg_meaning.specs.Rounds.{Leg, legs_of}
use Rattle.pg_meaning.specs.Members.{in_nil, in_here, in_there, in_cons, in_left, in_right, in_map}
use Rattle.pg_meaning.specs.Outlines.{Outline, times_of, length_number}
use Rattle.pg_meaning.specs.Sound.Patterns.{outline_of, outlines}
use Rattle.pg_auto.specs.Stages.{Stage, stage_of, stages_of, low_of, high_of}
use Rattle.pg_auto.specs.Counts.{cap, may_enter}
use Rattle.pg_short.specs.Costs.{greatest, most_edges}
use Rattle.pg_short.proofs.Sums.{sum_map}

-- THE PLACES

-- at how many counts another round may begin
abbrev turns_of : List Leg → ℕ → Option ℕ → ℕ
turns_of [] low high = 0
turns_of (leg ∷ legs) low high = elim high [ None ↦ low + 1 | Some most ↦ most ]

abbrev pub turns : Stage → ℕ
turns stage = turns_of stage.round.legs stage.low stage.high

pub in_turns : (stage : Stage) (done : ℕ) → 0 < length stage.round.legs → may_enter stage done ≡ true → done ≤ cap stage → done < turns stage
in_turns stage done l m c = go stage.round.legs stage.high l m c
  where
    go : (legs : List Leg) (high : Option ℕ) → 0 < length legs → elim high as (λ _. Bool) [ None ↦ true | Some x ↦ nat_lt done x ] ≡ true
        → done ≤ elim high as (λ _. ℕ) [ None ↦ stage.low | Some x ↦ x ] → done < turns_of legs stage.low high
    go [] high l m c = absurd (omega arith)
    go (leg ∷ legs) None l m c = omega arith
    go (leg ∷ legs) (Some x) l m c = ltb-true done x m

abbrev below : ℕ → List ℕ
below zero = []
below (suc n) = n ∷ below n

in_below : (n d : ℕ) → d < n → Contains (below n) d
in_below zero d l = absurd (omega arith)
in_below (suc n) d l = go (nat_lt d n) refl (in_below n d)
  where
    go : (b : Bool) → nat_lt d n ≡ b → (d < n → Contains (below n) d) → Contains (n ∷ below n) d
    go true h rest = in_there n (below n) d (rest (ltb-true d n h))
    go false h rest = in_here n (below n) d (let k = ltb-false d n h in omega arith)

long_below : (n : ℕ) → length (below n) ≡ n
long_below zero = refl
long_below (suc n) = ap suc (long_below n)

abbrev pub places : List Stage → List (ℕ × ℕ)
places [] = []
places (stage ∷ stages) = map (λ (d : ℕ). (0, d)) (below (turns stage)) ++ map (λ (p : ℕ × ℕ). (suc p.0, p.1)) (places stages)

pub in_places : (stages : List Stage) (k d : ℕ) (stage : Stage) → slice_get stages k ≡ Some stage → d < turns stage → Contains (places stages) (k, d)
in_places [] k d stage h l = absurd (cc)
in_places (a ∷ stages) zero d stage h l =
    let same : a ≡ stage = cc in
    in_left (map (λ (d : ℕ). (0, d)) (below (turns a))) (map (λ (p : ℕ × ℕ). (suc p.0, p.1)) (places stages)) (0, d) (in_map (λ (d : ℕ). (0, d)) (below (turns a)) d (in_below (turns a) d (subst (λ (x : Stage). d < turns x) (sym same) l)))
in_places (a ∷ stages) (suc k) d stage h l =
    in_right (map (λ (d : ℕ). (0, d)) (below (turns a))) (map (λ (p : ℕ × ℕ). (suc p.0, p.1)) (places stages)) (suc k, d) (in_map (λ (p : ℕ × ℕ). (suc p.0, p.1)) (places stages) (k, d) (in_places stages k d stage h l))

long_places : (stages : List Stage) → length (places stages) ≡ sum_by turns stages
long_places [] = refl
long_places (stage ∷ stages) =
    let at : ℕ → ℕ × ℕ = λ d. (0, d) in
    let on : ℕ × ℕ → ℕ × ℕ = λ p. (suc p.0, p.1) in
    length-append (map at (below (turns stage))) (map on (places stages))
    ∙ (λ i. (length-map (below (turns stage)) at ∙ long_below (turns stage)) i + (length-map (places stages) on ∙ long_places stages) i)
    ∙ sym (sum_by-cons turns stage stages)

-- AT THE VERTICES

abbrev at_each : List ElemId → ℕ × ℕ → List ((ℕ × ℕ) × ElemId)
at_each vs p = map (λ v. (p, v)) vs

abbrev pub all_at : List (ℕ × ℕ) → List ElemId → List ((ℕ × ℕ) × ElemId)
all_at ps vs = flat_map (at_each vs) ps

pub in_all : (ps : List (ℕ × ℕ)) (vs : List ElemId) (p : ℕ × ℕ) (v : ElemId) → Contains ps p → Contains vs v → Contains (all_at ps vs) (p, v)
in_all [] vs p v c d = absurd (in_nil p c)
in_all (q ∷ ps) vs p v c d = elim (in_cons q ps p c) [
  | inl e ↦ in_left (at_each vs q) (all_at ps vs) (p, v) (subst (λ (z : ℕ × ℕ). Contains (at_each vs z) (p, v)) (sym e) (in_map (λ (u : ElemId). (p, u)) vs v d))
  | inr r ↦ in_right (at_each vs q) (all_at ps vs) (p, v) (in_all ps vs p v r d)
]

pub cost_all : (w : ElemId → ℕ) (ps : List (ℕ × ℕ)) (vs : List ElemId) → sum_by (λ (y : (ℕ × ℕ) × ElemId). w y.1) (all_at ps vs) ≡ length ps * sum_by w vs
cost_all w [] vs = omega arith
cost_all w (p ∷ ps) vs =
    let a = sum_by-append (λ (y : (ℕ × ℕ) × ElemId). w y.1) (at_each vs p) (all_at ps vs) in
    let b = sum_map (λ (y : (ℕ × ℕ) × ElemId). w y.1) (λ (v : ElemId). (p, v)) vs in
    let c = cost_all w ps vs in
    omega arith

-- BY THE LENGTH NUMBER

times_enough : (quant : Option Quant) (leg : Leg) (legs : List Leg) → turns_of (leg ∷ legs) (low_of quant) (high_of quant) ≤ 2 * times_of quant
times_enough None leg legs = omega arith
times_enough (Some q) leg legs = go q.high
  where
    go : (high : Option ℕ) → elim high as (λ _. ℕ) [ None ↦ q.low + 1 | Some most ↦ most ] ≤ 2 * elim high as (λ _. ℕ) [ None ↦ max q.low 1 | Some most ↦ most ]
    go None = omega arith
    go (Some x) = omega arith

few_legs : (arrows : List Arrow) (edges nodes : List CFiller) → length (legs_of arrows edges nodes) ≤ length edges
few_legs [] edges nodes = omega arith
few_legs (x ∷ arrows) [] nodes = omega arith
few_legs (x ∷ arrows) (e ∷ edges) [] = omega arith
few_legs (x ∷ arrows) (e ∷ edges) (m ∷ nodes) = let r = few_legs arrows edges nodes in omega arith

of_legs : (quant : Option Quant) (n : ℕ) (legs : List Leg) → length legs ≤ n → turns_of legs (low_of quant) (high_of quant) ≤ 2 * (n * times_of quant)
of_legs quant n [] l = omega arith
of_legs quant n (leg ∷ legs) l =
    let a = times_enough quant leg legs in
    let one : 1 ≤ n = omega arith in
    let b = mul-le-mul_right (times_of quant) one in
    omega arith

legs_few : (part : CPart) → length (stage_of part).round.legs ≤ length (outline_of part).edges
legs_few (Node f) = omega arith
legs_few (Edge arrow f quant) = omega arith
legs_few (Group [] arrows edges condition quant) = omega arith
legs_few (Group (n ∷ nodes) arrows edges condition quant) = let a = few_legs arrows edges nodes in let b = length-map edges (λ (f : CFiller). f.var) in omega arith

of_part : (part : CPart) → turns (stage_of part) ≤ 2 * (length (outline_of part).edges * times_of (outline_of part).quant)
of_part (Node f) = omega arith
of_part (Edge arrow f quant) = of_legs quant (length (outline_of (Edge arrow f quant)).edges) (stage_of (Edge arrow f quant)).round.legs (omega arith)
of_part (Group [] arrows edges condition quant) = omega arith
of_part (Group (n ∷ nodes) arrows edges condition quant) = of_legs quant (length (outline_of (Group (n ∷ nodes) arrows edges condition quant)).edges) (legs_of arrows edges nodes) (legs_few (Group (n ∷ nodes) arrows edges condition quant))

all_turns : (parts : List CPart) → sum_by turns (map stage_of parts) ≤ 2 * length_number (map outline_of parts)
all_turns [] = omega arith
all_turns (part ∷ parts) =
    let a = sum_by-cons turns (stage_of part) (map stage_of parts) in
    let b = of_part part in
    let c = all_turns parts in
    omega arith

square : (n : ℕ) → 2 * n ≤ (n + 1) * (n + 1)
square zero = omega arith
square (suc n) = let two : 2 ≤ suc n + 1 = omega arith in let a = mul-le-mul_right (suc n + 1) two in omega arith

pub few_places : (path : CheckedPath) → length (places (stages_of path)) ≤ (length_number (outlines path) + 1) * (length_number (outlines path) + 1)
few_places path =
    let a = long_places (stages_of path) in
    let b = all_turns path.parts in
    let c = square (length_number (outlines path)) in
    omega arith

most_of : (parts : List CPart) (k : ℕ) (stage : Stage) → slice_get (map stage_of parts) k ≡ Some stage → length stage.round.legs ≤ greatest (map (λ (o : Outline ℕ). length o.edges) (map outline_of parts))
most_of [] k stage h = absurd (cc)
most_of (part ∷ parts) zero stage h =
    let same : stage_of part ≡ stage = cc in
    let a = legs_few part in
    let b = ap (λ (x : Stage). length x.round.legs) same in
    omega arith
most_of (part ∷ parts) (suc k) stage h = let a = most_of parts k stage h in omega arith

pub few_edges : (path : CheckedPath) (k : ℕ) (stage : Stage) → slice_get (stages_of path) k ≡ Some stage → length stage.round.legs ≤ most_edges path
few_edges path k stage h = let a = most_of path.parts k stage h in omega arith
