-- The state of a step, by the step before it; and the walk to it, by its rounds.
use Rattle.std.proofs.Common.{◌≡◌, ◌<◌, ◌≤◌, ◌+◌, ◌==◌, ℕ, zero, suc, Bool, true, false, cond, List, [], ◌∷◌, ◌++◌, length, take, drop, map, reverse, refl, arith, ap, sym, ◌∙◌, subst, append-nil, append_assoc}
use Rattle.std.specs.Prelude.{Option, Some, None, slice_get, option_map, nat_le}
use Rattle.std.proofs.lemmas.Bool.{leb-true, le-leb}
use Rattle.std.specs.Option.{unwrap_or, option_to_list}
use Rattle.std.proofs.lemmas.List.{map-append, reverse-append}
use Rattle.pg_value.specs.declared.shape.ElemId.{ElemId}
use Rattle.pg_meaning.specs.Walks.{Hop}
use Rattle.pg_meaning.specs.Bindings.{path_binding}
use Rattle.pg_auto.specs.Stages.{Stage}
use Rattle.pg_auto.specs.States.{State, Walked, first_state, walked, binding_of}
use Rattle.pg_auto.specs.Successors.{enter, leave}
use Rattle.pg_short.specs.Spots.{Spot}
use Rattle.pg_short.specs.Steps.{Step, moved, came, grown, states_of}
use Rattle.pg_short.specs.Walks.{Round, walk_along, hops_along, singles_along, groups_along, singles_at, groups_at, round_of, IsTraced, state_to, end_to, Stand}
use Rattle.pg_short.specs.Walks.IsTraced.{first, next}
use Rattle.pg_short.proofs.Lists.{drop_here, none_from, within}
use Rattle.pg_short.proofs.Along.{flat_push}
use Rattle.pg_short.proofs.Grown.{get_front, get_behind, grown_both, as_many}

-- THE STATE OF A STEP

parts : {X : Type 0} (xs : List X) (k : ℕ) → xs ≡ take k xs ++ drop k xs
parts xs zero = refl
parts [] (suc k) = refl
parts (x ∷ xs) (suc k) = ap (λ ys. x ∷ ys) (parts xs k)

take_long : {X : Type 0} (xs : List X) (k : ℕ) → k ≤ length xs → length (take k xs) ≡ k
take_long xs zero l = refl
take_long [] (suc k) l = absurd (omega arith)
take_long (x ∷ xs) (suc k) l = ap suc (take_long xs k (omega arith))

module _ (stages : List Stage) (start : ElemId) where
  grown_front : (all : List State) (xs : List Step) (k : ℕ) → k < length all → slice_get (grown stages start all xs) k ≡ slice_get all k
  grown_front all [] k l = refl
  grown_front all (x ∷ xs) k l =
      grown_front (all ++ came stages start all x ∷ []) xs k (let m = length-append' all (came stages start all x) in omega arith) ∙ get_front all (came stages start all x ∷ []) k l
    where
      length-append' : (ys : List State) (y : State) → length (ys ++ y ∷ []) ≡ suc (length ys)
      length-append' [] y = refl
      length-append' (z ∷ zs) y = ap suc (length-append' zs y)

  -- the states of the steps before a step
  abbrev front : List Step → ℕ → List State
  front found k = states_of stages start (take k found)

  module _ (found : List Step) (k : ℕ) (step : Step) (here : slice_get found k ≡ Some step) where
    cut : states_of stages start found ≡ grown stages start (front found k ++ came stages start (front found k) step ∷ []) (drop (k + 1) found)
    cut = ap (states_of stages start) (parts found k ∙ ap (λ ys. take k found ++ ys) (drop_here found k step here)) ∙ grown_both stages start [] (take k found) (step ∷ drop (k + 1) found)

    front_long : length (front found k) ≡ k
    front_long = as_many stages start (take k found) ∙ take_long found k (let l = within found k step here in omega arith)

    more_long : length (front found k ++ came stages start (front found k) step ∷ []) ≡ suc k
    more_long = push_long (front found k) ∙ ap suc front_long
      where
        push_long : (ys : List State) → length (ys ++ came stages start (front found k) step ∷ []) ≡ suc (length ys)
        push_long [] = refl
        push_long (z ∷ zs) = ap suc (push_long zs)

    at_front : (j : ℕ) → j < k → slice_get (states_of stages start found) j ≡ slice_get (front found k) j
    at_front j l =
        ap (λ (xs : List State). slice_get xs j) cut
        ∙ grown_front (front found k ++ came stages start (front found k) step ∷ []) (drop (k + 1) found) j (let m = more_long in omega arith)
        ∙ get_front (front found k) (came stages start (front found k) step ∷ []) j (let m = front_long in omega arith)

    at_step : slice_get (states_of stages start found) k ≡ Some (came stages start (front found k) step)
    at_step =
        ap (λ (xs : List State). slice_get xs k) cut
        ∙ grown_front (front found k ++ came stages start (front found k) step ∷ []) (drop (k + 1) found) k (let m = more_long in omega arith)
        ∙ ap (slice_get (front found k ++ came stages start (front found k) step ∷ [])) (let m = front_long in let e : k ≡ length (front found k) + 0 = omega arith in e)
        ∙ get_behind (front found k) (came stages start (front found k) step ∷ []) 0

    -- a step that goes on from none is at the start
    pub state_first : k ≤ step.before → state_to stages start found k ≡ first_state start
    state_first l =
        ap (λ (o : Option State). unwrap_or o (first_state start)) at_step
        ∙ ap (λ (o : Option State). elim o as (λ _. State) [ None ↦ first_state start | Some s ↦ moved stages s step ]) (none_from (front found k) step.before (let m = front_long in omega arith))

    some_or : (xs : List State) (j : ℕ) → j < length xs → slice_get xs j ≡ Some (unwrap_or (slice_get xs j) (first_state start))
    some_or [] j l = absurd (omega arith)
    some_or (x ∷ xs) zero l = refl
    some_or (x ∷ xs) (suc j) l = some_or xs j (omega arith)

    -- and any other moves on from the state of the step before it
    pub state_next : step.before < k → state_to stages start found k ≡ moved stages (state_to stages start found step.before) step
    state_next l =
        ap (λ (o : Option State). unwrap_or o (first_state start)) at_step
        ∙ ap (λ (o : Option State). elim o as (λ _. State) [ None ↦ first_state start | Some s ↦ moved stages s step ])
        (some_or (front found k) step.before (let m = front_long in omega arith)
        ∙ ap (λ (o : Option State). Some (unwrap_or o (first_state start))) (sym (at_front step.before l)))

-- THE WALK OF A STEP

-- a round more
walk_push : (rounds : List Round) (r : Round)
    → walk_along (rounds ++ r ∷ []) ≡ record { hops = hops_along rounds ++ r.hops; singles = singles_along rounds ++ singles_at r; groups = groups_along rounds ++ groups_at r }
walk_push rounds r =
    let a = flat_push (λ (x : Round). x.hops) rounds r in
    let b = flat_push singles_at rounds r in
    let c = flat_push groups_at rounds r in
    λ i. record { hops = a i; singles = b i; groups = c i }

abbrev pub round_at : ElemId → List Hop → Stage → Round
round_at at hops stage = record { stage = stage; from = at; hops = hops }

-- the round of a step, by what decides it
abbrev pub round_by : Option Stage → Bool → ElemId → List Hop → Option Round
round_by o b at hops = cond b (option_map (round_at at hops) o) None

abbrev pub moved_by : Option Stage → Bool → State → List Hop → State
moved_by o b s hops = elim o as (λ _. State) [ None ↦ s | Some stage ↦ cond b (enter s stage hops) (leave s) ]

walk_by : (o : Option Stage) (b : Bool) (s : State) (hops : List Hop) (rounds : List Round) → walked s ≡ walk_along rounds
    → walked (moved_by o b s hops) ≡ walk_along (rounds ++ option_to_list (round_by o b s.at hops))
walk_by None true s hops rounds e = e ∙ ap walk_along (sym (append-nil rounds))
walk_by None false s hops rounds e = e ∙ ap walk_along (sym (append-nil rounds))
walk_by (Some stage) false s hops rounds e = e ∙ ap walk_along (sym (append-nil rounds))
walk_by (Some stage) true s hops rounds e =
    (λ i. record { hops = (e i).hops ++ hops; singles = (e i).singles ++ singles_at (round_at s.at hops stage); groups = (e i).groups ++ groups_at (round_at s.at hops stage) })
    ∙ sym (walk_push rounds (round_at s.at hops stage))

module _ (stages : List Stage) (start : ElemId) (found : List Step) (stand : Stand stages start found) where
  pub traced_walk : (k : ℕ) (rounds : List Round) → IsTraced stages found k rounds → walked (state_to stages start found k) ≡ walk_along rounds
  traced_walk k _ (first _ step here l) = ap walked (state_first stages start found k step here l)
  traced_walk k _ (next _ step before rounds here l there traced) =
      let s = state_to stages start found step.before in
      let spot = stand step.before before there in
      let at_stage = ap (λ (x : Spot). x.stage) spot in
      let at = ap (λ (x : Spot). x.at) spot in
      ap walked (state_next stages start found k step here l)
      ∙ walk_by (slice_get stages s.stage) (step.spot.stage == s.stage) s step.hops rounds (traced_walk step.before rounds traced)
      ∙ (λ i. walk_along (rounds ++ option_to_list (round_by (slice_get stages (sym at_stage i)) (step.spot.stage == sym at_stage i) (sym at i) step.hops)))

  -- the binding of a walk that ends behind the last stage, and of another
  pub end_some : (vars : List ℕ) (k : ℕ) (step : Step) (rounds : List Round) → slice_get found k ≡ Some step → length stages ≤ step.spot.stage → IsTraced stages found k rounds
      → end_to stages start vars found k ≡ path_binding (binding_of start vars (walk_along rounds)) ∷ []
  end_some vars k step rounds here l traced =
      let e = ap (λ (x : Spot). x.stage) (stand k step here) in
      let ended = le-leb (length stages) (state_to stages start found k).stage (let m = e in omega arith) in
      ap (λ b. cond b (path_binding (binding_of start vars (walked (state_to stages start found k))) ∷ []) []) ended
      ∙ ap (λ (w : Walked). path_binding (binding_of start vars w) ∷ []) (traced_walk k rounds traced)

  pub end_none : (vars : List ℕ) (k : ℕ) (step : Step) → slice_get found k ≡ Some step → step.spot.stage < length stages → end_to stages start vars found k ≡ []
  end_none vars k step here l =
      let e = ap (λ (x : Spot). x.stage) (stand k step here) in
      let open' = not_le (length stages) (state_to stages start found k).stage (let m = e in omega arith) in
      ap (λ b. cond b (path_binding (binding_of start vars (walked (state_to stages start found k))) ∷ []) []) open'
    where
      not_le : (m n : ℕ) → n < m → nat_le m n ≡ false
      not_le m n l = go (nat_le m n) refl
        where
          go : (b : Bool) → nat_le m n ≡ b → b ≡ false
          go false e = refl
          go true e = absurd (let k = leb-true m n e in omega arith)

-- BACK FROM A STEP

pub map_reverse : {X Y : Type 0} (f : X → Y) (xs : List X) → map f (reverse xs) ≡ reverse (map f xs)
map_reverse f [] = refl
map_reverse f (x ∷ xs) = ap (map f) (reverse-append (x ∷ []) xs) ∙ map-append f (reverse xs) (x ∷ []) ∙ ap (λ ys. ys ++ f x ∷ []) (map_reverse f xs) ∙ sym (reverse-append (f x ∷ []) (map f xs))

one_back : {X : Type 0} (o : Option X) → reverse (option_to_list o) ≡ option_to_list o
one_back None = refl
one_back (Some x) = refl

module _ (stages : List Stage) (found : List Step) (number : ℕ) where
  -- whatever leads to the step of a number leads, with these rounds behind it, to the step of another
  abbrev pub Leads : ℕ → List Round → Type 0
  Leads at back = (rounds : List Round) → IsTraced stages found at rounds → IsTraced stages found number (rounds ++ reverse back)

  pub leads_on : Leads number []
  leads_on rounds traced = subst (IsTraced stages found number) (sym (append-nil rounds)) traced

  pub leads_more : (at : ℕ) (step before : Step) (back : List Round) → slice_get found at ≡ Some step → step.before < at → slice_get found step.before ≡ Some before → Leads at back
      → Leads step.before (back ++ option_to_list (round_of stages before step))
  leads_more at step before back here l there h rounds traced =
      let o = option_to_list (round_of stages before step) in
      subst (IsTraced stages found number)
      (append_assoc rounds o (reverse back) ∙ ap (λ ys. rounds ++ ys) (sym (reverse-append back o ∙ ap (λ ys. ys ++ reverse back) (one_back (round_of stages before step)))))
      (h (rounds ++ o) (next at step before rounds here l there traced))

  pub leads_all : (at : ℕ) (step : Step) (back : List Round) → slice_get found at ≡ Some step → at ≤ step.before → Leads at back → IsTraced stages found number (reverse back)
  leads_all at step back here l h = h [] (first at step here l)
