-- Back over tight steps: what tight steps lead from is what is left of the least walks, and nothing of them is missed.
use Rattle.std.proofs.Common.{◌≡◌, ◌<◌, ◌≤◌, ◌==◌, ℕ, zero, suc, Bool, true, false, cond, List, [], ◌∷◌, ◌++◌, length, map, Contains, inl, inr, refl, arith, ap, sym, ◌∙◌, subst, append-nil, append_assoc}
use Rattle.std.specs.Prelude.{Option, Some, None, slice_get}
use Rattle.std.proofs.lemmas.Bool.{leb-true, le-leb}
use Rattle.std.proofs.lemmas.List.{length-map}
use Rattle.pg_value.specs.declared.shape.ElemId.{ElemId}
use Rattle.pg_meaning.specs.Walks.{Hop}
use Rattle.pg_meaning.specs.Bindings.{Distinct}
use Rattle.pg_meaning.specs.Members.{in_map, from_map}
use Rattle.pg_meaning.specs.Outlines.{is_walk}
use Rattle.pg_auto.specs.Stages.{Stage}
use Rattle.pg_auto.specs.States.{Task, State, Walked, first_state, walked}
use Rattle.pg_auto.specs.Tests.{TestsTell}
use Rattle.pg_short.specs.Spots.{Spot, spot_of}
use Rattle.pg_short.specs.Steps.{Step, moved, next_steps, spot_view}
use Rattle.pg_short.specs.Searches.{Follows, IsReached, IsCovered, Searches, StandsFor, state_at, visited, first_step}
use Rattle.pg_short.specs.Searches.IsReached.{first, next}
use Rattle.pg_short.specs.Found.{IsSearched, AreMade, steps_in}
use Rattle.pg_short.specs.declared.search.Search.{Search}
use Rattle.pg_short.specs.Walks.{is_end, round_of}
use Rattle.pg_short.specs.Tight.{AreTogether, IsPlace, IsTight}
use Rattle.pg_short.specs.Rests.{Rest, IsEndPlace, IsBefore, IsLed, AreLed, joined, nothing, round_walk}
use Rattle.pg_short.specs.Rests.IsLed.{ended, back}
use Rattle.pg_short.proofs.Lists.{one_get, within}
use Rattle.pg_short.proofs.Follows.{follows_alike}
use Rattle.pg_short.proofs.Reached.{Stands, stands}
use Rattle.pg_short.proofs.Layers.{all_covered}
use Rattle.pg_short.proofs.Moving.{IsMoved, steps_move, all_made}
use Rattle.pg_short.proofs.Searching.{in_get, get_in}
use Rattle.pg_short.proofs.FoundSteps.{get_map}
use Rattle.pg_short.proofs.Tracing.{round_by, moved_by}

-- WALKS ONE BEHIND ANOTHER

pub joined_nothing : (w : Walked) → joined w nothing ≡ w
joined_nothing w =
    let a = append-nil w.hops in
    let b = append-nil w.singles in
    let c = append-nil w.groups in
    λ i. record { hops = a i; singles = b i; groups = c i }

pub joined_assoc : (u v w : Walked) → joined (joined u v) w ≡ joined u (joined v w)
joined_assoc u v w =
    let a = append_assoc u.hops v.hops w.hops in
    let b = append_assoc u.singles v.singles w.singles in
    let c = append_assoc u.groups v.groups w.groups in
    λ i. record { hops = a i; singles = b i; groups = c i }

moved_by_round : (o : Option Stage) (b : Bool) (s : State) (hops : List Hop) → walked (moved_by o b s hops) ≡ joined (walked s) (round_walk (round_by o b s.at hops))
moved_by_round None true s hops = sym (joined_nothing (walked s))
moved_by_round None false s hops = sym (joined_nothing (walked s))
moved_by_round (Some stage) false s hops = sym (joined_nothing (walked s))
moved_by_round (Some stage) true s hops = refl

-- a state is moved on by the round of the step
pub moved_walk : (stages : List Stage) (s : State) (before step : Step) → before.spot ≡ spot_of stages s → walked (moved stages s step) ≡ joined (walked s) (round_walk (round_of stages before step))
moved_walk stages s before step e =
    let at_stage = ap (λ (x : Spot). x.stage) e in
    let at = ap (λ (x : Spot). x.at) e in
    moved_by_round (slice_get stages s.stage) (step.spot.stage == s.stage) s step.hops
    ∙ (λ i. joined (walked s) (round_walk (round_by (slice_get stages (sym at_stage i)) (step.spot.stage == sym at_stage i) (sym at i) step.hops)))

-- what is left behind it is left before it with the round in front
moved_joined : (stages : List Stage) (s : State) (before step : Step) → before.spot ≡ spot_of stages s → (c : State) → moved stages s step ≡ c → (w u : Walked) → u ≡ joined (round_walk (round_of stages before step)) w
    → joined (walked c) w ≡ joined (walked s) u
moved_joined stages s before step e c m w u h =
    let a : walked c ≡ joined (walked s) (round_walk (round_of stages before step)) = ap walked (sym m) ∙ moved_walk stages s before step e in
    ap (λ x. joined x w) a ∙ joined_assoc (walked s) (round_walk (round_of stages before step)) w ∙ ap (joined (walked s)) (sym h)

-- LEAST WALKS

-- as short as any state of its spot
abbrev pub IsLeast : Task → State → Type 0
IsLeast t s = (r : State) → IsReached t r → spot_of t.stages s ≡ spot_of t.stages r → length s.hops ≤ length r.hops

-- the walk of a state behind the last stage, as short as any of its spot
pub record IsLeastEnd (t : Task) (w : Walked) : Type 0 where
  pub state : State
  pub reached : IsReached t state
  pub is_last : is_end t.stages state ≡ true
  pub walk : walked state ≡ w
  pub least : IsLeast t state

pub one_place : {X : Type 0} (xs : List X) (i j : ℕ) (x : X) → Distinct xs → slice_get xs i ≡ Some x → slice_get xs j ≡ Some x → i ≡ j
one_place [] i j x d h k = absurd (cc)
one_place (y ∷ xs) zero zero x d h k = refl
one_place (y ∷ xs) zero (suc j) x d h k = absurd (d.0 (get_in xs j y (k ∙ sym h)))
one_place (y ∷ xs) (suc i) zero x d h k = absurd (d.0 (get_in xs i y (h ∙ sym k)))
one_place (y ∷ xs) (suc i) (suc j) x d h k = ap suc (one_place xs i j x d.1 h k)

pub there_at : {X : Type 0} (xs : List X) (k : ℕ) → k < length xs → (x : X) × (slice_get xs k ≡ Some x)
there_at [] k l = absurd (omega arith)
there_at (x ∷ xs) zero l = (x, refl)
there_at (x ∷ xs) (suc k) l = there_at xs k (omega arith)

module _ (tells : TestsTell) (t : Task) (walk : is_walk t.mode ≡ true) where
  -- what a least state follows is a least state
  least_before : (s c : State) → IsReached t s → Follows t s c → IsLeast t c → IsLeast t s
  least_before s c h f l r hr e =
      let a = follows_alike tells t walk r s c (sym e) (stands tells t walk r hr).agree f in
      let m = l a.next (next r hr a.next a.follows) (sym a.same) in
      let n = a.long in
      omega arith

module _ (tells : TestsTell) (t : Task) (walk : is_walk t.mode ≡ true) (s : Search) (v : IsSearched t s) where
  abbrev pub found : List Step
  found = steps_in s

  abbrev pub order : List ℕ
  order = s.order.items

  abbrev all : List State
  all = visited t found order

  abbrev spot : State → Spot
  spot r = spot_of t.stages r

  -- WHAT IS VISITED AT A PLACE

  -- the state that is visited at a place stands for its step, and is a least one
  pub record IsVisited (p : ℕ) (least : Step) : Type 0 where
    pub state : State
    pub here : slice_get all p ≡ Some state
    pub there : Contains all state
    pub stands : StandsFor t state least
    pub reached : IsReached t state

  at_place : (p : ℕ) (least : Step) → IsPlace found order p least → IsVisited p least
  at_place p least i =
      let here = get_map (state_at t found) order p i.number i.here in
      record {
        state = state_at t found i.number;
        here = here;
        there = get_in all p (state_at t found i.number) here;
        stands = v.search.stands i.number least i.there;
        reached = v.search.searches.reached (state_at t found i.number) (get_in all p (state_at t found i.number) here);
      }

  -- a spot is visited at one place
  pub same_place : (p q : ℕ) (a b : Step) → IsPlace found order p a → IsPlace found order q b → a.spot ≡ b.spot → p ≡ q
  same_place p q a b i j e =
      let x = at_place p a i in
      let y = at_place q b j in
      let g = get_map spot all p x.state x.here in
      let h = get_map spot all q y.state y.here in
      one_place (map spot all) p q (spot y.state) v.search.searches.apart (g ∙ ap Some (sym x.stands.spot ∙ e ∙ y.stands.spot)) h

  -- a least state of the spot of a place stands for the step that is visited there
  stands_least : (p : ℕ) (least : Step) → IsPlace found order p least → (r : State) → IsReached t r → IsLeast t r → least.spot ≡ spot r → StandsFor t r least
  stands_least p least i r h l e =
      let x = at_place p least i in
      let a = v.search.searches.least x.state r x.there h (sym x.stands.spot ∙ e) in
      let b = l x.state x.reached (sym e ∙ x.stands.spot) in
      let c = x.stands.long in
      record { spot = e; long = omega arith }

  least_stands : (p : ℕ) (least : Step) → IsPlace found order p least → (r : State) → StandsFor t r least → IsLeast t r
  least_stands p least i r st c h e =
      let x = at_place p least i in
      let a = v.search.searches.least x.state c x.there h (sym x.stands.spot ∙ st.spot ∙ e) in
      let b = x.stands.long in
      let d = st.long in
      omega arith

  -- a visited step of a number, and its place
  pub record IsStep (n : ℕ) : Type 0 where
    pub step : Step
    pub at : slice_get found n ≡ Some step
    pub place : ℕ
    pub is : IsPlace found order place step

  step_of : (n : ℕ) → Contains order n → IsStep n
  step_of n c =
      let i = in_get order n c in
      let a = there_at found n (v.search.ordered n c) in
      record { step = a.0; at = a.1; place = i.0; is = record { number = n; here = i.2; there = a.1 } }

  -- each state that a walk comes to is of a spot that is visited
  pub record IsAt (r : State) : Type 0 where
    pub number : ℕ
    pub ordered : Contains order number
    pub visited : IsStep number
    pub spot : visited.step.spot ≡ spot_of t.stages r

  is_at : (r : State) → IsReached t r → IsAt r
  is_at r h =
      let k = all_covered tells t walk all v.search.searches r h in
      let m = from_map (state_at t found) order k.by k.there in
      let x = step_of m.0 m.1 in
      record { number = m.0; ordered = m.1; visited = x; spot = (v.search.stands m.0 x.step x.at).spot ∙ ap spot m.2 ∙ k.same }

  -- WHAT TIGHT STEPS LEAD FROM

  abbrev IsSound : Rest → Type 0
  IsSound rest = (least : Step) → IsPlace found order rest.0 least → (r : State) → IsReached t r → StandsFor t r least → IsLeastEnd t (joined (walked r) rest.1)

  one_step : (p : ℕ) (a b : Step) → IsPlace found order p a → IsPlace found order p b → a ≡ b
  one_step p a b i j =
      let n = one_get (slice_get order p) i.number j.number i.here j.here in
      one_get (slice_get found j.number) a b (ap (slice_get found) (sym n) ∙ i.there) j.there

  sound_end : (p : ℕ) → IsEndPlace t.stages found order p → IsSound (p, nothing)
  sound_end p e least i r h st = record {
    state = r;
    reached = h;
    is_last = le-leb (length t.stages) r.stage (let a = e.2 in let b = ap (λ (x : Step). x.spot.stage) (one_step p e.0 least e.1 i) in let c = ap (λ (x : Spot). x.stage) st.spot in omega arith);
    walk = sym (joined_nothing (walked r));
    least = least_stands p least i r st;
  }

  sound_back : (rest more : Rest) (k : ℕ) → IsSound rest → IsTight found order rest.0 k → IsBefore t.stages found order k rest.1 more → IsSound more
  sound_back rest more k again tight b least i r h st =
      let step = b.step in
      let same_tight = one_get (slice_get found k) tight.step step tight.there b.there in
      let goes : step.before < k = (let g = tight.goes in let e = ap (λ (x : Step). x.before) same_tight in omega arith) in
      let made = v.made.only k step b.there goes in
      let before = b.before in
      let same_before = one_get (slice_get found step.before) made.1.0 before made.1.1 b.from in
      let among = subst (λ (x : Step). Contains (next_steps t.shapes t.tables t.graph t.stages step.before x) step) same_before made.1.2 in
      let same_least = one_step more.0 b.least least b.place i in
      let spot_before : before.spot ≡ spot r = sym b.spot ∙ ap (λ (x : Step). x.spot) same_least ∙ st.spot in
      let least_r = least_stands more.0 least i r st in
      let x = step_of step.before made.0 in
      let same_x = one_get (slice_get found step.before) x.step before x.at b.from in
      let st_before : StandsFor t r before = subst (StandsFor t r) same_x (stands_least x.place x.step x.is r h least_r (ap (λ (y : Step). y.spot) same_x ∙ spot_before)) in
      let m = steps_move tells t walk step.before r (stands tells t walk r h).agree before st_before step among in
      let c = moved t.stages r step in
      let st_c : StandsFor t c tight.least = record {
        spot = sym tight.spot ∙ ap (λ (y : Step). y.spot) same_tight ∙ m.spot;
        long = (let a = tight.long in let d = ap (λ (y : Step). y.long) same_tight in let e = m.long in omega arith);
      } in
      let end = again tight.least tight.place c (next r h c m.follows) st_c in
      subst (IsLeastEnd t) (ap (λ w. joined w rest.1) (moved_walk t.stages r before step spot_before)
      ∙ joined_assoc (walked r) (round_walk (round_of t.stages before step)) rest.1 ∙ ap (joined (walked r)) (sym b.walk)) end

  pub led_sound : (rest : Rest) → IsLed t.stages found order rest → IsSound rest
  led_sound _ (ended p e) = sound_end p e
  led_sound _ (back rest more k led tight b) = sound_back rest more k (led_sound rest led) tight b

  -- NOTHING IS MISSED

  module _ (rests : List Rest) (led : AreLed t.stages found order rests (length rests)) where
    -- what is left out of a state is kept at the place of its spot
    pub record IsHeld (r : State) (w : Walked) : Type 0 where
      pub place : ℕ
      pub least : Step
      pub is : IsPlace found order place least
      pub spot : least.spot ≡ spot_of t.stages r
      pub there : Contains rests (place, w)

    held_end : (r : State) → IsReached t r → is_end t.stages r ≡ true → IsHeld r nothing
    held_end r h e =
        let a = is_at r h in
        record {
          place = a.visited.place;
          least = a.visited.step;
          is = a.visited.is;
          spot = a.spot;
          there = led.ended a.visited.place (a.visited.step, a.visited.is, let l = past_end e in let s = ap (λ (x : Spot). x.stage) a.spot in omega arith);
        }
      where
        past_end : is_end t.stages r ≡ true → length t.stages ≤ r.stage
        past_end e = leb-true (length t.stages) r.stage e

    held_before : (r c : State) → IsReached t r → IsReached t c → Follows t r c → IsLeast t c → (w : Walked) → IsHeld c w
        → (u : Walked) × IsHeld r u × (joined (walked c) w ≡ joined (walked r) u)
    held_before r c h hc f l w held =
        let a = is_at r h in
        let b = a.visited.step in
        let least_r = least_before tells t walk r c h f l in
        let st = stands_least a.visited.place b a.visited.is r h least_r a.spot in
        let agree = (stands tells t walk r h).agree in
        let made = all_made tells t walk a.number r agree b st c f in
        let m = steps_move tells t walk a.number r agree b st made.made made.among in
        let k = v.made.all a.number b made.made a.ordered a.visited.at made.among in
        let st_c = stands_least held.place held.least held.is c hc l held.spot in
        let tight : IsTight found order held.place k.0 = record {
          step = made.made;
          there = k.2;
          goes = (let e = m.before in let g = k.1 in omega arith);
          least = held.least;
          place = held.is;
          spot = m.spot ∙ ap spot made.is ∙ sym held.spot;
          long = (let d = m.long in let e = ap (λ (x : State). length x.hops) made.is in let g = st_c.long in omega arith);
        } in
        let j = in_get rests (held.place, w) held.there in
        let more = led.closed j.0 k.0 (held.place, w) j.1 j.2 tight in
        let same_step = one_get (slice_get found k.0) more.1.step made.made more.1.there k.2 in
        let same_before = one_get (slice_get found a.number) more.1.before b (ap (slice_get found) (sym (ap (λ (x : Step). x.before) same_step ∙ m.before)) ∙ more.1.from) a.visited.at in (
          more.0.1,
          record {
            place = more.0.0;
            least = more.1.least;
            is = more.1.place;
            spot = more.1.spot ∙ ap (λ (x : Step). x.spot) same_before ∙ a.spot;
            there = more.2;
          },
          moved_joined t.stages r b made.made a.spot c made.is w more.0.1 (more.1.walk ∙ (λ i. joined (round_walk (round_of t.stages (same_before i) (same_step i))) w)),
        )

    back_over : (c : State) → IsReached t c → IsLeast t c → (w : Walked) → IsHeld c w → IsHeld (first_state t.start) (joined (walked c) w)
    back_over c first l w held = held
    back_over c (next r h _ f) l w held =
        let b = held_before r c h (next r h c f) f l w held in
        subst (IsHeld (first_state t.start)) (sym b.2) (back_over r h (least_before tells t walk r c h f l) b.0 b.1)

    -- each least walk is what is left at the place of the first state
    pub none_missed : (p : ℕ) (least : Step) → IsPlace found order p least → least.spot ≡ spot_of t.stages (first_state t.start) → (w : Walked) → IsLeastEnd t w → Contains rests (p, w)
    none_missed p least i e w x =
        let h = back_over x.state x.reached x.least nothing (held_end x.state x.reached x.is_last) in
        let same = same_place h.place p h.least least h.is i (h.spot ∙ sym e) in
        let whole = joined_nothing (walked x.state) ∙ x.walk in
        subst (Contains rests) (λ j. (same j, whole j)) h.there

  -- and what is left there is a least walk
  pub least_walk : (p : ℕ) (least : Step) → IsPlace found order p least → least.spot ≡ spot_of t.stages (first_state t.start) → (w : Walked) → IsLed t.stages found order (p, w) → IsLeastEnd t w
  least_walk p least i e w led =
      let x = at_place p least i in
      let a = v.search.searches.least x.state (first_state t.start) x.there first (sym x.stands.spot ∙ e) in
      let b = x.stands.long in
      led_sound (p, w) led least i (first_state t.start) first (record { spot = e; long = omega arith })

  -- the first spot is visited
  pub begun : (step : Step) → slice_get found 0 ≡ Some step → Contains (map spot_view s.spots.keys) step.spot
  begun step h =
      let a = is_at (first_state t.start) first in
      let e = one_get (slice_get found 0) step (first_step t.start) h v.made.first in
      let x = at_place a.visited.place a.visited.step a.visited.is in
      subst (λ xs. Contains xs step.spot) (sym v.spots) (subst (Contains (map spot all)) (sym x.stands.spot ∙ a.spot ∙ ap (λ (y : Step). y.spot) (sym e)) (in_map spot all x.state x.there))

-- THE SEARCH THAT HAS ENDED

pub together : (t : Task) (s : Search) → IsSearched t s → AreTogether (steps_in s) s.order.items (map spot_view s.spots.keys)
together t s v = record {
  ordered = v.search.ordered;
  as_many = ap length v.spots ∙ length-map (visited t (steps_in s) s.order.items) (spot_of t.stages) ∙ length-map s.order.items (state_at t (steps_in s));
  apart = subst Distinct (sym v.spots) v.search.searches.apart;
  stand = λ p n step i j.
      ap (λ (xs : List Spot). slice_get xs p) v.spots ∙ get_map (spot_of t.stages) (visited t (steps_in s) s.order.items) p (state_at t (steps_in s) n) (get_map (state_at t (steps_in s)) s.order.items p n i)
      ∙ ap Some (sym (v.search.stands n step j).spot);
  back = λ k step h l. (v.made.only k step h l).0;
}
