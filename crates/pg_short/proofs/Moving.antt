-- The steps from a step stand for the states that follow its state.
use Rattle.std.proofs.Common.{◌≡◌, ◌==◌, ◌+◌, ℕ, Bool, true, false, cond, List, [], ◌∷◌, ◌++◌, length, Contains, inl, inr, refl, arith, ap, sym, ◌∙◌, subst, length-append, append-nil, eq-eqb}
use Rattle.std.specs.Prelude.{Option, Some, None, slice_get, filter}
use Rattle.std.specs.List.{list_all}
use Rattle.std.proofs.lemmas.Bool.{ne_eqb}
use Rattle.pg_meaning.specs.Walks.{Hop, last_vertex}
use Rattle.pg_meaning.specs.Fits.{Mention, Agree, seen_in}
use Rattle.pg_meaning.specs.Members.{in_nil, in_here, in_there, in_cons, in_one, in_left, in_right, in_append, in_map, from_map, in_filter}
use Rattle.pg_meaning.specs.Outlines.{is_walk}
use Rattle.pg_auto.specs.Stages.{Stage}
use Rattle.pg_auto.specs.Counts.{may_enter, may_leave, next_of}
use Rattle.pg_auto.specs.States.{Task, State, singles_in}
use Rattle.pg_auto.specs.Tests.{TestsTell, agrees, fits_mention}
use Rattle.pg_auto.specs.Successors.{rounds_from, is_round, enter, leave}
use Rattle.pg_short.specs.Spots.{Spot, spot_of, needed, is_needed}
use Rattle.pg_short.specs.Steps.{Step, next_steps, steps_of, steps_in, step_in, step_out, goes_with, fits_names, moved}
use Rattle.pg_short.proofs.Lists.{kept, filter_twice, filter_both}
use Rattle.pg_short.proofs.Named.{needed_before, singles_needed}
use Rattle.pg_short.specs.Searches.{Follows, StandsFor}
use Rattle.pg_short.proofs.Follows.{in_cond, cond_in, and_true, both_true, agrees_on, goes_where}
use Rattle.pg_short.specs.Searches.Follows.{enters, leaves}

-- TESTS OF LISTS

all_means : {X : Type 0} (test : X → Bool) (xs : List X) → list_all test xs ≡ true → (x : X) → Contains xs x → test x ≡ true
all_means test [] h x c = absurd (in_nil x c)
all_means test (y ∷ ys) h x c = let p = and_true (test y) (list_all test ys) h in elim (in_cons y ys x c) [ inl e ↦ ap test (sym e) ∙ p.0 | inr r ↦ all_means test ys p.1 x r ]

means_all : {X : Type 0} (test : X → Bool) (xs : List X) → ((x : X) → Contains xs x → test x ≡ true) → list_all test xs ≡ true
means_all test [] h = refl
means_all test (y ∷ ys) h = both_true (test y) (list_all test ys) (h y (in_here y ys y refl)) (means_all test ys (λ x c. h x (in_there y ys x c)))

module _ (tells : TestsTell) where
  fits_means : (m n : Mention) → fits_mention m n ≡ true → m.var ≡ n.var → m.elem ≡ n.elem
  fits_means m n h e =
      let a = (tells.agrees_tells (m ∷ n ∷ [])).0 (both_true _ _ (both_true (fits_mention m n) true h refl) refl) in
      a m n (in_here m (n ∷ []) m refl) (in_there m (n ∷ []) n (in_here n [] n refl)) e

  means_fits : (m n : Mention) → Agree (m ∷ n ∷ []) → fits_mention m n ≡ true
  means_fits m n a = let k = (tells.agrees_tells (m ∷ n ∷ [])).1 a in (and_true (fits_mention m n) true (and_true _ _ k).0).0

  -- what agrees with what is needed of it agrees with all that was named
  agree_more : (stages : List Stage) (k : ℕ) (seen more : List Mention) → ((m : Mention) → Contains more m → is_needed stages k m.var ≡ true) → Agree seen → Agree more
      → fits_names (needed stages k seen) more ≡ true → Agree (seen ++ more)
  agree_more stages k seen more here a b h m n c d e = elim (in_append seen more m c) [
    | inl x ↦ elim (in_append seen more n d) [
      | inl y ↦ a m n x y e
      | inr y ↦ sym (one n m y x (sym e))
    ]
    | inr x ↦ elim (in_append seen more n d) [
      | inl y ↦ one m n x y e
      | inr y ↦ b m n x y e
    ]
  ]
    where
      one : (z y : Mention) → Contains more z → Contains seen y → z.var ≡ y.var → z.elem ≡ y.elem
      one z y cz cy q =
          fits_means z y (all_means (fits_mention z) (needed stages k seen) (all_means (λ (u : Mention). list_all (fits_mention u) (needed stages k seen)) more h z cz) y
          (kept (λ (u : Mention). is_needed stages k u.var) seen y cy (subst (λ v. is_needed stages k v ≡ true) q (here z cz)))) q

  fits_more : (stages : List Stage) (k : ℕ) (seen more : List Mention) → Agree (seen ++ more) → fits_names (needed stages k seen) more ≡ true
  fits_more stages k seen more a = means_all _ more (λ z cz. means_all _ (needed stages k seen) (λ y cy. means_fits z y (λ m n c d e.
      a m n (among z y cz cy m c) (among z y cz cy n d) e)))
    where
      among : (z y : Mention) → Contains more z → Contains (needed stages k seen) y → (m : Mention) → Contains (z ∷ y ∷ []) m → Contains (seen ++ more) m
      among z y cz cy m c = elim (in_cons z (y ∷ []) m c) [
        | inl e ↦ subst (λ u. Contains (seen ++ more) u) e (in_right seen more z cz)
        | inr r ↦ subst (λ u. Contains (seen ++ more) u) (in_one y m r) (in_left seen more y (in_filter (λ (u : Mention). is_needed stages k u.var) seen y cy).0)
      ]

-- THE STEPS

pub record IsMoved (t : Task) (number : ℕ) (s : State) (step : Step) : Type 0 where
  pub before : step.before ≡ number
  pub follows : Follows t s (moved t.stages s step)
  pub spot : step.spot ≡ spot_of t.stages (moved t.stages s step)
  pub long : step.long ≡ length (moved t.stages s step).hops

module _ (tells : TestsTell) (t : Task) (walk : is_walk t.mode ≡ true) (number : ℕ) (s : State) (own : Agree s.singles) (step : Step) (stands : StandsFor t s step) where
  at_stage : step.spot.stage ≡ s.stage
  at_stage = ap (λ (x : Spot). x.stage) stands.spot

  at_done : step.spot.done ≡ s.done
  at_done = ap (λ (x : Spot). x.done) stands.spot

  at_vertex : step.spot.at ≡ s.at
  at_vertex = ap (λ (x : Spot). x.at) stands.spot

  at_names : step.spot.names ≡ needed t.stages s.stage s.singles
  at_names = ap (λ (x : Spot). x.names) stands.spot

  moved_in : (stage : Stage) (b : Bool) → slice_get t.stages s.stage ≡ Some stage → (next : Step) → (next.spot.stage == s.stage) ≡ b → moved t.stages s next ≡ cond b (enter s stage next.hops) (leave s)
  moved_in stage b here next e =
      ap (λ (o : Option Stage). elim o as (λ _. State) [ None ↦ s | Some x ↦ cond (next.spot.stage == s.stage) (enter s x next.hops) (leave s) ]) here ∙ ap (λ c. cond c (enter s stage next.hops) (leave s)) e

  module _ (stage : Stage) (here : slice_get t.stages s.stage ≡ Some stage) where
    new_needed : (hops : List Hop) (m : Mention) → Contains (singles_in stage s.at hops) m → is_needed t.stages s.stage m.var ≡ true
    new_needed hops m c = singles_needed t.stages s.stage stage here s.at hops m c

    round_agrees : (hops : List Hop) → Contains (rounds_from t stage s.at) hops → Agree (singles_in stage s.at hops)
    round_agrees hops c = go stage.grouped
      where
        seen : Agree (seen_in stage.round s.at hops)
        seen = (tells.agrees_tells (seen_in stage.round s.at hops)).0 (and_true (agrees (seen_in stage.round s.at hops)) _ (in_filter (is_round t stage s.at) _ hops c).1).0

        go : (g : Bool) → Agree (cond g [] (seen_in stage.round s.at hops))
        go true = λ m n d e q. absurd (in_nil m d)
        go false = seen

    goes_same : (hops : List Hop) → goes_with step stage hops ≡ fits_names (needed t.stages s.stage s.singles) (singles_in stage s.at hops)
    goes_same hops = λ i. fits_names (at_names i) (singles_in stage (at_vertex i) hops)

    entered_spot : (hops : List Hop) → (step_in t.stages number step stage hops).spot ≡ spot_of t.stages (enter s stage hops)
    entered_spot hops = λ i. record {
      stage = at_stage i;
      done = next_of stage (at_done i);
      at = last_vertex (at_vertex i) hops;
      names = named i;
    }
      where
        named : needed t.stages step.spot.stage (step.spot.names ++ singles_in stage step.spot.at hops) ≡ needed t.stages s.stage (s.singles ++ singles_in stage s.at hops)
        named = (λ i. needed t.stages (at_stage i) (at_names i ++ singles_in stage (at_vertex i) hops))
            ∙ filter_both (λ (m : Mention). is_needed t.stages s.stage m.var) (needed t.stages s.stage s.singles) (singles_in stage s.at hops)
            ∙ ap (λ xs. xs ++ needed t.stages s.stage (singles_in stage s.at hops)) (filter_twice (λ (m : Mention). is_needed t.stages s.stage m.var) (λ (m : Mention). is_needed t.stages s.stage m.var) (λ m h. h) s.singles)
            ∙ sym (filter_both (λ (m : Mention). is_needed t.stages s.stage m.var) s.singles (singles_in stage s.at hops))

    left_spot : (step_out t.stages number step).spot ≡ spot_of t.stages (leave s)
    left_spot = λ i. record { stage = at_stage i + 1; done = 0; at = at_vertex i; names = named i }
      where
        named : needed t.stages (step.spot.stage + 1) (step.spot.names ++ []) ≡ needed t.stages (s.stage + 1) s.singles
        named = (λ i. needed t.stages (at_stage i + 1) (at_names i ++ []))
            ∙ ap (needed t.stages (s.stage + 1)) (append-nil (needed t.stages s.stage s.singles))
            ∙ filter_twice (λ (m : Mention). is_needed t.stages s.stage m.var) (λ (m : Mention). is_needed t.stages (s.stage + 1) m.var) (λ m h. needed_before t.stages s.stage stage here m.var h) s.singles

    as_moved : (next : Step) (c : State) → moved t.stages s next ≡ c → next.before ≡ number → Follows t s c → next.spot ≡ spot_of t.stages c → next.long ≡ length c.hops → IsMoved t number s next
    as_moved next c e b f p l = record {
      before = b;
      follows = subst (Follows t s) (sym e) f;
      spot = p ∙ ap (spot_of t.stages) (sym e);
      long = l ∙ ap (λ (x : State). length x.hops) (sym e);
    }

    entered_moved : (hops : List Hop) → may_enter stage s.done ≡ true → Contains (rounds_from t stage s.at) hops → goes_with step stage hops ≡ true → IsMoved t number s (step_in t.stages number step stage hops)
    entered_moved hops may c g =
        as_moved (step_in t.stages number step stage hops) (enter s stage hops) (moved_in stage true here (step_in t.stages number step stage hops) (eq-eqb step.spot.stage s.stage at_stage)) refl
        (enters stage here may hops c (goes_where tells t walk s stage hops (agree_more tells t.stages s.stage s.singles (singles_in stage s.at hops) (new_needed hops) own (round_agrees hops c) (sym (goes_same hops) ∙ g))))
        (entered_spot hops)
        (let l = stands.long in let e = length-append s.hops hops in omega arith)

    left_moved : may_leave stage s.done ≡ true → IsMoved t number s (step_out t.stages number step)
    left_moved may =
        as_moved (step_out t.stages number step) (leave s) (moved_in stage false here (step_out t.stages number step) (ne_eqb (step.spot.stage + 1) s.stage (λ e. let k = at_stage in omega arith))) refl
        (leaves stage here may) left_spot stands.long

    of_stage : (next : Step) → Contains (steps_of t.shapes t.tables t.graph t.stages number step stage) next → IsMoved t number s next
    of_stage next c = elim (in_append (cond (may_enter stage step.spot.done) (steps_in t.stages number step stage (rounds_from t stage step.spot.at)) []) (cond (may_leave stage step.spot.done) (step_out t.stages number step ∷ []) []) next c) [
      | inl a ↦ (let p = in_cond (may_enter stage step.spot.done) (steps_in t.stages number step stage (rounds_from t stage step.spot.at)) next a in
          let m = from_map (step_in t.stages number step stage) (filter (goes_with step stage) (rounds_from t stage step.spot.at)) next p.1 in
          let k = in_filter (goes_with step stage) (rounds_from t stage step.spot.at) m.0 m.1 in
          subst (IsMoved t number s) m.2 (entered_moved m.0 (ap (may_enter stage) (sym at_done) ∙ p.0) (subst (λ v. Contains (rounds_from t stage v) m.0) at_vertex k.0) k.1))
      | inr b ↦ (let p = in_cond (may_leave stage step.spot.done) (step_out t.stages number step ∷ []) next b in
          subst (IsMoved t number s) (in_one (step_out t.stages number step) next p.1) (left_moved (ap (may_leave stage) (sym at_done) ∙ p.0)))
    ]

  steps_stage : (stage : Stage) → slice_get t.stages s.stage ≡ Some stage → next_steps t.shapes t.tables t.graph t.stages number step ≡ steps_of t.shapes t.tables t.graph t.stages number step stage
  steps_stage stage here = ap (λ (o : Option Stage). elim o as (λ _. List Step) [ None ↦ [] | Some x ↦ steps_of t.shapes t.tables t.graph t.stages number step x ]) (ap (slice_get t.stages) at_stage ∙ here)

  -- each step from it stands for a state that follows
  pub steps_move : (next : Step) → Contains (next_steps t.shapes t.tables t.graph t.stages number step) next → IsMoved t number s next
  steps_move next c = go (slice_get t.stages s.stage) refl
    where
      go : (o : Option Stage) → slice_get t.stages s.stage ≡ o → IsMoved t number s next
      go None e = absurd (in_nil next (subst (λ xs. Contains xs next) (ap (λ (o : Option Stage). elim o as (λ _. List Step) [ None ↦ [] | Some x ↦ steps_of t.shapes t.tables t.graph t.stages number step x ]) (ap (slice_get t.stages) at_stage ∙ e)) c))
      go (Some stage) e = of_stage stage e next (subst (λ xs. Contains xs next) (steps_stage stage e) c)

  -- one of the steps from it stands for this state
  pub record IsMade (c : State) : Type 0 where
    pub made : Step
    pub among : Contains (next_steps t.shapes t.tables t.graph t.stages number step) made
    pub is : moved t.stages s made ≡ c

  -- each state that follows is made by one of them
  pub all_made : (c : State) → Follows t s c → IsMade c
  all_made c (enters stage here may hops round on) = record {
    made = step_in t.stages number step stage hops;
    among = subst (λ xs. Contains xs (step_in t.stages number step stage hops)) (sym (steps_stage stage here))
        (in_left (cond (may_enter stage step.spot.done) (steps_in t.stages number step stage (rounds_from t stage step.spot.at)) []) _ (step_in t.stages number step stage hops)
        (cond_in (may_enter stage step.spot.done) (steps_in t.stages number step stage (rounds_from t stage step.spot.at)) (step_in t.stages number step stage hops) (ap (may_enter stage) at_done ∙ may)
        (in_map (step_in t.stages number step stage) _ hops (kept (goes_with step stage) (rounds_from t stage step.spot.at) hops (subst (λ v. Contains (rounds_from t stage v) hops) (sym at_vertex) round)
        (goes_same stage here hops ∙ fits_more tells t.stages s.stage s.singles (singles_in stage s.at hops) (agrees_on tells t walk s stage hops on))))));
    is = moved_in stage true here (step_in t.stages number step stage hops) (eq-eqb step.spot.stage s.stage at_stage);
  }
  all_made c (leaves stage here may) = record {
    made = step_out t.stages number step;
    among = subst (λ xs. Contains xs (step_out t.stages number step)) (sym (steps_stage stage here))
        (in_right (cond (may_enter stage step.spot.done) (steps_in t.stages number step stage (rounds_from t stage step.spot.at)) []) _ (step_out t.stages number step)
        (cond_in (may_leave stage step.spot.done) (step_out t.stages number step ∷ []) (step_out t.stages number step) (ap (may_leave stage) at_done ∙ may) (in_here (step_out t.stages number step) [] (step_out t.stages number step) refl)));
    is = moved_in stage false here (step_out t.stages number step) (ne_eqb (step.spot.stage + 1) s.stage (λ e. let k = at_stage in omega arith));
  }
