-- States of one spot are followed by states of the same spots, by as many hops more.
use Rattle.std.proofs.Common.{◌≡◌, ◌≤◌, ◌+◌, Bool, true, false, cond, ◌&&◌, List, [], ◌∷◌, ◌++◌, length, Contains, inl, inr, refl, arith, ap, sym, ◌∙◌, subst, length-append}
use Rattle.std.specs.Prelude.{Option, Some, None, slice_get, filter}
use Rattle.pg_value.specs.declared.shape.ElemId.{ElemId}
use Rattle.pg_ast.specs.declared.pattern.Mode.{Mode}
use Rattle.pg_ast.specs.declared.pattern.Mode.TheVariants.{Walk, Trail, Acyclic, Simple}
use Rattle.pg_meaning.specs.Walks.{Hop, last_vertex}
use Rattle.pg_meaning.specs.Fits.{Mention, Agree}
use Rattle.pg_meaning.specs.Bindings.{Permits}
use Rattle.pg_meaning.specs.Members.{in_nil, in_here, in_one, in_left, in_right, in_append, in_map, from_map, in_filter}
use Rattle.pg_meaning.specs.Outlines.{is_walk}
use Rattle.pg_auto.specs.Stages.{Stage}
use Rattle.pg_auto.specs.Counts.{may_enter, may_leave, next_of}
use Rattle.pg_auto.specs.States.{Task, State, singles_in}
use Rattle.pg_auto.specs.Tests.{TestsTell, permits}
use Rattle.pg_auto.specs.Successors.{rounds_from, enter, leave, goes_on, entered, successors, next_states}
use Rattle.pg_short.specs.Spots.{Spot, spot_of, needed, is_needed}
use Rattle.pg_short.specs.Searches.{Follows}
use Rattle.pg_short.specs.Searches.Follows.{enters, leaves}
use Rattle.pg_short.proofs.Lists.{kept, filter_twice, filter_both}
use Rattle.pg_short.proofs.Named.{needed_before, singles_needed, agree_alike}

-- A STATE FOLLOWS

pub in_cond : {X : Type 0} (b : Bool) (xs : List X) (x : X) → Contains (cond b xs []) x → (b ≡ true) × Contains xs x
in_cond true xs x c = (refl, c)
in_cond false xs x c = absurd (in_nil x c)

pub cond_in : {X : Type 0} (b : Bool) (xs : List X) (x : X) → b ≡ true → Contains xs x → Contains (cond b xs []) x
cond_in true xs x h c = c
cond_in false xs x h c = absurd (cc)

pub from_successors : (t : Task) (s : State) (stage : Stage) (c : State) → slice_get t.stages s.stage ≡ Some stage → Contains (successors t s stage) c → Follows t s c
from_successors t s stage c here d = elim (in_append (cond (may_enter stage s.done) (entered t s stage) []) (cond (may_leave stage s.done) (leave s ∷ []) []) c d) [
  | inl a ↦ (let p = in_cond (may_enter stage s.done) (entered t s stage) c a in
      let m = from_map (enter s stage) (filter (goes_on t s stage) (rounds_from t stage s.at)) c p.1 in
      let k = in_filter (goes_on t s stage) (rounds_from t stage s.at) m.0 m.1 in
      subst (Follows t s) m.2 (enters stage here p.0 m.0 k.0 k.1))
  | inr b ↦ (let p = in_cond (may_leave stage s.done) (leave s ∷ []) c b in subst (Follows t s) (in_one (leave s) c p.1) (leaves stage here p.0))
]

pub from_next : (t : Task) (s c : State) → Contains (next_states t s) c → Follows t s c
from_next t s c d = go (slice_get t.stages s.stage) refl d
  where
    go : (o : Option Stage) → slice_get t.stages s.stage ≡ o → Contains (elim o as (λ _. List State) [ None ↦ [] | Some stage ↦ successors t s stage ]) c → Follows t s c
    go None e d = absurd (in_nil c d)
    go (Some stage) e d = from_successors t s stage c e d

-- it follows in a stage
pub record IsStepOf (t : Task) (s c : State) : Type 0 where
  pub stage : Stage
  pub here : slice_get t.stages s.stage ≡ Some stage
  pub among : Contains (successors t s stage) c

pub to_successors : (t : Task) (s c : State) → Follows t s c → IsStepOf t s c
to_successors t s c (enters stage here may hops round on) = record {
  stage = stage;
  here = here;
  among = in_left (cond (may_enter stage s.done) (entered t s stage) []) _ (enter s stage hops)
      (cond_in (may_enter stage s.done) (entered t s stage) (enter s stage hops) may (in_map (enter s stage) _ hops (kept (goes_on t s stage) (rounds_from t stage s.at) hops round on)));
}
to_successors t s c (leaves stage here may) = record {
  stage = stage;
  here = here;
  among = in_right (cond (may_enter stage s.done) (entered t s stage) []) _ (leave s) (cond_in (may_leave stage s.done) (leave s ∷ []) (leave s) may (in_here (leave s) [] (leave s) refl));
}

pub to_next : (t : Task) (s c : State) → Follows t s c → Contains (next_states t s) c
to_next t s c f = let o = to_successors t s c f in subst (λ (z : Option Stage). Contains (elim z as (λ _. List State) [ None ↦ [] | Some x ↦ successors t s x ]) c) (sym o.here) o.among

-- UNDER WALK

pub and_true : (a b : Bool) → (a && b) ≡ true → (a ≡ true) × (b ≡ true)
and_true true b h = (refl, h)
and_true false b h = absurd (cc)

pub both_true : (a b : Bool) → a ≡ true → b ≡ true → (a && b) ≡ true
both_true a b h k = cc

pub all_permitted : (mode : Mode) (v : ElemId) (hops : List Hop) → is_walk mode ≡ true → Permits mode v hops
all_permitted Walk v hops h = tt
all_permitted Trail v hops h = absurd (cc)
all_permitted Acyclic v hops h = absurd (cc)
all_permitted Simple v hops h = absurd (cc)

module _ (tells : TestsTell) (t : Task) (walk : is_walk t.mode ≡ true) where
  pub agrees_on : (s : State) (stage : Stage) (hops : List Hop) → goes_on t s stage hops ≡ true → Agree (s.singles ++ singles_in stage s.at hops)
  agrees_on s stage hops h = (tells.agrees_tells (s.singles ++ singles_in stage s.at hops)).0 (and_true (permits t.mode t.start (s.hops ++ hops)) _ h).1

  pub goes_where : (s : State) (stage : Stage) (hops : List Hop) → Agree (s.singles ++ singles_in stage s.at hops) → goes_on t s stage hops ≡ true
  goes_where s stage hops a =
      both_true (permits t.mode t.start (s.hops ++ hops)) _ ((tells.permits_tells t.mode t.start (s.hops ++ hops)).1 (all_permitted t.mode t.start (s.hops ++ hops) walk))
      ((tells.agrees_tells (s.singles ++ singles_in stage s.at hops)).1 a)

  -- a state that follows s, of the spot of c
  pub record IsAlike (s r c : State) : Type 0 where
    pub next : State
    pub follows : Follows t s next
    pub same : spot_of t.stages next ≡ spot_of t.stages c
    pub long : length next.hops + length r.hops ≡ length c.hops + length s.hops

  pub follows_alike : (s r c : State) → spot_of t.stages s ≡ spot_of t.stages r → Agree s.singles → Follows t r c → IsAlike s r c
  follows_alike s r c same own (enters stage here may hops round on) = record {
    next = enter s stage hops;
    follows = enters stage (ap (slice_get t.stages) at_stage ∙ here) (ap (may_enter stage) at_done ∙ may) hops (subst (λ v. Contains (rounds_from t stage v) hops) (sym at_vertex) round) (goes_where s stage hops agreed);
    same = λ i. record { stage = at_stage i; done = next_of stage (at_done i); at = last_vertex (at_vertex i) hops; names = named i };
    long = let a = length-append s.hops hops in let b = length-append r.hops hops in omega arith;
  }
    where
      at_stage : s.stage ≡ r.stage
      at_stage = ap (λ (x : Spot). x.stage) same

      at_done : s.done ≡ r.done
      at_done = ap (λ (x : Spot). x.done) same

      at_vertex : s.at ≡ r.at
      at_vertex = ap (λ (x : Spot). x.at) same

      at_names : needed t.stages r.stage s.singles ≡ needed t.stages r.stage r.singles
      at_names = ap (λ k. needed t.stages k s.singles) (sym at_stage) ∙ ap (λ (x : Spot). x.names) same

      agreed : Agree (s.singles ++ singles_in stage s.at hops)
      agreed = subst (λ v. Agree (s.singles ++ singles_in stage v hops)) (sym at_vertex)
          (agree_alike t.stages r.stage r.singles s.singles (singles_in stage r.at hops) (sym at_names) (λ m d. singles_needed t.stages r.stage stage here r.at hops m d) own (agrees_on r stage hops on))

      named : needed t.stages s.stage (s.singles ++ singles_in stage s.at hops) ≡ needed t.stages r.stage (r.singles ++ singles_in stage r.at hops)
      named = ap (λ k. needed t.stages k (s.singles ++ singles_in stage s.at hops)) at_stage
          ∙ ap (λ v. needed t.stages r.stage (s.singles ++ singles_in stage v hops)) at_vertex
          ∙ filter_both (λ (m : Mention). is_needed t.stages r.stage m.var) s.singles (singles_in stage r.at hops)
          ∙ ap (λ xs. xs ++ needed t.stages r.stage (singles_in stage r.at hops)) at_names
          ∙ sym (filter_both (λ (m : Mention). is_needed t.stages r.stage m.var) r.singles (singles_in stage r.at hops))
  follows_alike s r c same own (leaves stage here may) = record {
    next = leave s;
    follows = leaves stage (ap (slice_get t.stages) at_stage ∙ here) (ap (may_leave stage) (ap (λ (x : Spot). x.done) same) ∙ may);
    same = λ i. record { stage = at_stage i + 1; done = 0; at = ap (λ (x : Spot). x.at) same i; names = named i };
    long = omega arith;
  }
    where
      at_stage : s.stage ≡ r.stage
      at_stage = ap (λ (x : Spot). x.stage) same

      later : (m : Mention) → is_needed t.stages (r.stage + 1) m.var ≡ true → is_needed t.stages r.stage m.var ≡ true
      later m h = needed_before t.stages r.stage stage here m.var h

      named : needed t.stages (s.stage + 1) s.singles ≡ needed t.stages (r.stage + 1) r.singles
      named = ap (λ k. needed t.stages (k + 1) s.singles) at_stage
          ∙ sym (filter_twice (λ (m : Mention). is_needed t.stages r.stage m.var) (λ (m : Mention). is_needed t.stages (r.stage + 1) m.var) later s.singles)
          ∙ ap (λ xs. needed t.stages (r.stage + 1) xs) (ap (λ k. needed t.stages k s.singles) (sym at_stage) ∙ ap (λ (x : Spot). x.names) same)
          ∙ filter_twice (λ (m : Mention). is_needed t.stages r.stage m.var) (λ (m : Mention). is_needed t.stages (r.stage + 1) m.var) later r.singles

-- a state that follows is no shorter
pub no_shorter : (t : Task) (s c : State) → Follows t s c → length s.hops ≤ length c.hops
no_shorter t s c (enters stage here may hops round on) = let e = length-append s.hops hops in omega arith
no_shorter t s c (leaves stage here may) = omega arith
