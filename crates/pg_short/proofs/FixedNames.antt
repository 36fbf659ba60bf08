-- Where each variable is named once, or first by the first node, what is kept of what was named before a round is the same at each vertex.
use Rattle.std.proofs.Common.{◌≡◌, ◌≤◌, ◌<◌, ◌+◌, ◌==◌, ℕ, zero, suc, Bool, true, false, cond, not, ◌&&◌, List, [], ◌∷◌, ◌++◌, Contains, inl, inr, refl, arith, ap, sym, ◌∙◌, subst, append-nil}
use Rattle.std.specs.Prelude.{Option, Some, None, slice_get, filter, nat_lt, nat_le}
use Rattle.std.specs.List.{list_any}
use Rattle.std.proofs.lemmas.Bool.{ltb-true, leb-true, eqb-true}
use Rattle.pg_value.specs.declared.shape.ElemId.{ElemId}
use Rattle.pg_meaning.specs.Walks.{Hop}
use Rattle.pg_meaning.specs.Fits.{Mention, node_mention, seen_in, seen_on_legs}
use Rattle.pg_meaning.specs.Members.{in_nil, in_here, in_there}
use Rattle.pg_auto.specs.Stages.{Stage, is_of_leg, is_of_node, mentions}
use Rattle.pg_auto.specs.Counts.{cap, may_enter, may_leave, next_of}
use Rattle.pg_auto.specs.States.{Task, State, first_state, singles_in}
use Rattle.pg_auto.specs.Successors.{enter, leave}
use Rattle.pg_short.specs.Spots.{names, is_needed, needed}
use Rattle.pg_short.specs.Searches.{Follows, IsReached}
use Rattle.pg_short.specs.Searches.IsReached.{first, next}
use Rattle.pg_short.specs.Searches.Follows.{enters, leaves}
use Rattle.pg_short.specs.Costs.{NamesOnce}
use Rattle.pg_short.proofs.Lists.{filter_twice, filter_both, one_get, or_right}
use Rattle.pg_short.proofs.Named.{needed_before, named_here, on_legs}

not_both : (b : Bool) → b ≡ true → b ≡ false → ⊥
not_both b h k = let z : true ≡ false = sym h ∙ k in cc

none_step : {X : Type 0} (test : X → Bool) (x : X) (xs : List X) (b : Bool) → test x ≡ b → (test x ≡ true → ⊥) → filter test xs ≡ [] → cond b (x ∷ filter test xs) (filter test xs) ≡ []
none_step test x xs true e never r = absurd (never e)
none_step test x xs false e never r = r

none_kept : {X : Type 0} (test : X → Bool) (xs : List X) → ((x : X) → Contains xs x → test x ≡ true → ⊥) → filter test xs ≡ []
none_kept test [] never = refl
none_kept test (x ∷ xs) never = none_step test x xs (test x) refl (never x (in_here x xs x refl)) (none_kept test xs (λ y c. never y (in_there x xs y c)))

-- what the first node names, where its part stands once
abbrev first_in : List Stage → ElemId → List Mention
first_in [] v = []
first_in (stage ∷ stages) v = cond stage.grouped [] (node_mention stage.round.node v)

first_is : (stages : List Stage) (stage : Stage) (v : ElemId) → slice_get stages 0 ≡ Some stage → first_in stages v ≡ cond stage.grouped [] (node_mention stage.round.node v)
first_is [] stage v h = absurd (cc)
first_is (a ∷ stages) stage v h = let same : a ≡ stage = cc in ap (λ (z : Stage). cond z.grouped [] (node_mention z.round.node v)) same

-- what is kept before a round of a stage
abbrev kept_at : Task → ℕ → List Mention
kept_at t k = cond (k == 0) [] (needed t.stages k (first_in t.stages t.start))

kept_is : (t : Task) (k : ℕ) → (k ≡ 0 → ⊥) → kept_at t k ≡ needed t.stages k (first_in t.stages t.start)
kept_is t k behind = go (k == 0) refl
  where
    go : (b : Bool) → (k == 0) ≡ b → cond b [] (needed t.stages k (first_in t.stages t.start)) ≡ needed t.stages k (first_in t.stages t.start)
    go false h = refl
    go true h = absurd (behind (eqb-true k 0 h))

kept_later : (t : Task) (k : ℕ) → kept_at t (k + 1) ≡ needed t.stages (k + 1) (first_in t.stages t.start)
kept_later t k = kept_is t (k + 1) (λ e. absurd (omega arith))

-- parts that stand once do
pub record StandOnce (stages : List Stage) : Type 0 where
  pub low : (k : ℕ) (stage : Stage) → slice_get stages k ≡ Some stage → stage.grouped ≡ false → stage.low ≡ 1
  pub high : (k : ℕ) (stage : Stage) → slice_get stages k ≡ Some stage → stage.grouped ≡ false → stage.high ≡ Some 1

entering : (stage : Stage) (done : ℕ) → stage.high ≡ Some 1 → may_enter stage done ≡ true → done ≡ 0
entering stage done h m =
    let k : nat_lt done 1 ≡ true = ap (λ (o : Option ℕ). elim o as (λ _. Bool) [ None ↦ true | Some high ↦ nat_lt done high ]) (sym h) ∙ m in
    let l = ltb-true done 1 k in
    omega arith

cap_one : (stage : Stage) → stage.high ≡ Some 1 → cap stage ≡ 1
cap_one stage h = ap (λ (o : Option ℕ). elim o as (λ _. ℕ) [ None ↦ stage.low | Some high ↦ high ]) h

next_one : (stage : Stage) (done : ℕ) → stage.high ≡ Some 1 → done ≡ 0 → next_of stage done ≡ 1
next_one stage done h e = ap (λ c. cond (nat_lt done c) (done + 1) done) (cap_one stage h) ∙ ap (λ d. cond (nat_lt d 1) (d + 1) d) e

pub record IsNamed (t : Task) (s : State) : Type 0 where
  pub here : (stage : Stage) → slice_get t.stages s.stage ≡ Some stage → (stage.grouped ≡ false → s.done ≡ 0) → needed t.stages s.stage s.singles ≡ kept_at t s.stage
  pub behind : (stage : Stage) → slice_get t.stages s.stage ≡ Some stage → (stage.grouped ≡ false → s.done ≡ 1) → needed t.stages (s.stage + 1) s.singles ≡ kept_at t (s.stage + 1)
  pub begins : (stage : Stage) → slice_get t.stages s.stage ≡ Some stage → stage.grouped ≡ false → s.stage ≡ 0 → s.done ≡ 0 → s.at ≡ t.start

module _ (t : Task) (stand : StandOnce t.stages) (once : NamesOnce t.stages) where
  -- a later stage needs no more
  fewer : (k : ℕ) (stage : Stage) → slice_get t.stages k ≡ Some stage → (seen : List Mention) → needed t.stages (k + 1) (needed t.stages k seen) ≡ needed t.stages (k + 1) seen
  fewer k stage here seen = filter_twice (λ (m : Mention). is_needed t.stages k m.var) (λ (m : Mention). is_needed t.stages (k + 1) m.var) (λ m h. needed_before t.stages k stage here m.var h) seen

  named_first : IsNamed t (first_state t.start)
  named_first = record {
    here = λ stage at once. refl;
    behind = λ stage at one. go stage at stage.grouped refl one;
    begins = λ stage at g z d. refl;
  }
    where
      go : (stage : Stage) → slice_get t.stages 0 ≡ Some stage → (g : Bool) → stage.grouped ≡ g → (stage.grouped ≡ false → ◌≡◌ {A = ℕ} 0 1) → [] ≡ needed t.stages 1 (first_in t.stages t.start)
      go stage at true e one = sym (ap (needed t.stages 1) (first_is t.stages stage t.start at ∙ ap (λ b. cond b [] (node_mention stage.round.node t.start)) e))
      go stage at false e one = absurd (let z = one e in omega arith)

  -- what a round names is not needed behind its stage, but for the first node
  gone : (k : ℕ) (stage : Stage) → slice_get t.stages k ≡ Some stage → (k ≡ 0 → ⊥) → (v : ElemId) (hops : List Hop) → needed t.stages (k + 1) (singles_in stage v hops) ≡ []
  gone k stage at later_on v hops = none_kept (λ (m : Mention). is_needed t.stages (k + 1) m.var) (singles_in stage v hops)
      (λ m c h. later_on (once k m.var stage at (named_here stage v hops m c) h).0)

  first_gone : (stage : Stage) → slice_get t.stages 0 ≡ Some stage → stage.grouped ≡ false → (v : ElemId) (hops : List Hop) → needed t.stages 1 (singles_in stage v hops) ≡ needed t.stages 1 (node_mention stage.round.node v)
  first_gone stage at g v hops =
      ap (λ b. needed t.stages 1 (cond b [] (seen_in stage.round v hops))) g
      ∙ filter_both (λ (m : Mention). is_needed t.stages 1 m.var) (node_mention stage.round.node v) (seen_on_legs stage.round.legs hops)
      ∙ ap (λ (ms : List Mention). needed t.stages 1 (node_mention stage.round.node v) ++ ms) (none_kept (λ (m : Mention). is_needed t.stages 1 m.var) (seen_on_legs stage.round.legs hops) (λ m c h.
      let there = on_legs stage.round.legs hops m c in
      not_both (list_any (is_of_leg m.var) stage.round.legs) there (once 0 m.var stage at (on_its_legs m there) h).1))
      ∙ append-nil (needed t.stages 1 (node_mention stage.round.node v))
    where
      on_its_legs : (m : Mention) → list_any (is_of_leg m.var) stage.round.legs ≡ true → names m.var stage ≡ true
      on_its_legs m h = ap (λ b. not b && mentions m.var stage.round) g ∙ or_right (is_of_node m.var stage.round.node) (list_any (is_of_leg m.var) stage.round.legs) h

  -- a round of a part that stands once
  behind_first : (s : State) (stage : Stage) (hops : List Hop) → slice_get t.stages s.stage ≡ Some stage → stage.grouped ≡ false → s.done ≡ 0 → IsNamed t s → (k : ℕ) → s.stage ≡ k
      → needed t.stages (k + 1) (s.singles ++ singles_in stage s.at hops) ≡ kept_at t (k + 1)
  behind_first s stage hops at g d n k e =
      let at_k : slice_get t.stages k ≡ Some stage = ap (slice_get t.stages) (sym e) ∙ at in
      let own : needed t.stages k s.singles ≡ kept_at t k = ap (λ j. needed t.stages j s.singles) (sym e) ∙ n.here stage at (λ z. d) ∙ ap (kept_at t) e in
      filter_both (λ (m : Mention). is_needed t.stages (k + 1) m.var) s.singles (singles_in stage s.at hops)
      ∙ ap (λ (ms : List Mention). ms ++ needed t.stages (k + 1) (singles_in stage s.at hops)) (sym (fewer k stage at_k s.singles) ∙ ap (needed t.stages (k + 1)) own)
      ∙ go k e at_k
    where
      go : (k : ℕ) → s.stage ≡ k → slice_get t.stages k ≡ Some stage → needed t.stages (k + 1) (kept_at t k) ++ needed t.stages (k + 1) (singles_in stage s.at hops) ≡ kept_at t (k + 1)
      go zero e at_k = first_gone stage at_k g s.at hops
          ∙ ap (λ v. needed t.stages 1 (node_mention stage.round.node v)) (n.begins stage at g e d)
          ∙ sym (ap (needed t.stages 1) (first_is t.stages stage t.start at_k ∙ ap (λ b. cond b [] (node_mention stage.round.node t.start)) g))
      go (suc k) e at_k = ap (λ (ms : List Mention). needed t.stages (suc k + 1) (kept_at t (suc k)) ++ ms) (gone (suc k) stage at_k (λ z. absurd (omega arith)) s.at hops)
          ∙ append-nil (needed t.stages (suc k + 1) (kept_at t (suc k)))
          ∙ ap (needed t.stages (suc k + 1)) (kept_is t (suc k) (λ z. absurd (omega arith)))
          ∙ fewer (suc k) stage at_k (first_in t.stages t.start)
          ∙ sym (kept_later t (suc k))

  same_singles : (s : State) (stage : Stage) (hops : List Hop) → stage.grouped ≡ true → s.singles ++ singles_in stage s.at hops ≡ s.singles
  same_singles s stage hops g = ap (λ b. s.singles ++ cond b [] (seen_in stage.round s.at hops)) g ∙ append-nil s.singles

  named_entered : (s : State) (stage : Stage) → slice_get t.stages s.stage ≡ Some stage → may_enter stage s.done ≡ true → (hops : List Hop) → IsNamed t s
      → (c : State) → c.stage ≡ s.stage → c.done ≡ next_of stage s.done → c.singles ≡ s.singles ++ singles_in stage s.at hops → (g : Bool) → stage.grouped ≡ g → IsNamed t c
  named_entered s stage at may hops n c es ed en true g = record {
    here = λ other o once. ap (λ (ms : List Mention). needed t.stages c.stage ms) (en ∙ same_singles s stage hops g) ∙ ap (λ k. needed t.stages k s.singles) es ∙ n.here stage at (λ f. absurd (not_both stage.grouped g f)) ∙ ap (kept_at t) (sym es);
    behind = λ other o one. ap (λ (ms : List Mention). needed t.stages (c.stage + 1) ms) (en ∙ same_singles s stage hops g) ∙ ap (λ k. needed t.stages (k + 1) s.singles) es ∙ n.behind stage at (λ f. absurd (not_both stage.grouped g f)) ∙ ap (λ k. kept_at t (k + 1)) (sym es);
    begins = λ other o f z d. absurd (not_both stage.grouped g (ap (λ (x : Stage). x.grouped) (one_get (slice_get t.stages s.stage) stage other at (ap (slice_get t.stages) (sym es) ∙ o)) ∙ f));
  }
  named_entered s stage at may hops n c es ed en false g =
      let d = entering stage s.done (stand.high s.stage stage at g) may in
      let one : c.done ≡ 1 = ed ∙ next_one stage s.done (stand.high s.stage stage at g) d in
      let plain : (other : Stage) → slice_get t.stages c.stage ≡ Some other → other.grouped ≡ false = λ other o. ap (λ (x : Stage). x.grouped) (sym (one_get (slice_get t.stages s.stage) stage other at (ap (slice_get t.stages) (sym es) ∙ o))) ∙ g in
      record {
        here = λ other o once'. absurd (let z = once' (plain other o) in omega arith);
        behind = λ other o one'. ap (λ (ms : List Mention). needed t.stages (c.stage + 1) ms) en ∙ ap (λ k. needed t.stages (k + 1) (s.singles ++ singles_in stage s.at hops)) es ∙ behind_first s stage hops at g d n s.stage refl ∙ ap (λ k. kept_at t (k + 1)) (sym es);
        begins = λ other o f z e. absurd (omega arith);
      }

  done_one : (stage : Stage) (done : ℕ) → stage.low ≡ 1 → stage.high ≡ Some 1 → may_leave stage done ≡ true → done ≤ cap stage → done ≡ 1
  done_one stage done l h m c =
      let a = leb-true stage.low done m in
      let b = cap_one stage h in
      omega arith

  named_left : (s : State) (stage : Stage) → slice_get t.stages s.stage ≡ Some stage → may_leave stage s.done ≡ true → s.done ≤ cap stage → IsNamed t s
      → IsNamed t (leave s)
  named_left s stage at may most n =
      let own : needed t.stages (s.stage + 1) s.singles ≡ kept_at t (s.stage + 1) = n.behind stage at (λ g. done_one stage s.done (stand.low s.stage stage at g) (stand.high s.stage stage at g) may most) in
      record {
        here = λ other o once'. own;
        behind = λ other o one. go other o other.grouped refl own one;
        begins = λ other o f z d. absurd (omega arith);
      }
    where
      go : (other : Stage) → slice_get t.stages (s.stage + 1) ≡ Some other → (g : Bool) → other.grouped ≡ g → needed t.stages (s.stage + 1) s.singles ≡ kept_at t (s.stage + 1) → (other.grouped ≡ false → ◌≡◌ {A = ℕ} 0 1)
          → needed t.stages (s.stage + 1 + 1) s.singles ≡ kept_at t (s.stage + 1 + 1)
      go other o true e own one = sym (fewer (s.stage + 1) other o s.singles) ∙ ap (needed t.stages (s.stage + 1 + 1)) (own ∙ kept_later t s.stage) ∙ fewer (s.stage + 1) other o (first_in t.stages t.start) ∙ sym (kept_later t (s.stage + 1))
      go other o false e own one = absurd (let z = one e in omega arith)

  module _ (capped : (s : State) → IsReached t s → (stage : Stage) → slice_get t.stages s.stage ≡ Some stage → s.done ≤ cap stage) where
    named_next : (s c : State) → IsReached t s → IsNamed t s → Follows t s c → IsNamed t c
    named_next s c r n (enters stage here may hops round on) = named_entered s stage here may hops n (enter s stage hops) refl refl refl stage.grouped refl
    named_next s c r n (leaves stage here may) = named_left s stage here may (capped s r stage here) n

    pub named : (s : State) → IsReached t s → IsNamed t s
    named s first = named_first
    named s (next r h c f) = named_next r c h (named r h) f

    -- before a round the same is kept in a stage, whatever the vertex
    pub same_names : (s r : State) → IsReached t s → IsReached t r → s.stage ≡ r.stage → (stage : Stage) → slice_get t.stages s.stage ≡ Some stage → may_enter stage s.done ≡ true → may_enter stage r.done ≡ true
        → needed t.stages s.stage s.singles ≡ needed t.stages r.stage r.singles
    same_names s r a b e stage at may may' =
        (named s a).here stage at (λ g. entering stage s.done (stand.high s.stage stage at g) may) ∙ ap (kept_at t) e
        ∙ sym ((named r b).here stage at' (λ g. entering stage r.done (stand.high r.stage stage at' g) may'))
      where
        at' : slice_get t.stages r.stage ≡ Some stage
        at' = ap (slice_get t.stages) (sym e) ∙ at
