-- The bindings of the least walks, each once, are what ALL SHORTEST keeps.
use Rattle.std.proofs.Common.{◌≡◌, ◌≤◌, ◌==◌, ℕ, Bool, true, false, cond, List, [], ◌∷◌, ◌++◌, length, map, Contains, inl, inr, refl, arith, ap, sym, ◌∙◌, subst, eq-eqb}
use Rattle.std.specs.Prelude.{None, filter, flat_map, slice_get}
use Rattle.std.proofs.lemmas.Bool.{le-leb, eqb-true}
use Rattle.pg_value.specs.declared.shape.ElemId.{ElemId}
use Rattle.pg_value.specs.declared.shape.Shapes.{Shapes}
use Rattle.pg_value.specs.Graph.{vertices}
use Rattle.pg_value.specs.Tables.{Tables, IsInOrder}
use Rattle.pg_ast.specs.declared.pattern.Selector.TheVariants.{AllShortest}
use Rattle.pg_meaning.specs.declared.checked.CheckedPath.{CheckedPath}
use Rattle.pg_meaning.specs.declared.checked.PathBinding.{PathBinding}
use Rattle.pg_meaning.specs.Walks.{last_vertex}
use Rattle.pg_meaning.specs.Bindings.{Binding, Distinct, SamePair, IsShortest, IsSelected, path_binding}
use Rattle.pg_meaning.specs.Members.{in_nil, in_here, in_there, in_map, from_map, in_filter}
use Rattle.pg_meaning.specs.Outlines.{is_walk}
use Rattle.pg_meaning.specs.Sound.Patterns.{IsSoundPath}
use Rattle.pg_auto.specs.Stages.{Pattern, pattern_of}
use Rattle.pg_auto.specs.States.{Task, State, Walked, Completes, first_state, walked, binding_of}
use Rattle.pg_auto.specs.Allowed.{task_of}
use Rattle.pg_auto.specs.Once.{WalksByBindings}
use Rattle.pg_short.specs.Selections.{IsAllowedFrom, AreSelected}
use Rattle.pg_short.specs.Spots.{Spot, spot_of}
use Rattle.pg_short.specs.Steps.{Step}
use Rattle.pg_short.specs.Searches.{IsReached, first_step, visited}
use Rattle.pg_short.specs.Found.{task_over, IsSearched, steps_in}
use Rattle.pg_short.specs.declared.search.Search.{Search}
use Rattle.pg_short.specs.Walks.{is_end}
use Rattle.pg_short.specs.Rests.{Rest, whole_at, AreWhole}
use Rattle.pg_short.proofs.Lists.{kept, one_get, beyond}
use Rattle.pg_short.proofs.Selected.{Laws, past, one_spot, ended_for, completes_end, allowed_end, same_ends}
use Rattle.pg_short.proofs.Reached.{stands}
use Rattle.pg_short.proofs.Ended.{same_task}
use Rattle.pg_short.proofs.BackOver.{IsLeast, IsLeastEnd, none_missed, least_walk}

-- the walks of a list of rests at a place
abbrev pub walks_at : ℕ → List Rest → List Walked
walks_at p rests = map (λ (r : Rest). r.1) (filter (λ (r : Rest). r.0 == p) rests)

-- items that differ have images that differ
pub distinct_on : {X Y : Type 0} (f : X → Y) (xs : List X) → ((x y : X) → Contains xs x → Contains xs y → f x ≡ f y → x ≡ y) → Distinct xs → Distinct (map f xs)
distinct_on f [] h d = tt
distinct_on f (x ∷ xs) h d = (
  λ c. let m = from_map f xs (f x) c in d.0 (subst (λ z. Contains xs z) (h m.0 x (in_there x xs m.0 m.1) (in_here x xs x refl) m.2) m.1),
  distinct_on f xs (λ y z c e. h y z (in_there x xs y c) (in_there x xs z e)) d.1,
)

distinct_kept : {X : Type 0} (test : X → Bool) (xs : List X) → Distinct xs → Distinct (filter test xs)
distinct_kept test [] d = tt
distinct_kept test (x ∷ xs) d = go (test x) (distinct_kept test xs d.1)
  where
    go : (b : Bool) → Distinct (filter test xs) → Distinct (cond b (x ∷ filter test xs) (filter test xs))
    go true r = (λ c. d.0 (in_filter test xs x c).0, r)
    go false r = r

distinct_walks : (p : ℕ) (rests : List Rest) → Distinct rests → Distinct (walks_at p rests)
distinct_walks p rests d = distinct_on (λ (r : Rest). r.1) (filter (λ (r : Rest). r.0 == p) rests) (λ x y c e same.
    let a = eqb-true x.0 p (in_filter (λ (r : Rest). r.0 == p) rests x c).1 in
    let b = eqb-true y.0 p (in_filter (λ (r : Rest). r.0 == p) rests y e).1 in
    let q = a ∙ sym b in
    λ i. (q i, same i)) (distinct_kept (λ (r : Rest). r.0 == p) rests d)

walk_in : (p : ℕ) (rests : List Rest) (w : Walked) → Contains rests (p, w) → Contains (walks_at p rests) w
walk_in p rests w c = in_map (λ (r : Rest). r.1) (filter (λ (r : Rest). r.0 == p) rests) (p, w) (kept (λ (r : Rest). r.0 == p) rests (p, w) c (eq-eqb p p refl))

in_walks : (p : ℕ) (rests : List Rest) (w : Walked) → Contains (walks_at p rests) w → Contains rests (p, w)
in_walks p rests w c =
    let m = from_map (λ (r : Rest). r.1) (filter (λ (r : Rest). r.0 == p) rests) w c in
    let k = in_filter (λ (r : Rest). r.0 == p) rests m.0 m.1 in
    let at = eqb-true m.0.0 p k.1 in
    let is = m.2 in
    subst (Contains rests) (λ i. (at i, is i)) k.0

whole_are : (start : ElemId) (vars : List ℕ) (p : ℕ) (rests : List Rest) → flat_map (whole_at start vars p) rests ≡ map path_binding (map (binding_of start vars) (walks_at p rests))
whole_are start vars p [] = refl
whole_are start vars p (r ∷ rests) = go (r.0 == p) (whole_are start vars p rests)
  where
    rest : List Rest
    rest = filter (λ (x : Rest). x.0 == p) rests

    go : (b : Bool) → flat_map (whole_at start vars p) rests ≡ map path_binding (map (binding_of start vars) (walks_at p rests))
        → cond b (path_binding (binding_of start vars r.1) ∷ []) [] ++ flat_map (whole_at start vars p) rests ≡ map path_binding (map (binding_of start vars) (map (λ (x : Rest). x.1) (cond b (r ∷ rest) rest)))
    go true h = ap (λ (bs : List PathBinding). path_binding (binding_of start vars r.1) ∷ bs) h
    go false h = h

module _ (laws : Laws) (apart : WalksByBindings) (shapes : Shapes) (tables : Tables) (path : CheckedPath) (start : ElemId) (sound : IsSoundPath shapes path) (order : IsInOrder tables) (walk : is_walk path.mode ≡ true)
    (vertex : Contains (vertices path.graph tables) start) (s : Search) (v : IsSearched (task_of shapes tables path start) s) where
  abbrev task : Task
  task = task_of shapes tables path start

  abbrev all : List State
  all = visited task (steps_in s) s.order.items

  abbrev binding : Walked → Binding
  binding w = binding_of start path.vars w

  module _ (ws : List Walked) (exactly : (w : Walked) → Contains ws w → IsLeastEnd task w) (whole : (w : Walked) → IsLeastEnd task w → Contains ws w) (once : Distinct ws) where
    selected_distinct : Distinct (map binding ws)
    selected_distinct = distinct_on binding ws (λ w u c d e.
        let x = exactly w c in
        let y = exactly u d in
        apart shapes tables path start sound w u
        (subst (λ z. Completes task (first_state start) z) x.walk (completes_end laws shapes tables path start sound order walk vertex all v.search.searches x.state x.reached x.is_last))
        (subst (λ z. Completes task (first_state start) z) y.walk (completes_end laws shapes tables path start sound order walk vertex all v.search.searches y.state y.reached y.is_last)) e) once

    selected_allowed : (b : Binding) → Contains (map binding ws) b → IsAllowedFrom shapes tables path start b
    selected_allowed b c =
        let m = from_map binding ws b c in
        let x = exactly m.0 m.1 in
        subst (IsAllowedFrom shapes tables path start) (ap binding x.walk ∙ m.2) (allowed_end laws shapes tables path start sound order walk vertex all v.search.searches x.state x.reached x.is_last)

    is_last_of : (r : State) → slice_get task.stages r.stage ≡ None → is_end task.stages r ≡ true
    is_last_of r e = le-leb (length task.stages) r.stage (beyond task.stages r.stage e)

    selected_shortest : (b : Binding) → Contains (map binding ws) b → IsShortest (IsAllowedFrom shapes tables path start) b
    selected_shortest b i c a p =
        let m = from_map binding ws b i in
        let x = exactly m.0 m.1 in
        let is = ap binding x.walk ∙ m.2 in
        let e = ended_for laws shapes tables path start sound order walk vertex all v.search.searches c a in
        let past_x = past laws shapes tables path start sound order walk vertex all v.search.searches x.state x.is_last in
        let q = one_spot laws shapes tables path start sound order walk vertex all v.search.searches x.state e.0 x.reached e.1 past_x e.2
        (same_ends laws shapes tables path start sound order walk vertex all v.search.searches b c x.state e.0 (sym is) e.3 p) in
        let l = x.least e.0 e.1 q in
        let k = ap (λ (y : Binding). length y.hops) is in
        let n = ap (λ (y : Binding). length y.hops) e.3 in
        omega arith

    shortest_kept : (b : Binding) → IsAllowedFrom shapes tables path start b → IsShortest (IsAllowedFrom shapes tables path start) b → Contains (map binding ws) b
    shortest_kept b a short =
        let e = ended_for laws shapes tables path start sound order walk vertex all v.search.searches b a in
        let last = is_last_of e.0 e.2 in
        let least : IsLeast task e.0 = λ r h q.
        let at_stage = ap (λ (x : Spot). x.stage) q in
        let beyond_e = beyond task.stages e.0.stage e.2 in
        let last_r : is_end task.stages r ≡ true = le-leb (length task.stages) r.stage (omega arith) in
        let st_e = stands laws.tells task walk e.0 e.1 in
        let st_r = stands laws.tells task walk r h in
        let same_vertex = sym st_e.at ∙ ap (λ (x : Spot). x.at) q ∙ st_r.at in
        let l = short (binding (walked r)) (allowed_end laws shapes tables path start sound order walk vertex all v.search.searches r h last_r)
        (ap (λ (x : Binding). x.start) e.3, ap (λ (x : Binding). last_vertex x.start x.hops) e.3 ∙ same_vertex) in
        let n = ap (λ (y : Binding). length y.hops) e.3 in
        omega arith in
        subst (Contains (map binding ws)) (sym e.3) (in_map binding ws (walked e.0) (whole (walked e.0) (record { state = e.0; reached = e.1; is_last = last; walk = refl; least = least })))

    pub all_selected : IsSelected AllShortest (IsAllowedFrom shapes tables path start) (map binding ws)
    all_selected = record { distinct = selected_distinct; allowed = selected_allowed; complete = λ b a. (selected_shortest b, shortest_kept b a) }

  pub whole_selected : (given : List PathBinding) → AreWhole task.stages start path.vars (steps_in s) s.order.items given → AreSelected AllShortest shapes tables path start given
  whole_selected given g =
      let ws = walks_at g.place g.rests in
      let begins = one_get (slice_get (steps_in s) 0) g.first (first_step start) g.begins v.made.first in
      let spot : g.least.spot ≡ spot_of task.stages (first_state start) = g.spot ∙ ap (λ (x : Step). x.spot) begins in
      record {
        kept = map binding ws;
        selected = all_selected ws
            (λ w c. least_walk laws.tells task walk s v g.place g.least g.here spot w (g.led.led (g.place, w) (in_walks g.place g.rests w c)))
            (λ w x. walk_in g.place g.rests w (none_missed laws.tells task walk s v g.rests g.led g.place g.least g.here spot w x))
            (distinct_walks g.place g.rests g.distinct);
        given = g.given ∙ whole_are start path.vars g.place g.rests;
      }

-- the same of the automaton's own task
pub walked_all : (laws : Laws) → WalksByBindings → (shapes : Shapes) (tables : Tables) (path : CheckedPath) (start : ElemId) → IsSoundPath shapes path → IsInOrder tables → is_walk path.mode ≡ true
    → Contains (vertices path.graph tables) start → (p : Pattern) → p ≡ pattern_of path → (s : Search) → IsSearched (task_over shapes tables p start) s
    → (given : List PathBinding) → AreWhole p.stages start path.vars (steps_in s) s.order.items given → AreSelected AllShortest shapes tables path start given
walked_all laws apart shapes tables path start sound order walk vertex p e s v given whole =
    subst (λ (t : Task). IsSearched t s → AreWhole t.stages start path.vars (steps_in s) s.order.items given → AreSelected AllShortest shapes tables path start given)
    (sym (same_task shapes tables path start p e walk)) (λ x. whole_selected laws apart shapes tables path start sound order walk vertex s x given) v whole

-- from what is no vertex nothing is kept
pub none_all : (shapes : Shapes) (tables : Tables) (path : CheckedPath) (start : ElemId) → (Contains (vertices path.graph tables) start → ⊥) → (found : List PathBinding) → found ≡ [] → AreSelected AllShortest shapes tables path start found
none_all shapes tables path start none found e = record {
  kept = [];
  selected = record {
    distinct = tt;
    allowed = λ b c. absurd (in_nil b c);
    complete = λ b a. absurd (none (subst (λ x. Contains (vertices path.graph tables) x) a.1 a.0.binding.start));
  };
  given = e;
}
