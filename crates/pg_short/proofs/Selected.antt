-- Where each spot that a walk comes to is visited at its least length, the bindings of the visited states behind the last stage are what ANY and
-- ANY SHORTEST keep of the bindings that are allowed from the start.
use Rattle.std.proofs.Common.{◌≡◌, ◌≤◌, ℕ, zero, suc, true, false, List, [], ◌∷◌, length, drop, map, Contains, refl, arith, ap, sym, ◌∙◌, subst}
use Rattle.std.specs.Prelude.{None, slice_get, filter}
use Rattle.std.proofs.lemmas.Bool.{leb-true, le-leb}
use Rattle.pg_value.specs.declared.shape.ElemId.{ElemId}
use Rattle.pg_value.specs.declared.shape.Shapes.{Shapes}
use Rattle.pg_value.specs.Graph.{vertices}
use Rattle.pg_value.specs.Tables.{Tables, IsInOrder}
use Rattle.pg_ast.specs.declared.pattern.Selector.TheVariants.{AnyShortest}
use Rattle.pg_meaning.specs.declared.checked.CheckedPath.{CheckedPath}
use Rattle.pg_meaning.specs.Walks.{last_vertex}
use Rattle.pg_meaning.specs.Fits.{Mention}
use Rattle.pg_meaning.specs.Bindings.{Binding, Distinct, SamePair, IsShortest, IsSelected}
use Rattle.pg_meaning.specs.Members.{in_nil, in_here, in_there, in_map, from_map, in_filter, same_item, distinct_filter}
use Rattle.pg_meaning.specs.Outlines.{is_walk}
use Rattle.pg_meaning.specs.Sound.Patterns.{IsSoundPath}
use Rattle.pg_auto.specs.Stages.{Stage}
use Rattle.pg_auto.specs.States.{Task, State, Completes, first_state, walked, binding_of}
use Rattle.pg_auto.specs.Allowed.{StartStands, task_of}
use Rattle.pg_auto.specs.Tests.{TestsTell}
use Rattle.pg_auto.specs.Steps.{StepsOn, StepsEnd, IsSoundTask}
use Rattle.pg_short.specs.Selections.{IsAllowedFrom}
use Rattle.std.specs.List.{list_any}
use Rattle.pg_short.specs.Spots.{Spot, spot_of, needed, names}
use Rattle.pg_short.specs.Walks.{is_end, bindings_in}
use Rattle.pg_short.proofs.Lists.{kept, none_from, beyond}
use Rattle.pg_short.proofs.Follows.{all_permitted}
use Rattle.pg_short.specs.Searches.{IsReached, Searches}
use Rattle.pg_short.proofs.Reached.{Stands, stands, leads, have_legs, walk_ends}
use Rattle.pg_short.proofs.Layers.{all_covered}

-- the laws of the automaton that a search rests on
pub record Laws : Type 0 where
  pub tells : TestsTell
  pub stands : StartStands
  pub on : StepsOn
  pub end : StepsEnd

distinct_images : {X Y Z : Type 0} (f : X → Y) (g : X → Z) (xs : List X) → ((x y : X) → Contains xs x → Contains xs y → f x ≡ f y → g x ≡ g y) → Distinct (map g xs) → Distinct (map f xs)
distinct_images f g [] h d = tt
distinct_images f g (x ∷ xs) h d = (
  λ c. let m = from_map f xs (f x) c in d.0 (subst (λ z. Contains (map g xs) z) (h m.0 x (in_there x xs m.0 m.1) (in_here x xs x refl) m.2) (in_map g xs m.0 m.1)),
  distinct_images f g xs (λ y z c e. h y z (in_there x xs y c) (in_there x xs z e)) d.1,
)

module _ (laws : Laws) (shapes : Shapes) (tables : Tables) (path : CheckedPath) (start : ElemId) (sound : IsSoundPath shapes path) (order : IsInOrder tables) (walk : is_walk path.mode ≡ true)
    (vertex : Contains (vertices path.graph tables) start) (all : List State) (v : Searches (task_of shapes tables path start) all []) where
  abbrev pub task : Task
  task = task_of shapes tables path start

  abbrev pub spot : State → Spot
  spot s = spot_of task.stages s

  abbrev pub binding : State → Binding
  binding s = binding_of start path.vars (walked s)

  abbrev ends : List State
  ends = filter (is_end task.stages) all

  pub sound_task : IsSoundTask task
  sound_task = record { graph = sound.graph; tables = order }

  pub past : (s : State) → is_end task.stages s ≡ true → slice_get task.stages s.stage ≡ None
  past s h = none_from task.stages s.stage (leb-true (length task.stages) s.stage h)

  pub stands_at : (s : State) → IsReached task s → Stands task s
  stands_at s r = stands laws.tells task walk s r

  -- states behind the last stage that end at one vertex are of one spot
  no_names : (s : State) → length task.stages ≤ s.stage → needed task.stages s.stage s.singles ≡ []
  no_names s l = ap (λ (ss : List Stage). filter (λ (m : Mention). list_any (names m.var) ss) s.singles) (none_dropped task.stages s.stage l) ∙ nothing s.singles
    where
      none_dropped : (xs : List Stage) (k : ℕ) → length xs ≤ k → drop k xs ≡ []
      none_dropped [] zero l = refl
      none_dropped [] (suc k) l = refl
      none_dropped (x ∷ xs) zero l = absurd (omega arith)
      none_dropped (x ∷ xs) (suc k) l = none_dropped xs k (omega arith)

      nothing : (xs : List Mention) → filter (λ (m : Mention). false) xs ≡ []
      nothing [] = refl
      nothing (x ∷ xs) = nothing xs

  pub one_spot : (s r : State) → IsReached task s → IsReached task r → slice_get task.stages s.stage ≡ None → slice_get task.stages r.stage ≡ None
      → last_vertex start s.hops ≡ last_vertex start r.hops → spot s ≡ spot r
  one_spot s r h k e f same =
      let a = stands_at s h in
      let b = stands_at r k in
      let l = beyond task.stages s.stage e in
      let m = beyond task.stages r.stage f in
      let at_stage : s.stage ≡ r.stage = (let p = a.within in let q = b.within in omega arith) in
      let done : s.done ≡ r.done = a.ended e ∙ sym (b.ended f) in
      let at = a.at ∙ same ∙ sym b.at in
      let names : needed task.stages s.stage s.singles ≡ needed task.stages r.stage r.singles = no_names s l ∙ sym (no_names r m) in
      λ i. record { stage = at_stage i; done = done i; at = at i; names = names i }

  -- what is found at a state that is visited behind the last stage
  pub record IsFound (b : Binding) : Type 0 where
    pub state : State
    pub there : Contains all state
    pub is_last : is_end task.stages state ≡ true
    pub binding : binding state ≡ b

  found_of : (b : Binding) → Contains (bindings_in task path.vars all) b → IsFound b
  found_of b c =
      let m = from_map binding ends b c in
      let k = in_filter (is_end task.stages) all m.0 m.1 in
      record { state = m.0; there = k.0; is_last = k.1; binding = m.2 }

  of_found : (s : State) → Contains all s → is_end task.stages s ≡ true → Contains (bindings_in task path.vars all) (binding s)
  of_found s c e = in_map binding ends s (kept (is_end task.stages) all s c e)

  pub ended_for : (b : Binding) → IsAllowedFrom shapes tables path start b → (e : State) × IsReached task e × (slice_get task.stages e.stage ≡ None) × (b ≡ binding e)
  ended_for b a =
      let w = (laws.stands shapes tables path start vertex b).0 a in
      let e = walk_ends laws.on laws.end task sound_task (have_legs shapes path sound) w.walk w.completes in
      (e.state, e.reached, e.is_end, w.binding ∙ ap (binding_of start path.vars) e.walk)

  -- the walk of a state behind the last stage completes the first state, and its binding is allowed
  pub completes_end : (s : State) → IsReached task s → is_end task.stages s ≡ true → Completes task (first_state start) (walked s)
  completes_end s r e =
      let k = (laws.end task s (past s e) (walked s)).1 (record { permitted = all_permitted path.mode start s.hops walk; agree = (stands_at s r).agree }, refl) in
      leads laws.on task sound_task s (walked s) r k

  pub allowed_end : (s : State) → IsReached task s → is_end task.stages s ≡ true → IsAllowedFrom shapes tables path start (binding s)
  allowed_end s r e = (laws.stands shapes tables path start vertex (binding s)).1 (record { walk = walked s; completes = completes_end s r e; binding = refl })

  pub gives : (b : Binding) → Contains (bindings_in task path.vars all) b → IsAllowedFrom shapes tables path start b
  gives b c =
      let f = found_of b c in
      subst (IsAllowedFrom shapes tables path start) f.binding (allowed_end f.state (v.reached f.state f.there) f.is_last)

  pub same_ends : (b c : Binding) (s r : State) → b ≡ binding s → c ≡ binding r → SamePair b c → last_vertex start s.hops ≡ last_vertex start r.hops
  same_ends b c s r e f p = ap (λ (x : Binding). last_vertex x.start x.hops) (sym e) ∙ p.1 ∙ ap (λ (x : Binding). last_vertex x.start x.hops) f

  distinct : Distinct (bindings_in task path.vars all)
  distinct = distinct_images binding spot ends (λ s r c d e.
      let k = in_filter (is_end task.stages) all s c in
      let m = in_filter (is_end task.stages) all r d in
      one_spot s r (v.reached s k.0) (v.reached r m.0) (past s k.1) (past r m.1) (ap (λ (x : Binding). last_vertex x.start x.hops) e))
      (distinct_filter spot (is_end task.stages) all v.apart)

  some_of : (b : Binding) → IsAllowedFrom shapes tables path start b → (c : Binding) × Contains (bindings_in task path.vars all) c × SamePair b c
  some_of b a =
      let e = ended_for b a in
      let k = all_covered laws.tells task walk all v e.0 e.1 in
      let l = beyond task.stages e.0.stage e.2 in
      let same_stage = ap (λ (x : Spot). x.stage) k.same in
      let at_by = (stands_at k.by (v.reached k.by k.there)).at in
      let at_end = (stands_at e.0 e.1).at in (
        binding k.by,
        of_found k.by k.there (le-leb (length task.stages) k.by.stage (omega arith)),
        (
          ap (λ (x : Binding). x.start) e.3,
          ap (λ (x : Binding). last_vertex x.start x.hops) e.3 ∙ sym at_end ∙ sym (ap (λ (x : Spot). x.at) k.same) ∙ at_by,
        ),
      )

  one_of : (b c : Binding) → Contains (bindings_in task path.vars all) b → Contains (bindings_in task path.vars all) c → SamePair b c → b ≡ c
  one_of b c i j p =
      let f = found_of b i in
      let g = found_of c j in
      let q = one_spot f.state g.state (v.reached f.state f.there) (v.reached g.state g.there) (past f.state f.is_last) (past g.state g.is_last) (same_ends b c f.state g.state (sym f.binding) (sym g.binding) p) in
      sym f.binding ∙ ap binding (same_item spot all f.state g.state v.apart f.there g.there q) ∙ g.binding

  shortest_of : (b : Binding) → Contains (bindings_in task path.vars all) b → IsShortest (IsAllowedFrom shapes tables path start) b
  shortest_of b i c a p =
      let f = found_of b i in
      let e = ended_for c a in
      let q = one_spot f.state e.0 (v.reached f.state f.there) e.1 (past f.state f.is_last) e.2 (same_ends b c f.state e.0 (sym f.binding) e.3 p) in
      let l = v.least f.state e.0 f.there e.1 q in
      let m = ap (λ (x : Binding). length x.hops) f.binding in
      let n = ap (λ (x : Binding). length x.hops) e.3 in
      omega arith

  pub shortest_selected : IsSelected AnyShortest (IsAllowedFrom shapes tables path start) (bindings_in task path.vars all)
  shortest_selected = record { distinct = distinct; allowed = gives; complete = (record { some = some_of; once = one_of }, shortest_of) }

-- from what is no vertex nothing is allowed
module _ (shapes : Shapes) (tables : Tables) (path : CheckedPath) (start : ElemId) (none : Contains (vertices path.graph tables) start → ⊥) where
  never : (b : Binding) → IsAllowedFrom shapes tables path start b → ⊥
  never b a = none (subst (λ x. Contains (vertices path.graph tables) x) a.1 a.0.binding.start)

  pub shortest_none : IsSelected AnyShortest (IsAllowedFrom shapes tables path start) []
  shortest_none = record { distinct = tt; allowed = λ b c. absurd (in_nil b c); complete = (record { some = λ b a. absurd (never b a); once = λ b c d e p. absurd (in_nil b d) }, λ b c. absurd (in_nil b c)) }
