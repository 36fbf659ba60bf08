-- Where a search has ended, the bindings of the walks to its steps behind the last stage are what ANY SHORTEST keeps, and what ANY keeps.
use Rattle.std.proofs.Common.{◌≡◌, ◌<◌, ℕ, Bool, true, false, cond, List, [], ◌∷◌, ◌++◌, length, map, Contains, refl, arith, ap, sym, subst}
use Rattle.std.specs.Prelude.{flat_map, filter}
use Rattle.std.proofs.lemmas.List.{length-map}
use Rattle.pg_value.specs.declared.shape.ElemId.{ElemId}
use Rattle.pg_value.specs.declared.shape.Shapes.{Shapes}
use Rattle.pg_value.specs.Graph.{vertices}
use Rattle.pg_value.specs.Tables.{Tables, IsInOrder}
use Rattle.pg_ast.specs.declared.pattern.Mode.{Mode}
use Rattle.pg_ast.specs.declared.pattern.Mode.TheVariants.{Walk, Trail, Acyclic, Simple}
use Rattle.pg_ast.specs.declared.pattern.Selector.TheVariants.{Any, AnyShortest}
use Rattle.pg_meaning.specs.declared.checked.CheckedPath.{CheckedPath}
use Rattle.pg_meaning.specs.declared.checked.PathBinding.{PathBinding}
use Rattle.pg_meaning.specs.Bindings.{Binding, path_binding}
use Rattle.pg_meaning.specs.Outlines.{is_walk}
use Rattle.pg_meaning.specs.Sound.Patterns.{IsSoundPath}
use Rattle.pg_auto.specs.Stages.{Pattern, pattern_of}
use Rattle.pg_auto.specs.States.{Task, State, binding_of, walked}
use Rattle.pg_auto.specs.Allowed.{task_of}
use Rattle.pg_short.specs.Steps.{Step, step_view}
use Rattle.pg_short.specs.Searches.{state_at, visited}
use Rattle.pg_short.specs.Found.{task_over, IsSearched, steps_in}
use Rattle.pg_short.specs.Selections.{AreSelected}
use Rattle.pg_short.specs.Walks.{Stand, bindings_in, is_end, end_to}
use Rattle.pg_short.specs.declared.search.Search.{Search}
use Rattle.pg_short.proofs.Selected.{Laws, shortest_selected, shortest_none}

true_false : false ≡ true → ⊥
true_false h = cc

is_mode : (mode : Mode) → is_walk mode ≡ true → Walk ≡ mode
is_mode Walk h = refl
is_mode Trail h = absurd (true_false h)
is_mode Acyclic h = absurd (true_false h)
is_mode Simple h = absurd (true_false h)

-- the automaton of a path pattern is walked as the path pattern is meant
pub same_task : (shapes : Shapes) (tables : Tables) (path : CheckedPath) (start : ElemId) (p : Pattern) → p ≡ pattern_of path → is_walk path.mode ≡ true → task_over shapes tables p start ≡ task_of shapes tables path start
same_task shapes tables path start p e walk =
    let mode = is_mode path.mode walk in
    λ i. record { shapes = shapes; graph = (e i).graph; tables = tables; stages = (e i).stages; mode = mode i; start = start }

pub stands_for : (t : Task) (s : Search) → IsSearched t s → Stand t.stages t.start (steps_in s)
stands_for t s v k step h = (v.search.stands k step h).spot

pub numbers : (t : Task) (s : Search) → IsSearched t s → (k : ℕ) → Contains s.order.items k → k < length s.found.items
numbers t s v k c = let l = v.search.ordered k c in let m = length-map s.found.items step_view in omega arith

pub ends_are : (t : Task) (vars : List ℕ) (found : List Step) (order : List ℕ) → flat_map (end_to t.stages t.start vars found) order ≡ map path_binding (bindings_in t vars (visited t found order))
ends_are t vars found [] = refl
ends_are t vars found (k ∷ order) = go (is_end t.stages s) (ends_are t vars found order)
  where
    s : State
    s = state_at t found k

    binding : State → Binding
    binding r = binding_of t.start vars (walked r)

    rest : List State
    rest = filter (is_end t.stages) (visited t found order)

    go : (b : Bool) → flat_map (end_to t.stages t.start vars found) order ≡ map path_binding (map binding rest)
        → cond b (path_binding (binding s) ∷ []) [] ++ flat_map (end_to t.stages t.start vars found) order ≡ map path_binding (map binding (cond b (s ∷ rest) rest))
    go true h = ap (λ (bs : List PathBinding). path_binding (binding s) ∷ bs) h
    go false h = h

module _ (laws : Laws) (shapes : Shapes) (tables : Tables) (path : CheckedPath) (start : ElemId) (sound : IsSoundPath shapes path) (order : IsInOrder tables) (walk : is_walk path.mode ≡ true) where
  pub found_shortest : Contains (vertices path.graph tables) start → (s : Search) → IsSearched (task_of shapes tables path start) s
      → AreSelected AnyShortest shapes tables path start (flat_map (end_to (task_of shapes tables path start).stages start path.vars (steps_in s)) s.order.items)
  found_shortest vertex s v =
      let t = task_of shapes tables path start in
      let all = visited t (steps_in s) s.order.items in
      record {
        kept = bindings_in t path.vars all;
        selected = shortest_selected laws shapes tables path start sound order walk vertex all v.search.searches;
        given = ends_are t path.vars (steps_in s) s.order.items;
      }

  -- the same of the automaton's own task
  pub walked_shortest : Contains (vertices path.graph tables) start → (p : Pattern) → p ≡ pattern_of path → (s : Search) → IsSearched (task_over shapes tables p start) s
      → AreSelected AnyShortest shapes tables path start (flat_map (end_to p.stages start path.vars (steps_in s)) s.order.items)
  walked_shortest vertex p e s v =
      subst (λ (t : Task). IsSearched t s → AreSelected AnyShortest shapes tables path start (flat_map (end_to t.stages t.start path.vars (steps_in s)) s.order.items))
      (sym (same_task shapes tables path start p e walk)) (found_shortest vertex s) v

-- from what is no vertex nothing is kept
pub none_shortest : (shapes : Shapes) (tables : Tables) (path : CheckedPath) (start : ElemId) → (Contains (vertices path.graph tables) start → ⊥) → (found : List PathBinding) → found ≡ [] → AreSelected AnyShortest shapes tables path start found
none_shortest shapes tables path start none found e = record { kept = []; selected = shortest_none shapes tables path start none; given = e }

-- one of least length of each pair is one of each pair
pub shortest_is_any : (shapes : Shapes) (tables : Tables) (path : CheckedPath) (start : ElemId) (found : List PathBinding) → AreSelected AnyShortest shapes tables path start found → AreSelected Any shapes tables path start found
shortest_is_any shapes tables path start found a = record {
  kept = a.kept;
  selected = record { distinct = a.selected.distinct; allowed = a.selected.allowed; complete = a.selected.complete.0 };
  given = a.given;
}
