-- A search over numbered states.
use Rattle.std.proofs.Common.{◌≡◌, ◌<◌, ◌≤◌, ◌+◌, ℕ, zero, suc, arith, List, [], ◌∷◌, ◌++◌, map, flat_map, cond, Bool, true, false, length, Contains, refl, ap, ◌∙◌, subst}
use Rattle.std.specs.Prelude.{Option, Some, None, slice_get, nat_le}
use Rattle.std.specs.Prelude.{filter}
use Rattle.pg_value.specs.declared.shape.Shapes.{Shapes}
use Rattle.pg_value.specs.Graph.{vertices}
use Rattle.pg_value.specs.Tables.{Tables, IsInOrder}
use Rattle.pg_meaning.specs.declared.checked.CheckedPath.{CheckedPath}
use Rattle.pg_meaning.specs.declared.checked.PathBinding.{PathBinding}
use Rattle.pg_meaning.specs.Bindings.{path_binding}
use Rattle.pg_meaning.specs.Outlines.{walks_on}
use Rattle.pg_meaning.specs.Sound.Patterns.{IsSoundPath, outlines}
use Rattle.pg_meaning.specs.Members.{in_nil, in_map}
use Rattle.pg_auto.specs.Stages.{Stage, stages_of}
use Rattle.pg_auto.specs.Allowed.{task_of}
use Rattle.pg_auto.specs.States.{Task, State, binding_of, walked}
use Rattle.pg_auto.specs.Successors.{successors, next_states}
use Rattle.pg_auto.specs.Steps.{IsSoundTask, StepsOn}
use Rattle.pg_auto.specs.Ranks.{AreBounded, RanksFall, WeightsFall, FirstIsValid}
use Rattle.pg_auto.specs.Tests.{TestsTell, permits}
use Rattle.pg_value.specs.declared.shape.ElemId.{ElemId}
use Rattle.pg_search.specs.declared.states.Kept.{Kept}
use Rattle.pg_search.specs.Numbers.{Numbers, IsWithin, hops_at, state_of, first_numbers}
use Rattle.pg_search.specs.Found.{ArePaths, found_at}
use Rattle.pg_search.proofs.FoundBindings.{Laws, bindings_in, is_end, are_paths}
use Rattle.pg_search.specs.Searches.{IsFine, IsVisiting, PutStates, ArePut, Visits}
use Rattle.pg_search.proofs.LinkedLists.{get_in}
use Rattle.pg_search.proofs.PuttingStates.{each_in, all_stay}
use Rattle.pg_search.proofs.Visits.{visits, passes, waiting, fewer_wait, passed_waits, grows, begins}

-- a state that waits may be visited
pub fine_of : TestsTell → (t : Task) (n : Numbers) (states : List Kept) (i k : ℕ) (a : Kept) → IsVisiting t n states i → slice_get states k ≡ Some a → IsFine n t.mode a
fine_of tell t n states i k a v h =
    let there = get_in states k a h in
    let valid = v.visits.valid (state_of n a) (in_map (state_of n) states a there) in
    record {
      within = each_in (IsWithin n) states v.within a there;
      permitted = ap (λ (s : ElemId). permits t.mode s (hops_at n a.walk)) v.start ∙ (tell.permits_tells t.mode t.start (hops_at n a.walk)).1 valid.permitted.permitted;
      agree = (tell.agrees_tells (state_of n a).singles).1 valid.permitted.agree;
    }

get_map : {X Y : Type 0} (f : X → Y) (xs : List X) (i : ℕ) (x : X) → slice_get xs i ≡ Some x → slice_get (map f xs) i ≡ Some (f x)
get_map f [] i x h = absurd (cc)
get_map f (y ∷ ys) zero x h = ap (λ o. Some (f o)) (let e : y ≡ x = cc in e)
get_map f (y ∷ ys) (suc i) x h = get_map f ys i x h

length_map : {X Y : Type 0} (f : X → Y) (xs : List X) → length (map f xs) ≡ length xs
length_map f [] = refl
length_map f (x ∷ xs) = ap suc (length_map f xs)

length_put : (all cs more : List State) → ArePut all cs more → length all ≤ length more
length_put all cs more p = let g = grows all cs more p in let e = ap length g.whole in let l = longer all g.tail in omega arith
  where
    longer : (xs ys : List State) → length xs ≤ length (xs ++ ys)
    longer [] ys = omega arith
    longer (x ∷ xs) ys = let l = longer xs ys in omega arith

-- what one visit gives
pub record IsVisited (t : Task) (n : Numbers) (old : List Kept) (m : Numbers) (new : List Kept) (i : ℕ) : Type 0 where
  pub within : i + 1 ≤ length new
  pub visiting : IsVisiting t m new (i + 1)
  pub fewer : waiting t (map (state_of m) new) (i + 1) < waiting t (map (state_of n) old) i

pub visit_on : StepsOn → RanksFall → WeightsFall → (t : Task) → IsSoundTask t → AreBounded t.mode t.stages → (n m : Numbers) (old new : List Kept) (i : ℕ) (a : Kept) → slice_get old i ≡ Some a → i < length old
    → IsVisiting t n old i → PutStates n m old new (next_states t (state_of n a)) → IsVisited t n old m new i
visit_on on falls weights t sound bounded n m old new i a here l v p = go (slice_get t.stages a.stage) refl
  where
    at : slice_get (map (state_of n) old) i ≡ Some (state_of n a)
    at = get_map (state_of n) old i a here

    before : i < length (map (state_of n) old)
    before = let e = length_map (state_of n) old in omega arith

    are : ArePut (map (state_of n) old) (next_states t (state_of n a)) (map (state_of m) new)
    are = subst (λ xs. ArePut xs (next_states t (state_of n a)) (map (state_of m) new)) (all_stay n m p.grow old v.within) p.are

    long : i + 1 ≤ length new
    long = let e = length_map (state_of n) old in let f = length_map (state_of m) new in let k = length_put (map (state_of n) old) (next_states t (state_of n a)) (map (state_of m) new) are in omega arith

    go : (o : Option Stage) → slice_get t.stages a.stage ≡ o → IsVisited t n old m new i
    go None e =
        let same = subst (λ (ss : List State). ArePut (map (state_of n) old) ss (map (state_of m) new)) (ap (λ o. elim o [ None ↦ [] | Some stage ↦ successors t (state_of n a) stage ]) e) are in
        record {
          within = long;
          visiting = record { start = p.grow.start ∙ v.start; within = p.within; visits = subst (λ xs. Visits t xs (i + 1)) same (passes t (map (state_of n) old) i (state_of n a) at e v.visits) };
          fewer = subst (λ xs. waiting t xs (i + 1) < waiting t (map (state_of n) old) i) same (passed_waits t (map (state_of n) old) i (state_of n a) at);
        }
    go (Some stage) e =
        let put = subst (λ (ss : List State). ArePut (map (state_of n) old) ss (map (state_of m) new)) (ap (λ o. elim o [ None ↦ [] | Some stage ↦ successors t (state_of n a) stage ]) e) are in
        record {
          within = long;
          visiting = record { start = p.grow.start ∙ v.start; within = p.within; visits = visits on falls t sound bounded (map (state_of n) old) i (state_of n a) stage (map (state_of m) new) at e before put v.visits };
          fewer = fewer_wait weights t sound bounded (map (state_of n) old) i (state_of n a) stage (map (state_of m) new) at e before put v.visits;
        }

-- the beginning
pub begins_at : FirstIsValid → (t : Task) → IsVisiting t (first_numbers t.start) (record { stage = 0; done = 0; walk = 0; singles = 0; groups = 0 } ∷ []) 0
begins_at first t = record { start = refl; within = (record { walk = omega arith; singles = omega arith; groups = omega arith }, tt); visits = begins first t }

-- WHAT IS READ OFF

found_is : (t : Task) (n : Numbers) (count : ℕ) (vars : List ℕ) (states : List Kept) → n.start ≡ t.start → count ≡ length t.stages → flat_map (found_at n count vars) states ≡ map path_binding (bindings_in t vars (map (state_of n) states))
found_is t n count vars [] s c = refl
found_is t n count vars (a ∷ states) s c =
    ap (λ k. found_at n k vars a ++ flat_map (found_at n count vars) states) c
    ∙ go (nat_le (length t.stages) a.stage) (found_is t n count vars states s c)
  where
    go : (b : Bool) → flat_map (found_at n count vars) states ≡ map path_binding (bindings_in t vars (map (state_of n) states))
        → cond b (path_binding (binding_of n.start vars (walked (state_of n a))) ∷ []) [] ++ flat_map (found_at n count vars) states
        ≡ map path_binding (map (λ r. binding_of t.start vars (walked r)) (cond b (state_of n a ∷ filter (is_end t) (map (state_of n) states)) (filter (is_end t) (map (state_of n) states))))
    go true h = λ i. path_binding (binding_of (s i) vars (walked (state_of n a))) ∷ h i
    go false h = h

pub found_paths : Laws → (shapes : Shapes) (tables : Tables) (path : CheckedPath) (start : ElemId) → IsSoundPath shapes path → IsInOrder tables → walks_on path.mode (outlines path) ≡ false → Contains (vertices path.graph tables) start
    → (n : Numbers) (states : List Kept) → IsVisiting (task_of shapes tables path start) n states (length states) → (count : ℕ) → count ≡ length (stages_of path) → (found : List PathBinding) → found ≡ flat_map (found_at n count path.vars) states → ArePaths shapes tables path start found
found_paths laws shapes tables path start sound order ends vertex n states v count c found e = record {
  bindings = bindings_in (task_of shapes tables path start) path.vars (map (state_of n) states);
  listed = e ∙ found_is (task_of shapes tables path start) n count path.vars states v.start c;
  are = are_paths laws shapes tables path start sound order ends (map (state_of n) states) (length states) (let l = length_map (state_of n) states in omega arith) v.visits vertex;
}

pub no_paths : (shapes : Shapes) (tables : Tables) (path : CheckedPath) (start : ElemId) → (Contains (vertices path.graph tables) start → ⊥) → (found : List PathBinding) → found ≡ [] → ArePaths shapes tables path start found
no_paths shapes tables path start none found e = record {
  bindings = [];
  listed = e;
  are = record { exactly = λ b. (λ c. absurd (in_nil b c), λ a. absurd (none (subst (λ v. Contains (vertices path.graph tables) v) a.1 a.0.binding.start))); once = tt };
}
