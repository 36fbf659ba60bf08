-- Steps as they are found, and as they are meant.
use Rattle.std.proofs.Common.{◌≡◌, ℕ, zero, suc, subst, Bool, true, false, cond, List, [], ◌∷◌, ◌++◌, map, refl, ap}
use Rattle.std.specs.Prelude.{flat_map, filter, Option, Some, None, slice_get}
use Rattle.pg_keyed.specs.Lists.{Each}
use Rattle.pg_value.specs.declared.shape.Shapes.{Shapes}
use Rattle.pg_value.specs.declared.shape.GraphShape.{GraphShape}
use Rattle.pg_value.specs.Tables.{Tables}
use Rattle.pg_view.specs.declared.view.Neighbour.{Neighbour}
use Rattle.pg_auto.specs.Stages.{Stage}
use Rattle.pg_short.specs.Rounds.{hops_in, all_hops}
use Rattle.pg_short.specs.Steps.{Step, step_if, step_in, steps_in, goes_with, steps_of, next_steps}

pub steps_flat : (stages : List Stage) (number : ℕ) (s : Step) (stage : Stage) (rounds : List (List Neighbour)) → flat_map (step_if stages number s stage) rounds ≡ steps_in stages number s stage (all_hops rounds)
steps_flat stages number s stage [] = refl
steps_flat stages number s stage (hops ∷ rounds) = go (goes_with s stage (hops_in hops)) (steps_flat stages number s stage rounds)
  where
    go : (b : Bool) → flat_map (step_if stages number s stage) rounds ≡ steps_in stages number s stage (all_hops rounds)
        → cond b (step_in stages number s stage (hops_in hops) ∷ []) [] ++ flat_map (step_if stages number s stage) rounds
        ≡ map (step_in stages number s stage) (cond b (hops_in hops ∷ filter (goes_with s stage) (all_hops rounds)) (filter (goes_with s stage) (all_hops rounds)))
    go true r = ap (λ xs. step_in stages number s stage (hops_in hops) ∷ xs) r
    go false r = r

pub each_at : {X : Type 0} (P : X → Type 0) (xs : List X) (k : ℕ) (x : X) → Each P xs → slice_get xs k ≡ Some x → P x
each_at P [] k x h e = absurd (cc)
each_at P (y ∷ ys) zero x h e = let same : y ≡ x = cc in subst P same h.0
each_at P (y ∷ ys) (suc k) x h e = each_at P ys k x h.1 e

pub get_map : {X Y : Type 0} (f : X → Y) (xs : List X) (k : ℕ) (x : X) → slice_get xs k ≡ Some x → slice_get (map f xs) k ≡ Some (f x)
get_map f [] k x e = absurd (cc)
get_map f (y ∷ ys) zero x e = let same : y ≡ x = cc in ap (λ z. Some (f z)) same
get_map f (y ∷ ys) (suc k) x e = get_map f ys k x e

pub none_map : {X Y : Type 0} (f : X → Y) (xs : List X) (k : ℕ) → slice_get xs k ≡ None → slice_get (map f xs) k ≡ None
none_map f [] k e = refl
none_map f (y ∷ ys) zero e = absurd (cc)
none_map f (y ∷ ys) (suc k) e = none_map f ys k e

pub next_some : (shapes : Shapes) (tables : Tables) (graph : GraphShape) (stages : List Stage) (n : ℕ) (s : Step) (stage : Stage) → slice_get stages s.spot.stage ≡ Some stage
    → next_steps shapes tables graph stages n s ≡ steps_of shapes tables graph stages n s stage
next_some shapes tables graph stages n s stage e = ap (λ (o : Option Stage). elim o as (λ _. List Step) [ None ↦ [] | Some x ↦ steps_of shapes tables graph stages n s x ]) e

pub next_none : (shapes : Shapes) (tables : Tables) (graph : GraphShape) (stages : List Stage) (n : ℕ) (s : Step) → slice_get stages s.spot.stage ≡ None → next_steps shapes tables graph stages n s ≡ []
next_none shapes tables graph stages n s e = ap (λ (o : Option Stage). elim o as (λ _. List Step) [ None ↦ [] | Some x ↦ steps_of shapes tables graph stages n s x ]) e
