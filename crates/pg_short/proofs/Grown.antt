-- The states of steps, where more steps come behind them.
use Rattle.std.proofs.Common.{◌≡◌, ◌<◌, ◌+◌, ℕ, zero, suc, List, [], ◌∷◌, ◌++◌, length, map, Contains, refl, arith, ap, sym, ◌∙◌, length-append, append_assoc, append-nil}
use Rattle.std.specs.Prelude.{Option, Some, None, slice_get}
use Rattle.pg_value.specs.declared.shape.ElemId.{ElemId}
use Rattle.pg_meaning.specs.Members.{in_here, in_there}
use Rattle.pg_auto.specs.Stages.{Stage}
use Rattle.pg_auto.specs.States.{State, first_state}
use Rattle.pg_short.specs.Steps.{Step, moved, came, grown, states_of}

pub get_front : {X : Type 0} (xs ys : List X) (k : ℕ) → k < length xs → slice_get (xs ++ ys) k ≡ slice_get xs k
get_front [] ys k l = absurd (omega arith)
get_front (x ∷ xs) ys zero l = refl
get_front (x ∷ xs) ys (suc k) l = get_front xs ys k (omega arith)

pub get_behind : {X : Type 0} (xs ys : List X) (k : ℕ) → slice_get (xs ++ ys) (length xs + k) ≡ slice_get ys k
get_behind [] ys k = ap (slice_get ys) (let e : 0 + k ≡ k = omega arith in e)
get_behind (x ∷ xs) ys k = ap (slice_get (x ∷ (xs ++ ys))) (let e : length (x ∷ xs) + k ≡ suc (length xs + k) = omega arith in e) ∙ get_behind xs ys k

module _ (stages : List Stage) (start : ElemId) where
  pub grown_both : (all : List State) (xs ys : List Step) → grown stages start all (xs ++ ys) ≡ grown stages start (grown stages start all xs) ys
  grown_both all [] ys = refl
  grown_both all (x ∷ xs) ys = grown_both (all ++ came stages start all x ∷ []) xs ys

  grown_long : (all : List State) (xs : List Step) → length (grown stages start all xs) ≡ length all + length xs
  grown_long all [] = omega arith
  grown_long all (x ∷ xs) =
      let r = grown_long (all ++ came stages start all x ∷ []) xs in
      let l = length-append all (came stages start all x ∷ []) in
      omega arith

  pub as_many : (xs : List Step) → length (states_of stages start xs) ≡ length xs
  as_many xs = let e = grown_long [] xs in omega arith

  -- steps that go on from what was there
  grown_behind : (base more : List State) (xs : List Step) → ((x : Step) → Contains xs x → x.before < length base)
      → grown stages start (base ++ more) xs ≡ (base ++ more) ++ map (came stages start base) xs
  grown_behind base more [] h = sym (append-nil (base ++ more))
  grown_behind base more (x ∷ xs) h =
      let here = ap (λ (o : Option State). elim o as (λ _. State) [ None ↦ first_state start | Some s ↦ moved stages s x ]) (get_front base more x.before (h x (in_here x xs x refl))) in
      ap (λ (all : List State). grown stages start all xs) (append_assoc base more (came stages start (base ++ more) x ∷ []))
      ∙ grown_behind base (more ++ came stages start (base ++ more) x ∷ []) xs (λ y c. h y (in_there x xs y c))
      ∙ ap (λ (all : List State). all ++ map (came stages start base) xs) (sym (append_assoc base more (came stages start (base ++ more) x ∷ [])))
      ∙ append_assoc (base ++ more) (came stages start (base ++ more) x ∷ []) (map (came stages start base) xs)
      ∙ ap (λ (c : State). (base ++ more) ++ c ∷ map (came stages start base) xs) here

  pub states_behind : (xs ys : List Step) → ((y : Step) → Contains ys y → y.before < length xs)
      → states_of stages start (xs ++ ys) ≡ states_of stages start xs ++ map (came stages start (states_of stages start xs)) ys
  states_behind xs ys h =
      let base = states_of stages start xs in
      grown_both [] xs ys ∙ ap (λ (all : List State). grown stages start all ys) (sym (append-nil base))
      ∙ grown_behind base [] ys (λ y c. let l = h y c in let m = as_many xs in omega arith)
      ∙ ap (λ (all : List State). all ++ map (came stages start base) ys) (append-nil base)
