-- What is found: the first step, and the steps from each that is visited.
use Rattle.std.proofs.Common.{◌≡◌, true, ◌<◌, ◌≤◌, ◌+◌, ◌-◌, ℕ, zero, suc, List, [], ◌∷◌, ◌++◌, length, Contains, inl, inr, refl, arith, ap, sym, ◌∙◌, subst, length-append}
use Rattle.std.specs.Prelude.{Some, slice_get}
use Rattle.pg_value.specs.declared.shape.ElemId.{ElemId}
use Rattle.pg_meaning.specs.Members.{in_nil, in_here, in_left, in_right, in_one, in_append}
use Rattle.pg_auto.specs.States.{Task}
use Rattle.pg_short.specs.Steps.{Step, next_steps}
use Rattle.pg_short.specs.Searches.{first_step}
use Rattle.pg_short.specs.Found.{AreMade}
use Rattle.pg_short.proofs.Lists.{one_get, within}
use Rattle.pg_short.proofs.Grown.{get_front, get_behind}
use Rattle.pg_short.proofs.Searching.{below, in_get, get_in}

-- the first step alone
pub made_first : (t : Task) → AreMade t (first_step t.start ∷ []) []
made_first t = record {
  first = refl;
  all = λ n step next c h d. absurd (in_nil n c);
  only = λ k next h l. absurd (alone k next h l);
}
  where
    alone : (k : ℕ) (next : Step) → slice_get (first_step t.start ∷ []) k ≡ Some next → next.before < k → ⊥
    alone zero next h l = omega arith
    alone (suc k) next h l = let e = within (first_step t.start ∷ []) (suc k) next h in omega arith

-- with the steps from one more
pub made_more : (t : Task) (found : List Step) (order : List ℕ) (number : ℕ) (step : Step) → slice_get found number ≡ Some step
    → ((next : Step) → Contains (next_steps t.shapes t.tables t.graph t.stages number step) next → next.before ≡ number)
    → ((n : ℕ) → Contains order n → n < length found)
    → AreMade t found order → AreMade t (found ++ next_steps t.shapes t.tables t.graph t.stages number step) (order ++ number ∷ [])
made_more t found order number step here before ordered v = record {
  first = get_front found new 0 (within found 0 (first_step t.start) v.first) ∙ v.first;
  all = λ n s next c h d. elim (in_append order (number ∷ []) n c) [
    | inl a ↦ (let o = v.all n s next a (sym (get_front found new n (ordered n a)) ∙ h) d in
        (o.0, o.1, get_front found new o.0 (within found o.0 next o.2) ∙ o.2))
    | inr b ↦ new_all n s next (in_one number n b) h d
  ];
  only = λ k next h l. elim (below k (length found)) [
    | inl m ↦ (let o = v.only k next (sym (get_front found new k m) ∙ h) l in
        (in_left order (number ∷ []) next.before o.0, (o.1.0, get_front found new next.before (within found next.before o.1.0 o.1.1) ∙ o.1.1, o.1.2)))
    | inr m ↦ new_only k next h m
  ];
}
  where
    new : List Step
    new = next_steps t.shapes t.tables t.graph t.stages number step

    inside : number < length found
    inside = within found number step here

    there : slice_get (found ++ new) number ≡ Some step
    there = get_front found new number inside ∙ here

    new_all : (n : ℕ) (s next : Step) → number ≡ n → slice_get (found ++ new) n ≡ Some s → Contains (next_steps t.shapes t.tables t.graph t.stages n s) next
        → (k : ℕ) × (n < k) × (slice_get (found ++ new) k ≡ Some next)
    new_all n s next e h d =
        let same = one_get (slice_get (found ++ new) n) s step h (ap (slice_get (found ++ new)) (sym e) ∙ there) in
        let i = in_get new next (subst (λ (x : ℕ). Contains (next_steps t.shapes t.tables t.graph t.stages x step) next) (sym e) (subst (λ (x : Step). Contains (next_steps t.shapes t.tables t.graph t.stages n x) next) same d)) in
        (length found + i.0, (let l = inside in omega arith), get_behind found new i.0 ∙ i.2)

    new_only : (k : ℕ) (next : Step) → slice_get (found ++ new) k ≡ Some next → length found ≤ k
        → Contains (order ++ number ∷ []) next.before × ((s : Step) × (slice_get (found ++ new) next.before ≡ Some s) × Contains (next_steps t.shapes t.tables t.graph t.stages next.before s) next)
    new_only k next h m =
        let e : k ≡ length found + (k - length found) = omega arith in
        let g : slice_get new (k - length found) ≡ Some next = sym (get_behind found new (k - length found)) ∙ ap (slice_get (found ++ new)) (sym e) ∙ h in
        let c = get_in new (k - length found) next g in
        let b = before next c in (
          subst (λ (n : ℕ). Contains (order ++ number ∷ []) n) (sym b) (in_right order (number ∷ []) number (in_here number [] number refl)),
          (step, ap (slice_get (found ++ new)) b ∙ there, subst (λ (n : ℕ). Contains (next_steps t.shapes t.tables t.graph t.stages n step) next) (sym b) c),
        )
