-- The tight steps by the places that they lead to.
use Rattle.std.proofs.Common.{◌≡◌, ◌<◌, ◌≤◌, ◌+◌, ◌==◌, ◌&&◌, ℕ, zero, suc, Bool, true, false, List, [], ◌∷◌, ◌++◌, length, map, get_or, Contains, inl, inr, ◌⊎◌, refl, arith, ap, sym, ◌∙◌, subst, eq-eqb}
use Rattle.std.specs.Prelude.{Option, Some, None, Vec, slice_set, IfSome, IfNone, is_some, slice_get, nat_lt}
use Rattle.std.specs.Option.{unwrap_or}
use Rattle.std.specs.declared.alloc.Global.{Global}
use Rattle.std.specs.List.{position, list_any}
use Rattle.std.proofs.lemmas.List.Quantifiers.{position-Some}
use Rattle.std.proofs.lemmas.List.{length-map}
use Rattle.std.proofs.lemmas.Option.{slice_get-get_or}
use Rattle.std.proofs.lemmas.Bool.{eqb-true, ltb-true, lt-ltb}
use Rattle.pg_meaning.specs.Bindings.{Distinct}
use Rattle.pg_meaning.specs.Members.{in_nil, in_here, in_left, in_right, in_one, in_append}
use Rattle.pg_short.specs.Spots.{Spot}
use Rattle.pg_short.specs.Steps.{Step, step_view, spot_view}
use Rattle.pg_short.specs.Found.{steps_in}
use Rattle.pg_short.specs.declared.search.Search.{Search}
use Rattle.pg_short.specs.declared.steps.Step.{Step as HeldStep}
use Rattle.pg_short.specs.declared.spots.Spot.{Spot as HeldSpot}
use Rattle.pg_short.specs.contracts.spots.SpotPartialEq.TheImpl.{eq-value as spot_eq}
use Rattle.pg_short.specs.Tight.{AreTogether, IsPlace, IsTight, AreTight, IsAt, list_in, numbers_in}
use Rattle.pg_short.proofs.Lists.{one_get, true_false, within}
use Rattle.pg_short.proofs.Follows.{and_true, both_true}
use Rattle.pg_short.proofs.FoundSteps.{get_map}
use Rattle.pg_short.proofs.SameSpots.{same_spot, same_any}
use Rattle.pg_short.proofs.Searching.{below, in_get, get_in}
use Rattle.pg_short.proofs.Queued.{get_some_or}
use Rattle.pg_short.proofs.BackOver.{one_place, there_at}

-- THE PLACE OF A SPOT

pub place_some : (xs : List HeldSpot) (x : HeldSpot) (p : ℕ) → position (spot_eq.it x) xs ≡ Some p → slice_get (map spot_view xs) p ≡ Some (spot_view x)
place_some xs x p e =
    let h = position-Some (spot_eq.it x) xs p x e in
    get_map spot_view xs p (get_or xs p x) (slice_get-get_or xs p x h.0) ∙ ap Some (sym (same_spot x (get_or xs p x) h.1))

pub place_if : (xs : List HeldSpot) (x : HeldSpot) (o : Option ℕ) → o ≡ position (spot_eq.it x) xs → IfSome o (λ p. slice_get (map spot_view xs) p ≡ Some (spot_view x))
place_if xs x None e = tt
place_if xs x (Some p) e = place_some xs x p (sym e)

pub place_none : (xs : List HeldSpot) (x : HeldSpot) (o : Option ℕ) → is_some o ≡ list_any (spot_eq.it x) xs → IfNone o (Contains (map spot_view xs) (spot_view x) → ⊥)
place_none xs x None e = λ c. true_false (sym (same_any xs x c) ∙ sym e)
place_none xs x (Some p) e = tt

-- BY PLACES

at_end : (xs : List (List ℕ)) (p : ℕ) → ((q : ℕ) → list_in xs q ≡ []) → list_in (xs ++ [] ∷ []) p ≡ []
at_end [] zero h = refl
at_end [] (suc p) h = refl
at_end (x ∷ xs) zero h = h zero
at_end (x ∷ xs) (suc p) h = at_end xs p (λ q. h (suc q))

-- a list of a place is replaced
set_long : (lists : List (Vec ℕ Global)) (p : ℕ) (v : Vec ℕ Global) → length (numbers_in (slice_set lists p v)) ≡ length (numbers_in lists)
set_long [] p v = refl
set_long (x ∷ xs) zero v = refl
set_long (x ∷ xs) (suc p) v = ap suc (set_long xs p v)

set_here : (lists : List (Vec ℕ Global)) (p : ℕ) (v : Vec ℕ Global) → p < length lists → list_in (numbers_in (slice_set lists p v)) p ≡ v.items
set_here [] p v l = absurd (omega arith)
set_here (x ∷ xs) zero v l = refl
set_here (x ∷ xs) (suc p) v l = set_here xs p v (omega arith)

set_else : (lists : List (Vec ℕ Global)) (p : ℕ) (v : Vec ℕ Global) (q : ℕ) → (q ≡ p → ⊥) → list_in (numbers_in (slice_set lists p v)) q ≡ list_in (numbers_in lists) q
set_else [] p v q h = refl
set_else (x ∷ xs) zero v zero h = absurd (h refl)
set_else (x ∷ xs) zero v (suc q) h = refl
set_else (x ∷ xs) (suc p) v zero h = refl
set_else (x ∷ xs) (suc p) v (suc q) h = set_else xs p v q (λ e. h (ap suc e))

pub set_at : (lists : List (Vec ℕ Global)) (p number : ℕ) (was v : Vec ℕ Global) → p < length lists → was ≡ get_or lists p was → v.items ≡ was.items ++ number ∷ [] → IsAt (numbers_in lists) p number (numbers_in (slice_set lists p v))
set_at lists p number was v l e h = record {
  as_many = set_long lists p v;
  here = set_here lists p v l ∙ h ∙ ap (λ ks. ks ++ number ∷ []) (sym (ap (λ (o : Option (List ℕ)). unwrap_or o []) (get_map (λ (x : Vec ℕ Global). x.items) lists p was (get_some_or lists p was l e))));
  else = set_else lists p v;
}

pub empty_more : (xs : List (List ℕ)) → ((q : ℕ) → list_in xs q ≡ []) → (p : ℕ) → list_in (xs ++ [] ∷ []) p ≡ []
empty_more xs h p = at_end xs p h

pub empty_none : (p : ℕ) → list_in [] p ≡ []
empty_none zero = refl
empty_none (suc p) = refl

module _ (found : List Step) (order : List ℕ) (spots : List Spot) (all : AreTogether found order spots) where
  -- a spot has one place
  pub one_spot : (p q : ℕ) (a : Step) → IsPlace found order p a → slice_get spots q ≡ Some a.spot → p ≡ q
  one_spot p q a i h = one_place spots p q a.spot all.apart (all.stand p i.number a i.here i.there) h

  pub same_least : (p : ℕ) (a b : Step) → IsPlace found order p a → IsPlace found order p b → a ≡ b
  same_least p a b i j =
      let n = one_get (slice_get order p) i.number j.number i.here j.here in
      one_get (slice_get found j.number) a b (ap (slice_get found) (sym n) ∙ i.there) j.there

  -- what is visited at a place
  pub at_place : (p : ℕ) (x : Spot) → slice_get spots p ≡ Some x → (least : Step) × IsPlace found order p least × (least.spot ≡ x)
  at_place p x h =
      let n = there_at order p (let l = within spots p x h in let e = all.as_many in omega arith) in
      let s = there_at found n.0 (all.ordered n.0 (get_in order p n.0 n.1)) in
      (s.0, record { number = n.0; here = n.1; there = s.1 }, one_get (slice_get spots p) s.0.spot x (all.stand p n.0 s.0 n.1 s.1) h)

  module _ (number : ℕ) (step : Step) (here : slice_get found number ≡ Some step) (lists : List (List ℕ)) (v : AreTight found order lists number) where
    last : (k : ℕ) → k < number + 1 → (k < number) ⊎ (k ≡ number)
    last k l = elim (below k number) [ inl a ↦ inl a | inr b ↦ inr (omega arith) ]

    -- a step that is not tight
    pub none_more : ((p : ℕ) → IsTight found order p number → ⊥) → AreTight found order lists (number + 1)
    none_more none = record {
      as_many = v.as_many;
      all = λ p k l t. elim (last k l) [ inl a ↦ v.all p k a t | inr e ↦ absurd (none p (subst (IsTight found order p) e t)) ];
      only = v.only;
    }

    -- whose spot is not visited
    pub not_visited : (Contains spots step.spot → ⊥) → AreTight found order lists (number + 1)
    not_visited none = none_more (λ p t.
        let same = one_get (slice_get found number) t.step step t.there here in
        none (get_in spots p step.spot (all.stand p t.place.number t.least t.place.here t.place.there ∙ ap Some (sym t.spot ∙ ap (λ (x : Step). x.spot) same))))

    module _ (place : ℕ) (at : slice_get spots place ≡ Some step.spot) (least : Step) (is : IsPlace found order place least) where
      same_spot_at : least.spot ≡ step.spot
      same_spot_at = one_get (slice_get spots place) least.spot step.spot (all.stand place is.number least is.here is.there) at

      place_of_tight : (p : ℕ) → IsTight found order p number → p ≡ place
      place_of_tight p t =
          let same = one_get (slice_get found number) t.step step t.there here in
          one_spot p place t.least t.place (at ∙ ap Some (ap (λ (x : Step). x.spot) (sym same) ∙ t.spot))

      -- that is longer than needed
      pub not_least : (nat_lt step.before number && (step.long == least.long)) ≡ false → AreTight found order lists (number + 1)
      not_least h = none_more (λ p t.
          let same = one_get (slice_get found number) t.step step t.there here in
          let q = place_of_tight p t in
          let one = same_least place t.least least (subst (λ x. IsPlace found order x t.least) q t.place) is in
          let goes : step.before < number = (let g = t.goes in let e = ap (λ (x : Step). x.before) same in omega arith) in
          let long : step.long ≡ least.long = ap (λ (x : Step). x.long) (sym same) ∙ t.long ∙ ap (λ (x : Step). x.long) one in
          true_false (sym (both_true (nat_lt step.before number) (step.long == least.long) (lt-ltb step.before number goes) (eq-eqb step.long least.long long)) ∙ h))

      -- that is tight
      pub one_more : (nat_lt step.before number && (step.long == least.long)) ≡ true → (more : List (List ℕ)) → IsAt lists place number more → AreTight found order more (number + 1)
      one_more h more at' = record {
        as_many = at'.as_many ∙ v.as_many;
        all = λ p k l t. elim (last k l) [
          | inl a ↦ keeps p k (v.all p k a t)
          | inr e ↦ (let q = place_of_tight p (subst (IsTight found order p) e t) in
              subst (λ x. Contains (list_in more x) k) (sym q) (subst (λ ks. Contains ks k) (sym at'.here) (in_right (list_in lists place) (number ∷ []) k (in_here number [] k (sym e)))))
        ];
        only = λ p k c. go p k (p == place) refl c;
      }
        where
          p_and : (nat_lt step.before number ≡ true) × ((step.long == least.long) ≡ true)
          p_and = and_true (nat_lt step.before number) (step.long == least.long) h

          tight : IsTight found order place number
          tight = record {
            step = step;
            there = here;
            goes = ltb-true step.before number p_and.0;
            least = least;
            place = is;
            spot = sym same_spot_at;
            long = eqb-true step.long least.long p_and.1;
          }

          else' : (p : ℕ) → (p == place) ≡ false → list_in more p ≡ list_in lists p
          else' p e = at'.else p (λ q. true_false (sym (eq-eqb p place q) ∙ e))

          keeps : (p k : ℕ) → Contains (list_in lists p) k → Contains (list_in more p) k
          keeps p k c = again (p == place) refl
            where
              again : (b : Bool) → (p == place) ≡ b → Contains (list_in more p) k
              again true e =
                  let q = eqb-true p place e in
                  subst (λ x. Contains (list_in more x) k) (sym q) (subst (λ ks. Contains ks k) (sym at'.here) (in_left (list_in lists place) (number ∷ []) k (subst (λ x. Contains (list_in lists x) k) q c)))
              again false e = subst (λ ks. Contains ks k) (sym (else' p e)) c

          go : (p k : ℕ) (b : Bool) → (p == place) ≡ b → Contains (list_in more p) k → IsTight found order p k
          go p k true e c =
              let q = eqb-true p place e in
              subst (λ x. IsTight found order x k) (sym q)
              (elim (in_append (list_in lists place) (number ∷ []) k (subst (λ ks. Contains ks k) at'.here (subst (λ x. Contains (list_in more x) k) q c))) [
                | inl a ↦ v.only place k a
                | inr b ↦ subst (IsTight found order place) (in_one number k b) tight
              ])
          go p k false e c = v.only p k (subst (λ ks. Contains ks k) (else' p e) c)

-- before the first number
pub none_tight : (found : List Step) (order : List ℕ) (lists : List (List ℕ)) → length lists ≡ length order → ((p : ℕ) → list_in lists p ≡ []) → AreTight found order lists 0
none_tight found order lists e h = record {
  as_many = e;
  all = λ p k l t. absurd (omega arith);
  only = λ p k c. absurd (in_nil k (subst (λ ks. Contains ks k) (h p) c));
}

-- BY THE SEARCH

module _ (s : Search) (spots : List Spot) (all : AreTogether (steps_in s) s.order.items spots) where
  pub visited_within : (p n : ℕ) → p < length s.order.items → n ≡ get_or s.order.items p n → n < length s.found.items
  visited_within p n l e = let a = all.ordered n (get_in s.order.items p n (get_some_or s.order.items p n l e)) in let m = length-map s.found.items step_view in omega arith

  pub step_at : (n : ℕ) (x : HeldStep) → n < length s.found.items → x ≡ get_or s.found.items n x → slice_get (steps_in s) n ≡ Some (step_view x)
  step_at n x l e = get_map step_view s.found.items n x (get_some_or s.found.items n x l e)

  pub visited_at : (p n : ℕ) (x : HeldStep) → p < length s.order.items → n ≡ get_or s.order.items p n → x ≡ get_or s.found.items n x → IsPlace (steps_in s) s.order.items p (step_view x)
  visited_at p n x l e f = record { number = n; here = get_some_or s.order.items p n l e; there = step_at n x (visited_within p n l e) f }

  pub visited_spot : (n : ℕ) (step : Step) → Contains s.order.items n → slice_get (steps_in s) n ≡ Some step → Contains spots step.spot
  visited_spot n step c h = let i = in_get s.order.items n c in get_in spots i.0 step.spot (all.stand i.0 n step i.2 h)

pub lt_false : (a b : ℕ) → b ≤ a → nat_lt a b ≡ false
lt_false a b l = go (nat_lt a b) refl
  where
    go : (d : Bool) → nat_lt a b ≡ d → d ≡ false
    go false e = refl
    go true e = absurd (let k = ltb-true a b e in omega arith)
