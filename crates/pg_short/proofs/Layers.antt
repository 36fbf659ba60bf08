-- A search that visits each spot once, in order of least lengths. Some states are visited, and others wait; what follows a visited state
-- is at a spot that is visited, or that waits, with no more hops.
use Rattle.std.proofs.Common.{◌≡◌, ◌≤◌, true, List, [], ◌∷◌, ◌++◌, length, map, Contains, ◌⊎◌, inl, inr, refl, arith, ap, sym, ◌∙◌, subst}
use Rattle.pg_meaning.specs.Bindings.{Distinct}
use Rattle.pg_meaning.specs.Members.{in_nil, in_here, in_there, in_one, in_left, in_right, in_append, in_map, from_map}
use Rattle.pg_meaning.specs.Outlines.{is_walk}
use Rattle.pg_auto.specs.States.{Task, State, first_state}
use Rattle.pg_auto.specs.Tests.{TestsTell}
use Rattle.pg_short.specs.Spots.{Spot, spot_of}
use Rattle.pg_short.specs.Searches.{Follows, IsReached, IsCovered, Searches}
use Rattle.pg_short.proofs.Follows.{follows_alike, no_shorter}
use Rattle.pg_short.proofs.Reached.{stands}
use Rattle.pg_short.specs.Searches.IsReached.{first, next}

pub begins : (t : Task) → Searches t [] (first_state t.start ∷ [])
begins t = record {
  reached = λ s c. absurd (in_nil s c);
  waits = λ s c. subst (IsReached t) (in_one (first_state t.start) s c) first;
  begun = inr (record { by = first_state t.start; there = in_here (first_state t.start) [] (first_state t.start) refl; same = refl; short = omega arith });
  closed = λ s c m f. absurd (in_nil s m);
  least = λ s r m h e. absurd (in_nil s m);
  apart = tt;
}

-- nothing but this state is taken from those that wait
pub record IsTaken (e : State) (wait rest : List State) : Type 0 where
  pub own : Contains wait e
  pub back : (s : State) → Contains rest s → Contains wait s
  pub stays : (s : State) → Contains wait s → (e ≡ s) ⊎ Contains rest s

-- a spot that is visited, or a state that waits and is no longer
pub data IsCut (t : Task) (all wait : List State) (r : State) : Type 0 where
  visited : IsCovered t all r → IsCut t all wait r
  waiting : (w : State) → Contains wait w → length w.hops ≤ length r.hops → IsCut t all wait r

module _ (tells : TestsTell) (t : Task) (walk : is_walk t.mode ≡ true) where
  covered_cut : (all wait : List State) (c r : State) → length c.hops ≤ length r.hops → spot_of t.stages c ≡ spot_of t.stages r → IsCovered t all c ⊎ IsCovered t wait c → IsCut t all wait r
  covered_cut all wait c r l e (inl k) = visited (record { by = k.by; there = k.there; same = k.same ∙ e; short = let a = k.short in omega arith })
  covered_cut all wait c r l e (inr k) = waiting k.by k.there (let a = k.short in omega arith)

  cut : (all wait : List State) → Searches t all wait → (r : State) → IsReached t r → IsCut t all wait r
  cut all wait v r first = covered_cut all wait (first_state t.start) (first_state t.start) (omega arith) refl v.begun
  cut all wait v r (next p h c f) = go (cut all wait v p h)
    where
      go : IsCut t all wait p → IsCut t all wait c
      go (visited k) =
          let a = follows_alike tells t walk k.by p c k.same (stands tells t walk k.by (v.reached k.by k.there)).agree f in
          covered_cut all wait a.next c (let l = a.long in let m = k.short in omega arith) a.same (v.closed k.by a.next k.there a.follows)
      go (waiting w i l) = waiting w i (let m = no_shorter t p c f in omega arith)

  -- where none waits, each spot that a walk comes to is visited
  pub all_covered : (all : List State) → Searches t all [] → (r : State) → IsReached t r → IsCovered t all r
  all_covered all v r h = go (cut all [] v r h)
    where
      go : IsCut t all [] r → IsCovered t all r
      go (visited k) = k
      go (waiting w i l) = absurd (in_nil w i)

  -- a state whose spot is visited is passed over
  pub passes : (all wait rest : List State) (e : State) → IsTaken e wait rest → Contains (map (spot_of t.stages) all) (spot_of t.stages e) → Searches t all wait → Searches t all rest
  passes all wait rest e taken known v = record {
    reached = v.reached;
    waits = λ s c. v.waits s (taken.back s c);
    begun = moved (first_state t.start) v.begun;
    closed = λ s c m f. moved c (v.closed s c m f);
    least = v.least;
    apart = v.apart;
  }
    where
      k : (x : State) × Contains all x × (spot_of t.stages x ≡ spot_of t.stages e)
      k = from_map (spot_of t.stages) all (spot_of t.stages e) known

      moved : (c : State) → IsCovered t all c ⊎ IsCovered t wait c → IsCovered t all c ⊎ IsCovered t rest c
      moved c (inl a) = inl a
      moved c (inr b) = elim (taken.stays b.by b.there) [
        | inl e ↦ inl (record {
          by = k.0;
          there = k.1;
          same = k.2 ∙ ap (spot_of t.stages) e ∙ b.same;
          short = let l = v.least k.0 b.by k.1 (v.waits b.by b.there) (k.2 ∙ ap (spot_of t.stages) e) in let m = b.short in omega arith;
        })
        | inr r ↦ inr (record { by = b.by; there = r; same = b.same; short = b.short })
      ]

  -- a state of least length is visited, and what follows it waits from now on
  pub visits : (all wait rest more : List State) (e : State) → IsTaken e wait rest → ((w : State) → Contains wait w → length e.hops ≤ length w.hops)
      → (Contains (map (spot_of t.stages) all) (spot_of t.stages e) → ⊥)
      → ((s : State) → Contains rest s → Contains more s) → ((c : State) → Follows t e c → Contains more c) → ((s : State) → Contains more s → Contains rest s ⊎ Follows t e s)
      → Searches t all wait → Searches t (all ++ e ∷ []) more
  visits all wait rest more e taken low new keeps adds whence v = record {
    reached = λ s c. elim (in_append all (e ∷ []) s c) [ inl a ↦ v.reached s a | inr b ↦ subst (IsReached t) (in_one e s b) reached_e ];
    waits = λ s c. elim (whence s c) [ inl a ↦ v.waits s (taken.back s a) | inr f ↦ next e reached_e s f ];
    begun = moved (first_state t.start) v.begun;
    closed = λ s c m f. elim (in_append all (e ∷ []) s m) [
      | inl a ↦ moved c (v.closed s c a f)
      | inr b ↦ inr (record { by = c; there = adds c (subst (λ x. Follows t x c) (sym (in_one e s b)) f); same = refl; short = omega arith })
    ];
    least = λ s r m h q. elim (in_append all (e ∷ []) s m) [
      | inl a ↦ v.least s r a h q
      | inr b ↦ subst (λ x. length x.hops ≤ length r.hops) (in_one e s b) (least_e r h (ap (spot_of t.stages) (in_one e s b) ∙ q) (cut all wait v r h))
    ];
    apart = apart_push (map (spot_of t.stages) all) v.apart new;
  }
    where
      reached_e : IsReached t e
      reached_e = v.waits e taken.own

      own : Contains (all ++ e ∷ []) e
      own = in_right all (e ∷ []) e (in_here e [] e refl)

      moved : (c : State) → IsCovered t all c ⊎ IsCovered t wait c → IsCovered t (all ++ e ∷ []) c ⊎ IsCovered t more c
      moved c (inl a) = inl (record { by = a.by; there = in_left all (e ∷ []) a.by a.there; same = a.same; short = a.short })
      moved c (inr b) = elim (taken.stays b.by b.there) [
        | inl q ↦ inl (record { by = e; there = own; same = ap (spot_of t.stages) q ∙ b.same; short = let l = b.short in let m = ap (λ (x : State). length x.hops) q in omega arith })
        | inr r ↦ inr (record { by = b.by; there = keeps b.by r; same = b.same; short = b.short })
      ]

      least_e : (r : State) → IsReached t r → spot_of t.stages e ≡ spot_of t.stages r → IsCut t all wait r → length e.hops ≤ length r.hops
      least_e r h q (visited k) = absurd (new (subst (λ z. Contains (map (spot_of t.stages) all) z) (k.same ∙ sym q) (in_map (spot_of t.stages) all k.by k.there)))
      least_e r h q (waiting w i l) = let m = low w i in omega arith

      map_push : (xs : List State) → map (spot_of t.stages) (xs ++ e ∷ []) ≡ map (spot_of t.stages) xs ++ spot_of t.stages e ∷ []
      map_push [] = refl
      map_push (x ∷ xs) = ap (λ ys. spot_of t.stages x ∷ ys) (map_push xs)

      distinct_push : (xs : List Spot) → Distinct xs → (Contains xs (spot_of t.stages e) → ⊥) → Distinct (xs ++ spot_of t.stages e ∷ [])
      distinct_push [] d out = (λ c. in_nil (spot_of t.stages e) c, tt)
      distinct_push (x ∷ xs) d out = (
        λ c. elim (in_append xs (spot_of t.stages e ∷ []) x c) [ inl a ↦ d.0 a | inr b ↦ out (in_here x xs (spot_of t.stages e) (sym (in_one (spot_of t.stages e) x b))) ],
        distinct_push xs d.1 (λ c. out (in_there x xs (spot_of t.stages e) c)),
      )

      apart_push : (xs : List Spot) → Distinct xs → (Contains xs (spot_of t.stages e) → ⊥) → Distinct (map (spot_of t.stages) (all ++ e ∷ []))
      apart_push xs d out = subst Distinct (sym (map_push all)) (distinct_push (map (spot_of t.stages) all) v.apart new)
