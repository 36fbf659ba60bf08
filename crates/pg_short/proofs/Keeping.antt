-- Going back over tight steps, one after another, and from what is left of one walk after another.
use Rattle.std.proofs.Common.{◌≡◌, ◌<◌, ◌≤◌, ◌+◌, ℕ, zero, suc, List, [], ◌∷◌, ◌++◌, length, map, take, get_or, reverse, Contains, inl, inr, ◌⊎◌, refl, arith, ap, sym, ◌∙◌, subst, append-nil, append_assoc, add-one}
use Rattle.std.specs.Prelude.{Option, Some, None, flat_map, slice_get}
use Rattle.std.proofs.lemmas.List.{length-map}
use Rattle.pg_value.specs.declared.shape.ElemId.{ElemId}
use Rattle.pg_meaning.specs.Bindings.{Distinct}
use Rattle.pg_meaning.specs.Members.{in_nil, in_here, in_left, in_right, in_one, in_append, in_map, from_map}
use Rattle.pg_auto.specs.Stages.{Stage}
use Rattle.pg_auto.specs.States.{Walked}
use Rattle.pg_search.specs.declared.states.Kept.{Kept}
use Rattle.pg_search.specs.Numbers.{Numbers, Grow, StandApart, first_numbers, hops_at, mentions_at}
use Rattle.pg_search.specs.Puts.{IsPut}
use Rattle.pg_short.specs.Steps.{Step}
use Rattle.pg_short.specs.Tight.{IsPlace, IsTight, AreTight, list_in}
use Rattle.pg_short.specs.Rests.{Rest, IsWithin, IsEndPlace, IsBefore, IsLed, AreLed, IsRest, AreWithin, PutRests, PutBack, AreEnds, nothing, left_of, rest_of, rests_of, end_kept}
use Rattle.pg_short.specs.Rests.IsLed.{ended, back}
use Rattle.pg_short.proofs.Lists.{one_get, within, beyond}
use Rattle.pg_short.proofs.Grown.{get_front}
use Rattle.pg_short.proofs.Searching.{below, get_in, map_both}
use Rattle.pg_short.proofs.FoundSteps.{get_map}
use Rattle.pg_short.proofs.NumberedRests.{grow_none, grow_on, within_stays, left_stays, rests_stay, reverse_twice}
use Rattle.pg_short.proofs.LeastWalks.{distinct_on}

pub take_at : {X : Type 0} (xs : List X) (i : ℕ) (d : X) → i < length xs → take i xs ++ get_or xs i d ∷ [] ≡ take (i + 1) xs
take_at [] i d l = absurd (omega arith)
take_at (y ∷ ys) zero d l = refl
take_at (y ∷ ys) (suc i) d l = rw add-one (ap (λ zs. y ∷ zs) (rw add-one at (take_at ys i d (omega arith))))

pub take_whole : {X : Type 0} (xs : List X) (n : ℕ) → length xs ≤ n → take n xs ≡ xs
take_whole [] zero l = refl
take_whole [] (suc n) l = refl
take_whole (x ∷ xs) zero l = absurd (omega arith)
take_whole (x ∷ xs) (suc n) l = ap (λ ys. x ∷ ys) (take_whole xs n (omega arith))

-- ONE REST IS PUT

module _ (n m : Numbers) (all : List Kept) (a : Kept) (rest : Rest) (w : AreWithin n all) (r : IsRest n m a rest) where
  put_one : (more : List Kept) → IsPut all a more → (Given : Rest → Type 0) → Given rest → PutRests n m all more Given
  put_one more (inl p) Given g = record {
    grow = r.grow;
    within = λ b c. within_stays n m r.grow b (w b (subst (λ xs. Contains xs b) p.0 c));
    new = [];
    whole = ap (rests_of m) p.0 ∙ rests_stay n m r.grow all w ∙ sym (append-nil (rests_of n all));
    given = λ x c. absurd (in_nil x c);
  }
  put_one more (inr p) Given g = record {
    grow = r.grow;
    within = λ b c. elim (in_append all (a ∷ []) b (subst (λ xs. Contains xs b) p.0 c)) [
      | inl x ↦ within_stays n m r.grow b (w b x)
      | inr y ↦ subst (IsWithin m) (in_one a b y) r.within
    ];
    new = rest ∷ [];
    whole = ap (rests_of m) p.0 ∙ map_both (rest_of m) all (a ∷ []) ∙ (λ i. rests_stay n m r.grow all w i ++ r.stands i ∷ []);
    given = λ x c. subst Given (in_one rest x c) g;
  }

  put_there : (more : List Kept) → IsPut all a more → Contains (rests_of m more) rest
  put_there more p = subst (Contains (rests_of m more)) r.stands (in_map (rest_of m) more a (own p))
    where
      own : IsPut all a more → Contains more a
      own (inl q) = subst (λ xs. Contains xs a) (sym q.0) q.1
      own (inr q) = subst (λ xs. Contains xs a) (sym q.0) (in_right all (a ∷ []) a (in_here a [] a refl))

module _ (stages : List Stage) (found : List Step) (order : List ℕ) where
  pub put_step : (n m : Numbers) (all more : List Kept) (a : Kept) (rest : Rest) (k : ℕ) (w : Walked) → AreWithin n all → IsRest n m a rest → IsPut all a more
      → IsBefore stages found order k w rest → PutBack stages found order (k ∷ []) w n m all more
  put_step n m all more a rest k w within r p b = record {
    puts = put_one n m all a rest within r more p (λ x. (j : ℕ) × Contains (k ∷ []) j × IsBefore stages found order j w x) (k, in_here k [] k refl, b);
    each = λ j c. (rest, subst (λ x. IsBefore stages found order x w rest) (in_one k j c) b, put_there n m all a rest within r more p);
  }

  -- OVER SOME STEPS

  pub put_none : (n : Numbers) (all : List Kept) (w : Walked) → AreWithin n all → PutBack stages found order [] w n n all all
  put_none n all w within = record {
    puts = record { grow = grow_none n; within = within; new = []; whole = sym (append-nil (rests_of n all)); given = λ x c. absurd (in_nil x c) };
    each = λ k c. absurd (in_nil k c);
  }

  pub put_more : (n m l : Numbers) (all mid more : List Kept) (ks : List ℕ) (k : ℕ) (w : Walked) → PutBack stages found order ks w n m all mid → PutBack stages found order (k ∷ []) w m l mid more
      → PutBack stages found order (ks ++ k ∷ []) w n l all more
  put_more n m l all mid more ks k w p q = record {
    puts = record {
      grow = grow_on n m l p.puts.grow q.puts.grow;
      within = q.puts.within;
      new = p.puts.new ++ q.puts.new;
      whole = q.puts.whole ∙ ap (λ rs. rs ++ q.puts.new) p.puts.whole ∙ append_assoc (rests_of n all) p.puts.new q.puts.new;
      given = λ x c. elim (in_append p.puts.new q.puts.new x c) [
        | inl a ↦ (let g = p.puts.given x a in (g.0, in_left ks (k ∷ []) g.0 g.1, g.2))
        | inr b ↦ (let g = q.puts.given x b in (g.0, in_right ks (k ∷ []) g.0 g.1, g.2))
      ];
    };
    each = λ j c. elim (in_append ks (k ∷ []) j c) [
      | inl a ↦ (let g = p.each j a in (g.0, g.1, subst (λ rs. Contains rs g.0) (sym q.puts.whole) (in_left (rests_of m mid) q.puts.new g.0 g.2)))
      | inr b ↦ q.each j b
    ];
  }

  -- FROM ONE REST AFTER ANOTHER

  module _ (n m : Numbers) (all more : List Kept) (lists : List (List ℕ)) (tight : AreTight found order lists (length found)) (at : ℕ) (a : Kept) (here : slice_get all at ≡ Some a)
      (p : PutBack stages found order (list_in lists a.stage) (left_of n a) n m all more) (v : AreLed stages found order (rests_of n all) at) where
    abbrev rest : Rest
    rest = rest_of n a

    there : slice_get (rests_of n all) at ≡ Some rest
    there = get_map (rest_of n) all at a here

    stays : (x : Rest) → Contains (rests_of n all) x → Contains (rests_of m more) x
    stays x c = subst (λ rs. Contains rs x) (sym p.puts.whole) (in_left (rests_of n all) p.puts.new x c)

    back_at : (j : ℕ) (x : Rest) → slice_get (rests_of m more) j ≡ Some x → j < length (rests_of n all) → slice_get (rests_of n all) j ≡ Some x
    back_at j x h l = sym (ap (λ rs. slice_get rs j) p.puts.whole ∙ get_front (rests_of n all) p.puts.new j l) ∙ h

    inside : at < length (rests_of n all)
    inside = within (rests_of n all) at rest there

    closed_at : (j k : ℕ) (x : Rest) → j < at + 1 → slice_get (rests_of m more) j ≡ Some x → IsTight found order x.0 k → (y : Rest) × IsBefore stages found order k x.1 y × Contains (rests_of m more) y
    closed_at j k x l h t = elim (below j at) [
      | inl b ↦ (let g = v.closed j k x b (back_at j x h (let i = inside in omega arith)) t in (g.0, g.1, stays g.0 g.2))
      | inr b ↦ (let e : j ≡ at = omega arith in
          let same = one_get (slice_get (rests_of n all) at) x rest (back_at at x (subst (λ (i : ℕ). slice_get (rests_of m more) i ≡ Some x) e h) inside) there in
          let t' = subst (λ (y : Rest). IsTight found order y.0 k) same t in
          let g = p.each k (tight.all rest.0 k (within found k t'.step t'.there) t') in
          (g.0, subst (λ (y : Rest). IsBefore stages found order k y.1 g.0) (sym same) g.1, g.2))
    ]

    pub led_more : AreLed stages found order (rests_of m more) (at + 1)
    led_more = record {
      led = λ x c. elim (in_append (rests_of n all) p.puts.new x (subst (λ rs. Contains rs x) p.puts.whole c)) [
        | inl b ↦ v.led x b
        | inr b ↦ (let g = p.puts.given x b in back rest x g.0 (v.led rest (get_in (rests_of n all) at rest there)) (tight.only rest.0 g.0 g.1) g.2)
      ];
      ended = λ q e. stays (q, nothing) (v.ended q e);
      closed = closed_at;
    }

  -- where nothing more stands
  pub led_all : (n : Numbers) (all : List Kept) (at : ℕ) → slice_get all at ≡ None → AreLed stages found order (rests_of n all) at → AreLed stages found order (rests_of n all) (length all)
  led_all n all at none v = record {
    led = v.led;
    ended = v.ended;
    closed = λ j k x l h t. v.closed j k x (let b = beyond all at none in omega arith) h t;
  }

  -- AT FIRST

  ends_put : (all more : List Kept) (p : ℕ) → AreEnds stages found order all p → IsEndPlace stages found order p → IsPut all (end_kept p) more → AreEnds stages found order more (p + 1)
  ends_put all more p v e put = record {
    only = λ a c. elim (only_of put a c) [ inl x ↦ v.only a x | inr y ↦ subst (λ (b : Kept). (end_kept b.stage ≡ b) × IsEndPlace stages found order b.stage) y (refl, e) ];
    each = λ q l f. elim (below q p) [ inl x ↦ stays_of put (end_kept q) (v.each q x f) | inr y ↦ (let same : p ≡ q = omega arith in subst (λ (x : ℕ). Contains more (end_kept x)) same (own_of put)) ];
  }
    where
      only_of : IsPut all (end_kept p) more → (a : Kept) → Contains more a → Contains all a ⊎ (end_kept p ≡ a)
      only_of (inl q) a c = inl (subst (λ xs. Contains xs a) q.0 c)
      only_of (inr q) a c = elim (in_append all (end_kept p ∷ []) a (subst (λ xs. Contains xs a) q.0 c)) [ inl x ↦ inl x | inr y ↦ inr (in_one (end_kept p) a y) ]

      stays_of : IsPut all (end_kept p) more → (a : Kept) → Contains all a → Contains more a
      stays_of (inl q) a c = subst (λ xs. Contains xs a) (sym q.0) c
      stays_of (inr q) a c = subst (λ xs. Contains xs a) (sym q.0) (in_left all (end_kept p ∷ []) a c)

      own_of : IsPut all (end_kept p) more → Contains more (end_kept p)
      own_of (inl q) = subst (λ xs. Contains xs (end_kept p)) (sym q.0) q.1
      own_of (inr q) = subst (λ xs. Contains xs (end_kept p)) (sym q.0) (in_right all (end_kept p ∷ []) (end_kept p) (in_here (end_kept p) [] (end_kept p) refl))

  pub ends_more : (all more : List Kept) (p : ℕ) → IsEndPlace stages found order p → IsPut all (end_kept p) more → AreEnds stages found order all p → AreEnds stages found order more (p + 1)
  ends_more all more p e put v = ends_put all more p v e put

  pub ends_pass : (all : List Kept) (p : ℕ) → (IsEndPlace stages found order p → ⊥) → AreEnds stages found order all p → AreEnds stages found order all (p + 1)
  ends_pass all p none v = record {
    only = v.only;
    each = λ q l f. elim (below q p) [ inl x ↦ v.each q x f | inr y ↦ (let same : q ≡ p = omega arith in absurd (none (subst (IsEndPlace stages found order) same f))) ];
  }

  pub ends_none : AreEnds stages found order [] 0
  ends_none = record { only = λ a c. absurd (in_nil a c); each = λ p l e. absurd (omega arith) }

  -- before anything has been gone back from, the ends are there
  pub ends_led : (start : ElemId) (all : List Kept) → AreEnds stages found order all (length order) → AreLed stages found order (rests_of (first_numbers start) all) 0
  ends_led start all v = record {
    led = λ x c. (let m = from_map (rest_of (first_numbers start)) all x c in
        let o = v.only m.0 m.1 in
        subst (IsLed stages found order) (ap (rest_of (first_numbers start)) o.0 ∙ m.2) (ended m.0.stage o.1));
    ended = λ p e. in_map (rest_of (first_numbers start)) all (end_kept p) (v.each p (within order p e.1.number e.1.here) e);
    closed = λ j k x l h t. absurd (omega arith);
  }

  pub ends_within : (start : ElemId) (all : List Kept) → AreEnds stages found order all (length order) → AreWithin (first_numbers start) all
  ends_within start all v a c = subst (IsWithin (first_numbers start)) (v.only a c).0 (record { walk = omega arith; singles = omega arith; groups = omega arith; done = refl })

-- DIFFERENT RESTS

reverse_one : {X : Type 0} (xs ys : List X) → reverse xs ≡ reverse ys → xs ≡ ys
reverse_one xs ys e = sym (reverse_twice xs) ∙ ap reverse e ∙ reverse_twice ys

pub distinct_rests : (n : Numbers) → StandApart n → (all : List Kept) → AreWithin n all → Distinct all → Distinct (rests_of n all)
distinct_rests n apart all within d = distinct_on (rest_of n) all (λ a b c e same.
    let x = within a c in
    let y = within b e in
    let stage = ap (λ (r : Rest). r.0) same in
    let done = x.done ∙ sym y.done in
    let walk = apart.hops a.walk b.walk x.walk y.walk (reverse_one (hops_at n a.walk) (hops_at n b.walk) (ap (λ (r : Rest). r.1.hops) same)) in
    let singles = apart.mentions a.singles b.singles x.singles y.singles (reverse_one (mentions_at n a.singles) (mentions_at n b.singles) (ap (λ (r : Rest). r.1.singles) same)) in
    let groups = apart.mentions a.groups b.groups x.groups y.groups (reverse_one (mentions_at n a.groups) (mentions_at n b.groups) (ap (λ (r : Rest). r.1.groups) same)) in
    λ i. record { stage = stage i; done = done i; walk = walk i; singles = singles i; groups = groups i }) d

-- ONE BEHIND ANOTHER

pub flat_at : {X Y : Type 0} (f : X → List Y) (xs : List X) (i : ℕ) → flat_map f (take (i + 1) xs) ≡ flat_map f (take i xs) ++ elim (slice_get xs i) as (λ _. List Y) [ None ↦ [] | Some x ↦ f x ]
flat_at f [] zero = refl
flat_at f [] (suc i) = rw add-one refl
flat_at f (x ∷ xs) zero = append-nil (f x)
flat_at f (x ∷ xs) (suc i) = rw add-one (ap (λ ys. f x ++ ys) (rw add-one at (flat_at f xs i)) ∙ sym (append_assoc (f x) (flat_map f (take i xs)) _))

pub flat_mapped : {X Y Z : Type 0} (f : Y → List Z) (g : X → Y) (xs : List X) → flat_map (λ x. f (g x)) xs ≡ flat_map f (map g xs)
flat_mapped f g [] = refl
flat_mapped f g (x ∷ xs) = ap (λ zs. f (g x) ++ zs) (flat_mapped f g xs)
