-- States are put one after another, while the numbers grow.
use Rattle.std.proofs.Common.{◌≡◌, ◌<◌, ◌≤◌, ℕ, zero, suc, arith, List, [], ◌∷◌, ◌++◌, map, length, Contains, inl, inr, refl, ap, sym, ◌∙◌, subst, append-nil}
use Rattle.std.specs.Prelude.{flat_map, slice_index_or, slice_get, Some, None}
use Rattle.std.proofs.lemmas.Grind.{flat_map-append}
use Rattle.pg_keyed.specs.Lists.{Each, each_map, each_append}
use Rattle.pg_meaning.specs.Walks.{Hop}
use Rattle.pg_meaning.specs.Members.{in_nil, in_cons}
use Rattle.pg_auto.specs.Stages.{Stage}
use Rattle.pg_auto.specs.States.{State}
use Rattle.pg_auto.specs.Tests.{permits, agrees}
use Rattle.pg_ast.specs.declared.pattern.Mode.{Mode}
use Rattle.std.proofs.lemmas.List.{length-map}
use Rattle.pg_search.specs.declared.states.Kept.{Kept}
use Rattle.pg_search.specs.Puts.{IsPut}
use Rattle.pg_search.specs.Numbers.{Numbers, AreNumbers, Grow, IsWithin, hops_at, state_of}
use Rattle.pg_search.specs.Searches.{IsRoundWalk, IsSomeRound, AreRounds, IsFine, IsEntered, ArePut, PutStates}
use Rattle.pg_search.proofs.Numbers.{grow_none, grow_on, state_stays, within_stays, put_states}
use Rattle.pg_search.proofs.Naming.{last_of, length_push, map_push}
use Rattle.pg_search.proofs.LinkedLists.{last_is}

pub each_in : {X : Type 0} (P : X → Type 0) (xs : List X) → Each P xs → (x : X) → Contains xs x → P x
each_in P [] h x c = absurd (in_nil x c)
each_in P (y ∷ ys) h x c = elim (in_cons y ys x c) [ inl e ↦ subst P e h.0 | inr r ↦ each_in P ys h.1 x r ]

pub all_within : (n m : Numbers) → Grow n m → (all : List Kept) → Each (IsWithin n) all → Each (IsWithin m) all
all_within n m grow all = each_map (IsWithin n) (IsWithin m) (within_stays n m grow) all

pub all_stay : (n m : Numbers) → Grow n m → (all : List Kept) → Each (IsWithin n) all → map (state_of m) all ≡ map (state_of n) all
all_stay n m grow [] w = refl
all_stay n m grow (a ∷ all) w = let x = state_stays n m grow a w.0 in let y = all_stay n m grow all w.1 in λ i. x i ∷ y i

pub put_append : (all : List State) (xs ys : List State) (mid more : List State) → ArePut all xs mid → ArePut mid ys more → ArePut all (xs ++ ys) more
put_append all [] ys mid more p q = subst (λ zs. ArePut zs ys more) (sym p) q
put_append all (x ∷ xs) ys mid more p q = (p.0, p.1, put_append p.0 xs ys mid more p.2 q)

pub put_none : (n m : Numbers) → Grow n m → (all : List Kept) → Each (IsWithin n) all → PutStates n m all all []
put_none n m grow all w = record { grow = grow; within = all_within n m grow all w; are = refl }

pub put_on : (n m l : Numbers) (a b c : List Kept) (xs ys : List State) → Each (IsWithin n) a → PutStates n m a b xs → PutStates m l b c ys → PutStates n l a c (xs ++ ys)
put_on n m l a b c xs ys w p q = record {
  grow = grow_on n m l p.grow q.grow;
  within = q.within;
  are = put_append (map (state_of l) a) xs ys (map (state_of l) b) (map (state_of l) c)
      (subst (λ zs. ArePut zs xs (map (state_of l) b)) (sym (all_stay m l q.grow a (all_within n m p.grow a w))) (subst (λ zs. ArePut (map (state_of m) a) xs zs) (sym (all_stay m l q.grow b p.within)) p.are))
      q.are;
}

-- a state that is put
pub put_one : (n m : Numbers) → AreNumbers m → (next : Kept) (s : State) → IsEntered n m next s → (old new : List Kept) → Each (IsWithin n) old → IsPut old next new → PutStates n m old new (s ∷ [])
put_one n m are next s e old new w p =
    let own = all_within n m e.grow old w in
    record {
      grow = e.grow;
      within = go own p;
      are = (map (state_of m) new, subst (λ z. IsPut (map (state_of m) old) z (map (state_of m) new)) e.stands (put_states m are old next new (each_in (IsWithin m) old own) e.within p), refl);
    }
  where
    go : Each (IsWithin m) old → IsPut old next new → Each (IsWithin m) new
    go own (inl q) = subst (λ ks. Each (IsWithin m) ks) (sym q.0) own
    go own (inr q) = subst (λ ks. Each (IsWithin m) ks) (sym q.0) (each_append (IsWithin m) old (next ∷ []) own (e.within, tt))

-- ROUND BY ROUND

pub some_on : (n m : Numbers) → Grow n m → (state : Kept) → IsWithin n state → (stage : Stage) (walk : ℕ) → IsSomeRound n state stage walk → IsSomeRound m state stage walk
some_on n m grow state w stage walk r = record {
  within = let a = r.within in let b = grow.more_walks in omega arith;
  hops = r.hops;
  round = record { stands = grow.hops walk r.within ∙ r.round.stands ∙ ap (λ hs. hs ++ r.hops) (sym (grow.hops state.walk w.walk)); long = r.round.long };
}

pub fine_on : (n m : Numbers) (mode : Mode) → Grow n m → (state : Kept) → IsFine n mode state → IsFine m mode state
fine_on n m mode grow state f = record {
  within = within_stays n m grow state f.within;
  permitted = (λ i. permits mode (grow.start i) (grow.hops state.walk f.within.walk i)) ∙ f.permitted;
  agree = ap agrees (grow.mentions state.singles f.within.singles) ∙ f.agree;
}

-- the rounds of walks of which one is the last
pub rounds_split : (n : Numbers) (state : Kept) (stage : Stage) (walks : List ℕ) (walk : ℕ) (rounds : List (List Hop)) → AreRounds n state stage (walks ++ walk ∷ []) rounds
    → (front : List (List Hop)) × (last : List Hop) × (rounds ≡ front ++ last ∷ []) × AreRounds n state stage walks front × IsRoundWalk n state stage walk last
rounds_split n state stage walks walk rounds are =
    let end = last_of rounds (length walks) (sym (length-map rounds _) ∙ ap length (sym are.stand) ∙ length-map (walks ++ walk ∷ []) (hops_at n) ∙ length_push walks walk) in
    let same = last_is (map (hops_at n) walks) (map (λ hops. hops_at n state.walk ++ hops) end.0) (hops_at n walk) (hops_at n state.walk ++ end.1)
    (sym (map_push (hops_at n) walks walk) ∙ are.stand ∙ ap (map (λ hops. hops_at n state.walk ++ hops)) end.2 ∙ map_push (λ hops. hops_at n state.walk ++ hops) end.0 end.1) in
    let long = each_split (λ hops. length hops ≡ length stage.round.legs) end.0 end.1 (subst (λ rs. Each (λ hops. length hops ≡ length stage.round.legs) rs) end.2 are.long) in
    (end.0, end.1, end.2, record { stand = same.0; long = long.0 }, record { stands = same.1; long = long.1 })
  where
    each_split : {X : Type 0} (P : X → Type 0) (xs : List X) (x : X) → Each P (xs ++ x ∷ []) → Each P xs × P x
    each_split P [] x h = (tt, h.0)
    each_split P (y ∷ ys) x h = let r = each_split P ys x h.1 in ((h.0, r.0), r.1)

pub rounds_none : (n : Numbers) (state : Kept) (stage : Stage) (all : List Kept) → Each (IsWithin n) all → (f : List Hop → List State) (rounds : List (List Hop)) → AreRounds n state stage [] rounds → PutStates n n all all (flat_map f rounds)
rounds_none n state stage all w f [] are = put_none n n (grow_none n) all w
rounds_none n state stage all w f (r ∷ rs) are = absurd (let e : length {A = List Hop} [] ≡ suc (length (map (λ hops. hops_at n state.walk ++ hops) rs)) = ap length are.stand in cc)

-- one round more: `f` gives its state over the numbers that were, and `h` over those that are
pub rounds_more : (n m l : Numbers) (state : Kept) → IsWithin n state → (stage : Stage) (walks : List ℕ) (walk : ℕ) → walk < length n.walks → Grow n m → (a b c : List Kept) → Each (IsWithin n) a → (f h : List Hop → List State) → ((hops : List Hop) → h hops ≡ f hops)
    → ((rounds : List (List Hop)) → AreRounds n state stage walks rounds → PutStates n m a b (flat_map f rounds)) → ((hops : List Hop) → IsRoundWalk m state stage walk hops → PutStates m l b c (h hops))
    → (rounds : List (List Hop)) → AreRounds n state stage (walks ++ walk ∷ []) rounds → PutStates n l a c (flat_map f rounds)
unfolding some_on rounds_split
rounds_more n m l state within stage walks walk w grow a b c kept f h same before one rounds are =
    let split = rounds_split n state stage walks walk rounds are in
    let last = some_on n m grow state within stage walk (record { within = w; hops = split.1; round = split.4 }) in
    let p = before split.0 split.3 in
    let q = one split.1 last.round in
    subst (λ ss. PutStates n l a c ss)
    (ap (λ ss. flat_map f split.0 ++ ss) (same split.1 ∙ sym (append-nil (f split.1))) ∙ sym (flat_map-append f split.0 (split.1 ∷ [])) ∙ ap (flat_map f) (sym split.2))
    (put_on n m l a b c (flat_map f split.0) (h split.1) kept p q)

-- AT A PLACE

pub each_at : {X Y : Type 0} (P : Y → Type 0) (f : X → Y) (xs : List X) (i : ℕ) (x : X) → Each P (map f xs) → i < length xs → x ≡ slice_index_or xs i x → P (f x)
each_at P f [] i x h l e = absurd (omega arith)
each_at P f (y ∷ ys) zero x h l e = subst (λ z. P (f z)) (sym e) h.0
each_at P f (y ∷ ys) (suc i) x h l e = each_at P f ys i x h.1 (omega arith) e

pub get_at : {X Y : Type 0} (f : X → Y) (xs : List X) (i : ℕ) (x : X) → i < length xs → x ≡ slice_index_or xs i x → slice_get (map f xs) i ≡ Some (f x)
get_at f [] i x l e = absurd (omega arith)
get_at f (y ∷ ys) zero x l e = ap (λ z. Some (f z)) (sym e)
get_at f (y ∷ ys) (suc i) x l e = get_at f ys i x (omega arith) e

pub get_none : {X Y : Type 0} (f : X → Y) (xs : List X) (i : ℕ) → length xs ≤ i → slice_get (map f xs) i ≡ None
get_none f [] zero l = refl
get_none f [] (suc i) l = refl
get_none f (y ∷ ys) zero l = absurd (omega arith)
get_none f (y ∷ ys) (suc i) l = get_none f ys i (omega arith)
