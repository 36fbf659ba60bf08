-- What is left of walks, by numbers that grow.
use Rattle.std.proofs.Common.{◌≡◌, ◌<◌, ◌≤◌, ℕ, zero, suc, List, [], ◌∷◌, ◌++◌, length, map, reverse, Contains, inl, inr, refl, arith, ap, sym, ◌∙◌, subst, append-nil, append_assoc}
use Rattle.std.specs.Prelude.{Option, Some, None}
use Rattle.std.proofs.lemmas.List.{reverse-append}
use Rattle.pg_value.specs.declared.shape.ElemId.{ElemId}
use Rattle.pg_meaning.specs.Walks.{Hop}
use Rattle.pg_meaning.specs.Fits.{Mention}
use Rattle.pg_meaning.specs.Members.{in_here, in_there, in_one, in_append}
use Rattle.pg_auto.specs.States.{Walked}
use Rattle.pg_search.specs.declared.states.Kept.{Kept}
use Rattle.pg_search.specs.Numbers.{Numbers, Grow, elem_at, mention_of, hops_at, mentions_at}
use Rattle.pg_search.specs.Steps.{IsNumbered, IsLonger, IsNamed}
use Rattle.pg_search.specs.Puts.{IsPut}
use Rattle.pg_short.specs.Walks.{Round, singles_at, groups_at}
use Rattle.pg_short.specs.Rests.{Rest, IsWithin, IsFarther, IsNamedOn, IsRest, AreWithin, joined, nothing, round_walk, left_of, rest_of, rests_of}

-- MORE NUMBERS

pub grow_none : (n : Numbers) → Grow n n
grow_none n = record { start = refl; more_elems = omega arith; more_walks = omega arith; more_names = omega arith; elems = λ k l. refl; hops = λ k l. refl; mentions = λ k l. refl }

pub grow_on : (n m l : Numbers) → Grow n m → Grow m l → Grow n l
grow_on n m l g h = record {
  start = h.start ∙ g.start;
  more_elems = let a = g.more_elems in let b = h.more_elems in omega arith;
  more_walks = let a = g.more_walks in let b = h.more_walks in omega arith;
  more_names = let a = g.more_names in let b = h.more_names in omega arith;
  elems = λ k w. h.elems k (let a = g.more_elems in omega arith) ∙ g.elems k w;
  hops = λ k w. h.hops k (let a = g.more_walks in omega arith) ∙ g.hops k w;
  mentions = λ k w. h.mentions k (let a = g.more_names in omega arith) ∙ g.mentions k w;
}

pub within_stays : (n m : Numbers) → Grow n m → (a : Kept) → IsWithin n a → IsWithin m a
within_stays n m grow a w = record {
  walk = let x = w.walk in let y = grow.more_walks in omega arith;
  singles = let x = w.singles in let y = grow.more_names in omega arith;
  groups = let x = w.groups in let y = grow.more_names in omega arith;
  done = w.done;
}

pub left_stays : (n m : Numbers) → Grow n m → (a : Kept) → IsWithin n a → left_of m a ≡ left_of n a
left_stays n m grow a w =
    let hops = grow.hops a.walk w.walk in
    let singles = grow.mentions a.singles w.singles in
    let groups = grow.mentions a.groups w.groups in
    λ i. record { hops = reverse (hops i); singles = reverse (singles i); groups = reverse (groups i) }

pub rests_stay : (n m : Numbers) → Grow n m → (all : List Kept) → AreWithin n all → rests_of m all ≡ rests_of n all
rests_stay n m grow [] w = refl
rests_stay n m grow (a ∷ all) w =
    let one = left_stays n m grow a (w a (in_here a all a refl)) in
    let rest = rests_stay n m grow all (λ b c. w b (in_there a all b c)) in
    λ i. (a.stage, one i) ∷ rest i

-- HOP BY HOP, AND MENTION BY MENTION

pub farther_none : (n : Numbers) (walk : ℕ) → walk < length n.walks → IsFarther n walk [] walk n
farther_none n walk l = record { grow = grow_none n; within = l; stands = sym (append-nil (hops_at n walk)) }

pub farther_more : (n m l : Numbers) (walk at k : ℕ) (hops : List Hop) (hop : Hop) → IsFarther n walk hops at m → IsLonger m at hop k l → IsFarther n walk (hops ++ hop ∷ []) k l
farther_more n m l walk at k hops hop f s = record {
  grow = grow_on n m l f.grow s.grow;
  within = s.within;
  stands = s.stands ∙ ap (λ hs. hs ++ hop ∷ []) f.stands ∙ append_assoc (hops_at n walk) hops (hop ∷ []);
}

pub named_none : (n : Numbers) (names : ℕ) → names < length n.names → IsNamedOn n names [] names n
named_none n names l = record { grow = grow_none n; within = l; stands = sym (append-nil (mentions_at n names)) }

pub named_more : (n m l : Numbers) (names at k : ℕ) (seen : List Mention) (x : Mention) → IsNamedOn n names seen at m → IsNamedOn m at (x ∷ []) k l → IsNamedOn n names (seen ++ x ∷ []) k l
named_more n m l names at k seen x f s = record {
  grow = grow_on n m l f.grow s.grow;
  within = s.within;
  stands = s.stands ∙ ap (λ ms. ms ++ x ∷ []) f.stands ∙ append_assoc (mentions_at n names) seen (x ∷ []);
}

pub named_one : (n m l : Numbers) (names e k var : ℕ) (elem : ElemId) → names < length n.names → IsNumbered n elem e m → IsNamed m names ((var, e) ∷ []) k l
    → IsNamedOn n names (record { var = var; elem = elem } ∷ []) k l
named_one n m l names e k var elem w a s = record {
  grow = grow_on n m l a.grow s.grow;
  within = s.within;
  stands = let is = a.stands in s.stands ∙ (λ i. a.grow.mentions names w i ++ record { var = var; elem = is i } ∷ []);
}

-- A ROUND IN FRONT

pub reverse_twice : {X : Type 0} (xs : List X) → reverse (reverse xs) ≡ xs
reverse_twice [] = refl
reverse_twice (x ∷ xs) = ap reverse (reverse-append (x ∷ []) xs) ∙ reverse-append (reverse xs) (x ∷ []) ∙ ap (λ ys. x ∷ ys) (reverse_twice xs)

in_front : {X : Type 0} (xs ys : List X) → reverse (xs ++ reverse ys) ≡ ys ++ reverse xs
in_front xs ys = reverse-append xs (reverse ys) ∙ ap (λ zs. zs ++ reverse xs) (reverse_twice ys)

pub round_in_front : (n m l o : Numbers) (rest : Kept) (place walk singles groups : ℕ) (r : Round) → IsWithin n rest
    → IsFarther n rest.walk (reverse r.hops) walk m → IsNamedOn m rest.singles (reverse (singles_at r)) singles l → IsNamedOn l rest.groups (reverse (groups_at r)) groups o
    → IsRest n o (record { stage = place; done = 0; walk = walk; singles = singles; groups = groups }) (place, joined (round_walk (Some r)) (left_of n rest))
round_in_front n m l o rest place walk singles groups r w a b c = record {
  grow = grow_on n l o (grow_on n m l a.grow b.grow) c.grow;
  within = record {
    walk = let x = a.within in let y = b.grow.more_walks in let z = c.grow.more_walks in omega arith;
    singles = let x = b.within in let y = c.grow.more_names in omega arith;
    groups = c.within;
    done = refl;
  };
  stands = λ i. (place, record { hops = hops i; singles = names i; groups = more i });
}
  where
    hops : reverse (hops_at o walk) ≡ r.hops ++ reverse (hops_at n rest.walk)
    hops = ap reverse (c.grow.hops walk (let x = a.within in let y = b.grow.more_walks in omega arith) ∙ b.grow.hops walk a.within ∙ a.stands) ∙ in_front (hops_at n rest.walk) r.hops

    names : reverse (mentions_at o singles) ≡ singles_at r ++ reverse (mentions_at n rest.singles)
    names = ap reverse (c.grow.mentions singles b.within ∙ b.stands ∙ ap (λ ms. ms ++ reverse (singles_at r)) (a.grow.mentions rest.singles w.singles)) ∙ in_front (mentions_at n rest.singles) (singles_at r)

    more : reverse (mentions_at o groups) ≡ groups_at r ++ reverse (mentions_at n rest.groups)
    more = ap reverse (c.stands ∙ ap (λ ms. ms ++ reverse (groups_at r)) (b.grow.mentions rest.groups (let x = w.groups in let y = a.grow.more_names in omega arith) ∙ a.grow.mentions rest.groups w.groups))
        ∙ in_front (mentions_at n rest.groups) (groups_at r)
