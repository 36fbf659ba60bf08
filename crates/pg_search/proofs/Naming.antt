-- What a round names, mention by mention.
use Rattle.std.proofs.Common.{◌≡◌, ◌<◌, ◌==◌, ◌||◌, ◌+◌, ℕ, zero, suc, Bool, true, false, not, cond, arith, List, [], ◌∷◌, ◌++◌, map, filter, length, take, get_or, Contains, refl, ap, sym, ◌∙◌, subst, append_assoc, append-nil, eq-eqb}
use Rattle.std.specs.Prelude.{Option, Some, None, slice_get, OnOk}
use Rattle.std.specs.declared.result.Result.{Result}
use Rattle.std.specs.declared.result.Result.TheVariants.{Ok, Err}
use Rattle.std.proofs.lemmas.Cmp.{nat_eq_equiv}
use Rattle.std.specs.Option.{unwrap_or}
use Rattle.std.proofs.lemmas.List.{map-append}
use Rattle.std.proofs.lemmas.Bool.{eqb-true}
use Rattle.pg_keyed.specs.Lists.{each_append}
use Rattle.pg_meaning.specs.declared.checked.CFiller.{CFiller}
use Rattle.pg_meaning.specs.Rounds.{Leg}
use Rattle.pg_meaning.specs.Walks.{Hop}
use Rattle.pg_meaning.specs.Fits.{Mention, mention, node_mention, seen_on_legs}
use Rattle.pg_meaning.specs.Members.{in_right, in_here}
use Rattle.pg_search.specs.declared.chains.Link.{Link}
use Rattle.pg_search.specs.Chains.{list_at, item_of, extended}
use Rattle.pg_search.specs.Numbers.{Numbers, AreNumbers, Grow, elem_at, hop_of, mention_of, hops_at, mentions_at}
use Rattle.pg_search.specs.Seen.{mention_no, node_mention_no, leg_nos, has_variable, firsts_no, with_first}
use Rattle.pg_search.specs.Steps.{IsNamed, AreSeen}
use Rattle.pg_search.proofs.Numbers.{grow_none, grow_on, hops_extended}
use Rattle.pg_search.proofs.LinkedLists.{last_is}

-- NAMING

pub name_none : (n : Numbers) (names : ℕ) → names < length n.names → IsNamed n names [] names n
name_none n names w = record { grow = grow_none n; within = w; stands = sym (append-nil (mentions_at n names)) }

pub map_push : {X Y : Type 0} (f : X → Y) (xs : List X) (x : X) → map f (xs ++ x ∷ []) ≡ map f xs ++ f x ∷ []
map_push f [] x = refl
map_push f (y ∷ ys) x = ap (λ zs. f y ∷ zs) (map_push f ys x)

mention_stays : (n m : Numbers) → Grow n m → (x : ℕ × ℕ) → x.1 < length n.elems → mention_of m x ≡ mention_of n x
mention_stays n m grow x w = let e = grow.elems x.1 w in λ i. record { var = x.0; elem = e i }

pub name_more : (n m l : Numbers) (names at k : ℕ) (ys : List (ℕ × ℕ)) (x : ℕ × ℕ) → IsNamed n names ys at m → x.1 < length n.elems → IsNamed m at (x ∷ []) k l → IsNamed n names (ys ++ x ∷ []) k l
name_more n m l names at k ys x f w s = record {
  grow = grow_on n m l f.grow s.grow;
  within = s.within;
  stands = s.stands
      ∙ ap (λ ms. ms ++ mention_of m x ∷ []) f.stands
      ∙ append_assoc (mentions_at n names) (map (mention_of n) ys) (mention_of m x ∷ [])
      ∙ ap (λ z. mentions_at n names ++ (map (mention_of n) ys ++ z ∷ [])) (mention_stays n m f.grow x w)
      ∙ ap (λ ms. mentions_at n names ++ ms) (sym (map_push (mention_of n) ys x));
}

-- EACH VARIABLE ONCE

-- of others than one variable, a filter keeps those of another
kept_variable : (x y : ℕ) (ms : List (ℕ × ℕ)) → (y == x) ≡ false → has_variable (filter (λ n. not (n.0 == x)) ms) y ≡ has_variable ms y
kept_variable x y [] e = refl
kept_variable x y (m ∷ ms) e = go (m.0 == x) refl (kept_variable x y ms e)
  where
    other : m.0 ≡ x → (m.0 == y) ≡ false
    other h = not_eq (m.0 == y) refl
      where
        not_eq : (b : Bool) → (m.0 == y) ≡ b → (m.0 == y) ≡ false
        not_eq false k = k
        not_eq true k = absurd (let z : true ≡ false = sym (eq-eqb y x (sym (eqb-true m.0 y k) ∙ h)) ∙ e in cc)

    go : (b : Bool) → (m.0 == x) ≡ b → has_variable (filter (λ n. not (n.0 == x)) ms) y ≡ has_variable ms y
        → has_variable (cond (not b) (m ∷ filter (λ n. not (n.0 == x)) ms) (filter (λ n. not (n.0 == x)) ms)) y ≡ ((m.0 == y) || has_variable ms y)
    go false h k = ap (λ z. (m.0 == y) || z) k
    go true h k = k ∙ sym (ap (λ z. z || has_variable ms y) (other (eqb-true m.0 x h)))

filter_push : (test : ℕ × ℕ → Bool) (xs : List (ℕ × ℕ)) (x : ℕ × ℕ) → filter test (xs ++ x ∷ []) ≡ filter test xs ++ cond (test x) (x ∷ []) []
filter_push test [] x = refl
filter_push test (y ∷ ys) x = go (test y) (filter_push test ys x)
  where
    go : (b : Bool) → filter test (ys ++ x ∷ []) ≡ filter test ys ++ cond (test x) (x ∷ []) []
        → cond b (y ∷ filter test (ys ++ x ∷ [])) (filter test (ys ++ x ∷ [])) ≡ cond b (y ∷ filter test ys) (filter test ys) ++ cond (test x) (x ∷ []) []
    go true h = ap (λ zs. y ∷ zs) h
    go false h = h

first_step : (m x : ℕ × ℕ) (seen : List (ℕ × ℕ)) (b a : Bool) → (x.0 == m.0) ≡ b → (m.0 == x.0) ≡ b → has_variable seen x.0 ≡ a
    → m ∷ filter (λ n. not (n.0 == m.0)) (cond a seen (seen ++ x ∷ []))
    ≡ cond (b || has_variable (filter (λ n. not (n.0 == m.0)) seen) x.0) (m ∷ filter (λ n. not (n.0 == m.0)) seen) (m ∷ (filter (λ n. not (n.0 == m.0)) seen ++ x ∷ []))
first_step m x seen true true e f h = refl
first_step m x seen true false e f h =
    ap (λ ns. m ∷ ns) (filter_push (λ n. not (n.0 == m.0)) seen x ∙ ap (λ b. filter (λ n. not (n.0 == m.0)) seen ++ cond (not b) (x ∷ []) []) e ∙ append-nil (filter (λ n. not (n.0 == m.0)) seen))
first_step m x seen false a e f h =
    go a h ∙ ap (λ c. cond c (m ∷ filter (λ n. not (n.0 == m.0)) seen) (m ∷ (filter (λ n. not (n.0 == m.0)) seen ++ x ∷ []))) (sym (kept_variable m.0 x.0 seen e))
  where
    go : (a : Bool) → has_variable seen x.0 ≡ a → m ∷ filter (λ n. not (n.0 == m.0)) (cond a seen (seen ++ x ∷ []))
        ≡ cond (has_variable seen x.0) (m ∷ filter (λ n. not (n.0 == m.0)) seen) (m ∷ (filter (λ n. not (n.0 == m.0)) seen ++ x ∷ []))
    go true h = ap (λ c. cond c (m ∷ filter (λ n. not (n.0 == m.0)) seen) (m ∷ (filter (λ n. not (n.0 == m.0)) seen ++ x ∷ []))) (sym h)
    go false h =
        ap (λ ns. m ∷ ns) (filter_push (λ n. not (n.0 == m.0)) seen x ∙ ap (λ b. filter (λ n. not (n.0 == m.0)) seen ++ cond (not b) (x ∷ []) []) e)
        ∙ ap (λ c. cond c (m ∷ filter (λ n. not (n.0 == m.0)) seen) (m ∷ (filter (λ n. not (n.0 == m.0)) seen ++ x ∷ []))) (sym h)

pub firsts_push : (ms : List (ℕ × ℕ)) (x : ℕ × ℕ) → firsts_no (ms ++ x ∷ []) ≡ with_first (firsts_no ms) x
firsts_push [] x = refl
firsts_push (m ∷ ms) x = ap (λ ns. m ∷ filter (λ n. not (n.0 == m.0)) ns) (firsts_push ms x) ∙ first_step m x (firsts_no ms) (m.0 == x.0) (has_variable (firsts_no ms) x.0) (eqb_symm x.0 m.0) refl refl
  where
    eqb_symm : (u v : ℕ) → (u == v) ≡ (v == u)
    eqb_symm u v = nat_eq_equiv.symm u v

-- LEG BY LEG

module _ (n : Numbers) where
  filler_seen : (f : CFiller) (k : ℕ) → k < length n.elems → AreSeen n (mention_no f k) (mention f (elem_at n k))
  filler_seen f k l = go f.var
    where
      go : (v : Option ℕ) → AreSeen n (elim v [ None ↦ [] | Some x ↦ (x, k) ∷ [] ]) (elim v [ None ↦ [] | Some x ↦ record { var = x; elem = elem_at n k } ∷ [] ])
      go None = record { within = tt; stand = refl }
      go (Some x) = record { within = (l, tt); stand = refl }

  pub node_seen : (f : Option CFiller) (k : ℕ) → k < length n.elems → AreSeen n (node_mention_no f k) (node_mention f (elem_at n k))
  node_seen None k l = record { within = tt; stand = refl }
  node_seen (Some f) k l = filler_seen f k l

  leg_seen : (leg : Leg) (item : ℕ × ℕ) → item.0 < length n.elems → item.1 < length n.elems → AreSeen n (leg_nos leg item) (mention leg.edge (elem_at n item.0) ++ node_mention leg.node (elem_at n item.1))
  leg_seen leg item e t =
      let a = filler_seen leg.edge item.0 e in
      let b = node_seen leg.node item.1 t in
      record {
        within = each_append (λ m. m.1 < length n.elems) (mention_no leg.edge item.0) (node_mention_no leg.node item.1) a.within b.within;
        stand = map-append (mention_of n) (mention_no leg.edge item.0) (node_mention_no leg.node item.1) ∙ (λ i. a.stand i ++ b.stand i);
      }

-- more mentions behind others
pub seen_append : (n : Numbers) (a b : List (ℕ × ℕ)) (xs ys : List Mention) → AreSeen n a xs → AreSeen n b ys → AreSeen n (a ++ b) (xs ++ ys)
seen_append n a b xs ys x y = record {
  within = each_append (λ m. m.1 < length n.elems) a b x.within y.within;
  stand = map-append (mention_of n) a b ∙ (λ i. x.stand i ++ y.stand i);
}

seen_push : (legs : List Leg) (leg : Leg) (hops : List Hop) (hop : Hop) → length hops ≡ length legs
    → seen_on_legs (legs ++ leg ∷ []) (hops ++ hop ∷ []) ≡ seen_on_legs legs hops ++ (mention leg.edge hop.edge ++ node_mention leg.node hop.to)
seen_push [] leg [] hop e = ap (λ ms. mention leg.edge hop.edge ++ ms) (append-nil (node_mention leg.node hop.to))
seen_push [] leg (h ∷ hs) hop e = absurd (cc)
seen_push (l ∷ ls) leg [] hop e = absurd (cc)
seen_push (l ∷ ls) leg (h ∷ hs) hop e =
    ap (λ ms. mention l.edge h.edge ++ (node_mention l.node h.to ++ ms)) (seen_push ls leg hs hop (let k : length hs ≡ length ls = cc in k))
    ∙ sym (append_assoc (mention l.edge h.edge) (node_mention l.node h.to ++ seen_on_legs ls hs) (mention leg.edge hop.edge ++ node_mention leg.node hop.to)
    ∙ ap (λ ms. mention l.edge h.edge ++ ms) (append_assoc (node_mention l.node h.to) (seen_on_legs ls hs) (mention leg.edge hop.edge ++ node_mention leg.node hop.to)))

-- a list that is not empty has a last item
pub last_of : {X : Type 0} (xs : List X) (n : ℕ) → length xs ≡ suc n → (ys : List X) × (y : X) × (xs ≡ ys ++ y ∷ []) × (length ys ≡ n)
last_of [] n e = absurd (cc)
last_of (x ∷ []) n e = ([], x, refl, let k : 0 ≡ n = cc in k)
last_of (x ∷ y ∷ zs) zero e = absurd (cc)
last_of (x ∷ y ∷ zs) (suc n) e = let r = last_of (y ∷ zs) n (let k : suc (length zs) ≡ suc n = cc in k) in (x ∷ r.0, r.1, ap (λ ws. x ∷ ws) r.2, ap suc r.3)

pub length_push : {X : Type 0} (xs : List X) (x : X) → length (xs ++ x ∷ []) ≡ suc (length xs)
length_push [] x = refl
length_push (y ∷ ys) x = ap suc (length_push ys x)

pub on_legs : (n : Numbers) → AreNumbers n → (legs front : List Leg) (leg : Leg) → legs ≡ front ++ leg ∷ [] → (walk : ℕ) (link : Link) → slice_get n.walks walk ≡ Some (extended n.walks link) → (old mid new : List (ℕ × ℕ))
    → ((seen : List Mention) (base hops : List Hop) → AreSeen n old seen → hops_at n link.before ≡ base ++ hops → length hops ≡ length front → AreSeen n mid (seen ++ seen_on_legs front hops)) → new ≡ mid ++ leg_nos leg (item_of link)
    → (seen : List Mention) (base hops : List Hop) → AreSeen n old seen → hops_at n walk ≡ base ++ hops → length hops ≡ length legs → AreSeen n new (seen ++ seen_on_legs legs hops)
on_legs n are legs front leg split walk link h old mid new again e seen base hops was stands long =
    let end = last_of hops (length front) (long ∙ ap length split ∙ length_push front leg) in
    let same = last_is (base ++ end.0) (hops_at n link.before) end.1 (hop_of n (item_of link))
    (append_assoc base end.0 (end.1 ∷ []) ∙ ap (λ hs. base ++ hs) (sym end.2) ∙ sym stands ∙ hops_extended n walk link h) in
    let item : Contains (list_at n.walks walk) (item_of link) = subst (λ xs. Contains xs (item_of link)) (sym (ap (λ o. unwrap_or o []) h)) (in_right (list_at n.walks link.before) (item_of link ∷ []) (item_of link) (in_here (item_of link) [] (item_of link) refl)) in
    let own = are.of_walks walk (item_of link) item in
    let front_seen = again seen base end.0 was (sym same.0) end.3 in
    let both = seen_append n mid (leg_nos leg (item_of link)) (seen ++ seen_on_legs front end.0) (mention leg.edge (elem_at n link.first) ++ node_mention leg.node (elem_at n link.second)) front_seen (leg_seen n leg (item_of link) own.0 own.1) in
    subst (λ ms. AreSeen n new ms)
    (append_assoc seen (seen_on_legs front end.0) (mention leg.edge (elem_at n link.first) ++ node_mention leg.node (elem_at n link.second))
    ∙ ap (λ (z : Hop). seen ++ (seen_on_legs front end.0 ++ (mention leg.edge z.edge ++ node_mention leg.node z.to))) (sym same.1)
    ∙ ap (λ ms. seen ++ ms) (sym (seen_push front leg end.0 end.1 end.3))
    ∙ (λ i. seen ++ seen_on_legs (sym split i) (sym end.2 i)))
    (subst (λ xs. AreSeen n xs ((seen ++ seen_on_legs front end.0) ++ (mention leg.edge (elem_at n link.first) ++ node_mention leg.node (elem_at n link.second)))) (sym e) both)

-- a list is its front and its last item
pub split_end : {X : Type 0} (xs : List X) (x : X) (i : ℕ) → length xs ≡ i + 1 → x ≡ get_or xs i x → xs ≡ take i xs ++ x ∷ []
split_end [] x i l e = absurd (omega arith)
split_end (y ∷ []) x zero l e = ap (λ z. z ∷ []) (sym e)
split_end (y ∷ z ∷ zs) x zero l e = absurd (omega arith)
split_end (y ∷ ys) x (suc i) l e = ap (λ zs. y ∷ zs) (split_end ys x i (omega arith) e)

pub on_ok : {T E : Type 0} (r : Result T E) (P Q : Type 0) → (P → Q) → OnOk r P → OnOk r Q
on_ok (Ok x) P Q f p = f p
on_ok (Err e) P Q f p = p
