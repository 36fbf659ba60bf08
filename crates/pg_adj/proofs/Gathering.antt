-- Edges that rise by the vertex at one end, gathered: groups in order, and at each vertex its edges.
use Rattle.std.proofs.Common.{ℕ, zero, suc, ◌≡◌, ◌<◌, Bool, true, false, cond, List, [], ◌∷◌, ◌++◌, map, length, take, drop, refl, ap, sym, subst, ◌∙◌, arith, get_or, ◌+◌, ◌-◌, ◌≤◌, append_assoc}
use Rattle.std.specs.List.{filter, take-map, drop-map}
use Rattle.std.proofs.lemmas.List.{drop-drop, length-map}
use Rattle.std.specs.declared.option.Option.TheVariants.{Some, None}
use Rattle.std.specs.declared.cmp.Ordering.{Ordering}
use Rattle.std.specs.declared.cmp.Ordering.TheVariants.{Less, Equal, Greater}
use Rattle.std.specs.Ordering.{is_eq, is_lt}
use Rattle.pg_keyed.specs.Keyed.{Above, Ascends}
use Rattle.pg_keyed.specs.Orders.{same, turn, is_equal}
use Rattle.pg_keyed.specs.Ranks.{above_none, above_less}
use Rattle.pg_keyed.specs.Lists.{Each}
use Rattle.pg_value.specs.declared.value.Value.{Value}
use Rattle.pg_value.specs.declared.value.Dir.{Dir}
use Rattle.pg_value.specs.declared.row.Key.{Key}
use Rattle.pg_value.specs.Order.{key_cmp}
use Rattle.pg_value.specs.Orders.{keys}
use Rattle.pg_adj.specs.declared.ends.EdgeEnds.{EdgeEnds}
use Rattle.pg_adj.specs.declared.seen.Seen.{Seen}
use Rattle.pg_adj.specs.declared.group.Group.{Group}
use Rattle.pg_adj.specs.Entries.{Entry, is_at}
use Rattle.pg_adj.specs.Gather.{plain, plains, StartsFrom, Rises, AreSeen, group_of, join, gather, StartsOther, IsRun}
use Rattle.pg_adj.specs.Groups.{vertex_of, group_at, edges_of, others_of, AreGroups}

-- RUNS

-- the first group has another vertex
abbrev OtherGroup : List Value → List Group → Type 0
OtherGroup v [] = Unit {0}
OtherGroup v (g ∷ gs) = is_eq (key_cmp v (vertex_of g)) ≡ false

-- the first group has the first edge's vertex
abbrev FirstOf : List Entry → List Group → Type 0
FirstOf [] gs = gs ≡ []
FirstOf (e ∷ es) gs = (g : Group) × (rest : List Group) × (gs ≡ g ∷ rest) × (vertex_of g ≡ e.vertex.values)

join_first : (e : Entry) (es : List Entry) (gs : List Group) → FirstOf (e ∷ es) (join e gs)
join_first e es [] = (_, _, refl, refl)
join_first e es (g ∷ gs) = elim (is_eq (key_cmp e.vertex.values (vertex_of g))) as (λ b. FirstOf (e ∷ es) (cond b (record { vertex = e.vertex; edges = e.edge ∷ g.edges; others = e.other ∷ g.others } ∷ gs) (group_of e.vertex (e ∷ []) ∷ g ∷ gs))) [ true ↦ (_, _, refl, refl) | false ↦ (_, _, refl, refl) ]

first : (es : List Entry) → FirstOf es (gather es)
first [] = refl
first (e ∷ es) = join_first e es (gather es)

other_group : (v : List Value) (es : List Entry) → StartsOther v es → OtherGroup v (gather es)
other_group v [] h = tt
other_group v (e ∷ es) h = let f = first (e ∷ es) in subst (OtherGroup v) (sym f.2) (ap (λ w. is_eq (key_cmp v w)) f.3 ∙ h)

join_other : (e : Entry) (gs : List Group) → OtherGroup e.vertex.values gs → join e gs ≡ group_of e.vertex (e ∷ []) ∷ gs
join_other e [] h = refl
join_other e (g ∷ gs) h = rw h refl

join_same : (e : Entry) (v : Key) (es : List Entry) (gs : List Group) → is_at v.values e ≡ true → join e (group_of v es ∷ gs) ≡ group_of v (e ∷ es) ∷ gs
join_same e v es gs h = go (keys.exact v.values e.vertex.values (is_equal _ h))
  where
    go : v.values ≡ e.vertex.values → join e (group_of v es ∷ gs) ≡ group_of v (e ∷ es) ∷ gs
    go p = rw (ap (λ w. is_eq (key_cmp e.vertex.values w)) p ∙ ap is_eq (same keys e.vertex.values)) (λ i. record { vertex = record { values = sym p i }; edges = map (λ x. x.edge) (e ∷ es); others = map (λ x. x.other) (e ∷ es) } ∷ gs)

one_other : (e : Entry) (v : Key) (gs : List Group) → is_at v.values e ≡ true → OtherGroup v.values gs → join e gs ≡ group_of v (e ∷ []) ∷ gs
one_other e v gs h o =
    let p = keys.exact v.values e.vertex.values (is_equal _ h) in
    join_other e gs (subst (λ w. OtherGroup w gs) p o) ∙ (λ i. record { vertex = record { values = sym p i }; edges = e.edge ∷ []; others = e.other ∷ [] } ∷ gs)

run_gathers : (v : Key) (e : Entry) (es rest : List Entry) → Each (λ x. is_at v.values x ≡ true) (e ∷ es) → StartsOther v.values rest → gather ((e ∷ es) ++ rest) ≡ group_of v (e ∷ es) ∷ gather rest
run_gathers v e [] rest h o = one_other e v (gather rest) h.0 (other_group v.values rest o)
run_gathers v e (f ∷ es) rest h o = ap (join e) (run_gathers v f es rest h.1 o) ∙ join_same e v (f ∷ es) (gather rest) h.0

cut : {X : Type 0} (n : ℕ) (xs : List X) → take n xs ++ drop n xs ≡ xs
cut zero xs = refl
cut (suc n) [] = refl
cut (suc n) (x ∷ xs) = ap (λ ys. x ∷ ys) (cut n xs)

pub next_group : (v : Key) (e : Entry) (es : List Entry) (n : ℕ) → is_at v.values e ≡ true → IsRun v.values (e ∷ es) n → (0 < n) × (gather (e ∷ es) ≡ group_of v (take n (e ∷ es)) ∷ gather (drop n (e ∷ es)))
next_group v e es zero h r = absurd (true_false (sym h ∙ r.ends))
  where
    true_false : true ≡ false → ⊥
    true_false q = cc
next_group v e es (suc n) h r = (omega arith, ap gather (sym (cut (suc n) (e ∷ es))) ∙ run_gathers v e (take n es) (drop n es) r.same r.ends)

-- GROUPS

record Gathered (es : List Entry) (gs : List Group) : Type 0 where
  in_order : Ascends vertex_of key_cmp gs
  full : Each (λ g. 0 < length g.edges) gs
  edges : (v : List Value) → edges_of (group_at v gs) ≡ map (λ e. e.edge) (filter (is_at v) es)
  others : (v : List Value) → others_of (group_at v gs) ≡ map (λ e. e.other) (filter (is_at v) es)

abbrev put : Entry → Group → Group
put e g = record { vertex = e.vertex; edges = e.edge ∷ g.edges; others = e.other ∷ g.others }

-- an edge of the first group's vertex
with_first : (e : Entry) (es : List Entry) (g : Group) (gs : List Group) → e.vertex.values ≡ vertex_of g → Gathered es (g ∷ gs) → Gathered (e ∷ es) (put e g ∷ gs)
with_first e es g gs p r = record {
  in_order = (subst (λ w. Above vertex_of key_cmp w gs) (sym p) r.in_order.0, r.in_order.1);
  full = (omega arith, r.full.1);
  edges = λ v. seen v (is_eq (key_cmp v e.vertex.values)) (ap (λ w. is_eq (key_cmp v w)) (sym p)) (r.edges v);
  others = λ v. other v (is_eq (key_cmp v e.vertex.values)) (ap (λ w. is_eq (key_cmp v w)) (sym p)) (r.others v);
}
  where
    seen : (v : List Value) (b : Bool) → is_eq (key_cmp v (vertex_of g)) ≡ b → edges_of (cond (is_eq (key_cmp v (vertex_of g))) (Some g) (group_at v gs)) ≡ map (λ x. x.edge) (filter (is_at v) es)
        → edges_of (cond b (Some (put e g)) (group_at v gs)) ≡ map (λ x. x.edge) (cond b (e ∷ filter (is_at v) es) (filter (is_at v) es))
    seen v true q h = ap (λ ks. e.edge ∷ ks) (ap (λ c. edges_of (cond c (Some g) (group_at v gs))) (sym q) ∙ h)
    seen v false q h = ap (λ c. edges_of (cond c (Some g) (group_at v gs))) (sym q) ∙ h

    other : (v : List Value) (b : Bool) → is_eq (key_cmp v (vertex_of g)) ≡ b → others_of (cond (is_eq (key_cmp v (vertex_of g))) (Some g) (group_at v gs)) ≡ map (λ x. x.other) (filter (is_at v) es)
        → others_of (cond b (Some (put e g)) (group_at v gs)) ≡ map (λ x. x.other) (cond b (e ∷ filter (is_at v) es) (filter (is_at v) es))
    other v true q h = ap (λ ks. e.other ∷ ks) (ap (λ c. others_of (cond c (Some g) (group_at v gs))) (sym q) ∙ h)
    other v false q h = ap (λ c. others_of (cond c (Some g) (group_at v gs))) (sym q) ∙ h

-- an edge of a vertex below all groups
in_front : (e : Entry) (es : List Entry) (gs : List Group) → Above vertex_of key_cmp e.vertex.values gs → Gathered es gs → Gathered (e ∷ es) (group_of e.vertex (e ∷ []) ∷ gs)
in_front e es gs a r = record {
  in_order = (a, r.in_order);
  full = (omega arith, r.full);
  edges = λ v. seen v (is_eq (key_cmp v e.vertex.values)) refl (r.edges v);
  others = λ v. other v (is_eq (key_cmp v e.vertex.values)) refl (r.others v);
}
  where
    none : (v : List Value) → is_eq (key_cmp v e.vertex.values) ≡ true → group_at v gs ≡ None
    none v q = above_none vertex_of key_cmp keys v gs (subst (λ w. Above vertex_of key_cmp w gs) (sym (keys.exact v e.vertex.values (is_equal _ q))) a)

    seen : (v : List Value) (b : Bool) → is_eq (key_cmp v e.vertex.values) ≡ b → edges_of (group_at v gs) ≡ map (λ x. x.edge) (filter (is_at v) es)
        → edges_of (cond b (Some (group_of e.vertex (e ∷ []))) (group_at v gs)) ≡ map (λ x. x.edge) (cond b (e ∷ filter (is_at v) es) (filter (is_at v) es))
    seen v true q h = ap (λ ks. e.edge ∷ ks) (ap edges_of (sym (none v q)) ∙ h)
    seen v false q h = h

    other : (v : List Value) (b : Bool) → is_eq (key_cmp v e.vertex.values) ≡ b → others_of (group_at v gs) ≡ map (λ x. x.other) (filter (is_at v) es)
        → others_of (cond b (Some (group_of e.vertex (e ∷ []))) (group_at v gs)) ≡ map (λ x. x.other) (cond b (e ∷ filter (is_at v) es) (filter (is_at v) es))
    other v true q h = ap (λ ks. e.other ∷ ks) (ap others_of (sym (none v q)) ∙ h)
    other v false q h = h

-- an edge whose vertex is not above the first group's
joined : (e : Entry) (es : List Entry) (gs : List Group) → ((g : Group) (rest : List Group) → gs ≡ g ∷ rest → is_lt (key_cmp (vertex_of g) e.vertex.values) ≡ false) → Gathered es gs → Gathered (e ∷ es) (join e gs)
joined e es [] h r = in_front e es [] tt r
joined e es (g ∷ gs) h r = go (key_cmp e.vertex.values (vertex_of g)) refl
  where
    less_false : is_lt Less ≡ false → ⊥
    less_false q = cc

    go : (o : Ordering) → key_cmp e.vertex.values (vertex_of g) ≡ o → Gathered (e ∷ es) (cond (is_eq o) (put e g ∷ gs) (group_of e.vertex (e ∷ []) ∷ g ∷ gs))
    go Less p = in_front e es (g ∷ gs) (p, above_less vertex_of key_cmp keys e.vertex.values (vertex_of g) gs p r.in_order.0) r
    go Equal p = with_first e es g gs (keys.exact _ _ p) r
    go Greater p = absurd (less_false (sym (ap is_lt (turn keys e.vertex.values (vertex_of g) Greater p)) ∙ h g gs refl))

head_is : {X : Type 0} (x y : X) (xs ys : List X) → x ∷ xs ≡ y ∷ ys → x ≡ y
head_is x y xs ys p = cc

nil_cons : {X : Type 0} (x : X) (xs : List X) → [] ≡ x ∷ xs → ⊥
nil_cons x xs p = cc

from_first : (e : Entry) (es : List Entry) → StartsFrom e.vertex.values es → (g : Group) (rest : List Group) → gather es ≡ g ∷ rest → is_lt (key_cmp (vertex_of g) e.vertex.values) ≡ false
from_first e [] s g rest p = absurd (nil_cons g rest p)
from_first e (f ∷ es) s g rest p =
    let q = first (f ∷ es) in
    let w : vertex_of g ≡ f.vertex.values = ap vertex_of (head_is g q.0 rest q.1 (sym p ∙ q.2)) ∙ q.3 in
    ap (λ v. is_lt (key_cmp v e.vertex.values)) w ∙ s

gathered : (es : List Entry) → Rises es → Gathered es (gather es)
gathered [] h = record { in_order = tt; full = tt; edges = λ v. refl; others = λ v. refl }
gathered (e ∷ es) h = joined e es (gather es) (from_first e es h.0) (gathered es h.1)

join_few : (e : Entry) (gs : List Group) → length (join e gs) ≤ length gs + 1
join_few e [] = omega arith
join_few e (g ∷ gs) = elim (is_eq (key_cmp e.vertex.values (vertex_of g))) as (λ b. length (cond b (put e g ∷ gs) (group_of e.vertex (e ∷ []) ∷ g ∷ gs)) ≤ suc (length gs) + 1) [ true ↦ omega arith | false ↦ omega arith ]

gather_few : (es : List Entry) → length (gather es) ≤ length es
gather_few [] = omega arith
gather_few (e ∷ es) = let a = join_few e (gather es) in let b = gather_few es in omega (arith, a, b)

pub are_groups : (dir : Dir) (ends : List EdgeEnds) (seen : List Seen) → AreSeen dir ends seen → AreGroups dir ends (gather (plains seen))
are_groups dir ends seen a =
    let g = gathered (plains seen) a.rises in
    record {
      in_order = g.in_order;
      full = g.full;
      few = let f = gather_few (plains seen) in let n = length-map seen plain in let m = a.as_many in omega (arith, f, n, m);
      edges = λ v. g.edges v ∙ ap (map (λ e. e.edge)) (a.at v);
      others = λ v. g.others v ∙ ap (map (λ e. e.other)) (a.at v);
    }

-- THE LOOP

from_drop : {X : Type 0} (xs : List X) (i : ℕ) (x : X) → i < length xs → x ≡ get_or xs i x → (ys : List X) × (drop i xs ≡ x ∷ ys)
from_drop [] i x l e = absurd (omega arith)
from_drop (y ∷ ys) zero x l e = (ys, ap (λ z. z ∷ ys) (sym e))
from_drop (y ∷ ys) (suc i) x l e = from_drop ys i x (omega arith) e

rest_length : {X : Type 0} (i : ℕ) (xs : List X) → i ≤ length xs → length (drop i xs) ≡ length xs - i
rest_length zero xs l = omega arith
rest_length (suc i) [] l = absurd (omega arith)
rest_length (suc i) (x ∷ xs) l = let r = rest_length i xs (omega arith) in omega (arith, r)

whole : {X : Type 0} (m : ℕ) (xs : List X) → m ≡ length xs → take m xs ≡ xs
whole zero [] e = refl
whole zero (x ∷ xs) e = absurd (omega arith)
whole (suc m) [] e = refl
whole (suc m) (x ∷ xs) e = ap (λ ys. x ∷ ys) (whole m xs (omega arith))

pub record Stepped (seen : List Seen) (start n : ℕ) (new : List Group) : Type 0 where
  pub some : 0 < n
  pub within : start + n ≤ length seen
  pub gathers : new ++ gather (plains (drop (start + n) seen)) ≡ gather (plains seen)

pub stepped : (seen : List Seen) (start n m k : ℕ) (s : Seen) (groups new : List Group) → start < length seen → s ≡ get_or seen start s → m ≡ length seen - start → k ≡ n
    → IsRun s.vertex.now.values (plains (take m (drop start seen))) n → groups ++ gather (plains (drop start seen)) ≡ gather (plains seen)
    → new ≡ groups ++ group_of s.vertex.now (plains (take k (drop start seen))) ∷ [] → Stepped seen start n new
stepped seen start n m k s groups new l e p q run before after =
    let d = from_drop seen start s l e in
    let length_is = rest_length start seen (omega arith) in
    let rest : take m (drop start seen) ≡ drop start seen = whole m (drop start seen) (omega (arith, p, length_is)) in
    let here : IsRun s.vertex.now.values (plains (drop start seen)) n = subst (λ xs. IsRun s.vertex.now.values (plains xs) n) rest run in
    let first : IsRun s.vertex.now.values (plain s ∷ plains d.0) n = subst (λ xs. IsRun s.vertex.now.values (plains xs) n) d.1 here in
    let next = next_group s.vertex.now (plain s) (plains d.0) n (ap is_eq (same keys s.vertex.now.values)) first in
    let w = here.within in
    record {
      some = next.0;
      within = omega (arith, w, length_is, length-map (drop start seen) plain);
      gathers =
          ap (λ gs. gs ++ gather (plains (drop (start + n) seen))) after
          ∙ append_assoc groups (group_of s.vertex.now (plains (take k (drop start seen))) ∷ []) (gather (plains (drop (start + n) seen)))
          ∙ ap (λ gs. groups ++ gs) (back q d.0 d.1 next.1)
          ∙ before;
    }
  where
    back : k ≡ n → (ys : List Seen) → drop start seen ≡ s ∷ ys → gather (plains (s ∷ ys)) ≡ group_of s.vertex.now (take n (plains (s ∷ ys))) ∷ gather (drop n (plains (s ∷ ys)))
        → group_of s.vertex.now (plains (take k (drop start seen))) ∷ gather (plains (drop (start + n) seen)) ≡ gather (plains (drop start seen))
    back q ys d next =
        sym (ap (λ xs. gather (plains xs)) d ∙ next
        ∙ (λ i. group_of s.vertex.now (take-map plain n (s ∷ ys) i) ∷ gather (drop-map plain n (s ∷ ys) i))
        ∙ (λ i. group_of s.vertex.now (plains (take (sym q i) (sym d i))) ∷ gather (plains (drop n (sym d i))))
        ∙ ap (λ xs. group_of s.vertex.now (plains (take k (drop start seen))) ∷ gather (plains xs)) (drop-drop n start seen))
