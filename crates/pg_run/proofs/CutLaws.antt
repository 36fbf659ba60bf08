-- Writes in one list for each table are the writes in order of table and key, and are merged table by table.
use Rattle.std.proofs.Common.{ℕ, zero, suc, ◌≡◌, ◌+◌, ◌<◌, ◌≤◌, ◌-◌, ◌==◌, Bool, true, false, cond, List, [], ◌∷◌, ◌++◌, length, take, drop, get_or, refl, ap, sym, subst, ◌∙◌, arith, add-one, append_assoc, length-append, inl, inr}
use Rattle.std.proofs.Math.Seq.{drop-cons}
use Rattle.std.proofs.Math.ListN.{drop_of_length-le}
use Rattle.std.proofs.lemmas.Bool.{eqb-true, eq-eqb}
use Rattle.std.proofs.lemmas.List.Elements.{filter-append}
use Rattle.std.proofs.lemmas.List.{drop-drop, length-drop}
use Rattle.std.proofs.lemmas.Bool.Decides.{leb_tells}
use Rattle.std.proofs.lemmas.Cmp.{tied_itself}
use Rattle.std.specs.Cmp.{nat_cmp_total, nat_cmp_is}
use Rattle.std.specs.List.{filter}
use Rattle.std.specs.declared.option.Option.{Option}
use Rattle.std.specs.declared.option.Option.TheVariants.{Some, None}
use Rattle.std.specs.declared.cmp.Ordering.{Ordering}
use Rattle.std.specs.declared.cmp.Ordering.TheVariants.{Less, Equal, Greater}
use Rattle.std.specs.Ordering.{nat_cmp, ordering_then}
use Rattle.pg_keyed.specs.Lists.{Each, each_append, each_map}
use Rattle.pg_keyed.specs.Keyed.{Ascends, Above, get}
use Rattle.pg_keyed.specs.Reads.{alike, get_there}
use Rattle.pg_keyed.specs.Ranks.{above_none, above_less}
use Rattle.std.specs.Prelude.{Result, Ok, Err, IfOk}
use Rattle.std.specs.Ordering.{is_eq}
use Rattle.pg_keyed.specs.Weaves.{weave_reads}
use Rattle.pg_keyed.specs.Puts.{put_weave, own_fits, merge_ascends, merge_each, merge_reads, newer}
use Rattle.pg_value.specs.declared.value.Value.{Value}
use Rattle.pg_value.specs.declared.shape.TableNo.{TableNo}
use Rattle.pg_value.specs.declared.shape.Shapes.{Shapes}
use Rattle.pg_value.specs.declared.write.Write.{Write}
use Rattle.pg_value.specs.Tables.{FitsWrite, FitWrites}
use Rattle.pg_value.specs.Order.{Place, key_cmp, place_cmp}
use Rattle.pg_value.specs.Orders.{keys, places}
use Rattle.pg_value.specs.TablesLaws.{key_named, writes_to, write_at_in}
use Rattle.pg_value.specs.Writes.{named, IsInOrder, write_at, merge}
use Rattle.pg_run.specs.Cuts.{joined, AreOf, AreCut, AreWithin, leading, woven}

true_false : true ≡ false → ⊥
true_false h = cc

less_greater : Greater ≡ Less → ⊥
less_greater h = cc

differ : (s n : ℕ) → (s ≡ n → ⊥) → (s == n) ≡ false
differ s n h = go (s == n) refl
  where
    go : (b : Bool) → (s == n) ≡ b → (s == n) ≡ false
    go true e = absurd (h (eqb-true s n e))
    go false e = e

pub nothing_behind : {X : Type 0} (xs : List X) → xs ++ [] ≡ xs
nothing_behind [] = refl
nothing_behind (x ∷ xs) = ap (λ ys. x ∷ ys) (nothing_behind xs)

-- ONE TABLE'S LIST

all_own : (t n : ℕ) (ws : List Write) → Each (λ w. w.table.0 ≡ t) ws → t ≡ n → filter (λ w. w.table.0 == n) ws ≡ ws
all_own t n [] h e = refl
all_own t n (w ∷ ws) h e = rw (eq-eqb w.table.0 n (h.0 ∙ e)) (ap (λ vs. w ∷ vs) (all_own t n ws h.1 e))

none_own : (t n : ℕ) (ws : List Write) → Each (λ w. w.table.0 ≡ t) ws → (t ≡ n → ⊥) → filter (λ w. w.table.0 == n) ws ≡ []
none_own t n [] h e = refl
none_own t n (w ∷ ws) h e = rw (differ w.table.0 n (λ q. e (sym h.0 ∙ q))) (none_own t n ws h.1 e)

none_later : (t n : ℕ) (lists : List (List Write)) → AreCut t lists → n < t → filter (λ w. w.table.0 == n) (joined lists) ≡ []
none_later t n [] a l = refl
none_later t n (ws ∷ lists) a l =
    filter-append (λ w. w.table.0 == n) ws (joined lists)
    ∙ (λ i. none_own t n ws a.0.own (λ e. omega (arith, l, e)) i ++ none_later (t + 1) n lists a.1 (omega (arith, l)) i)

-- the writes to a table are the list of its number
own_list : (t i : ℕ) (lists : List (List Write)) → AreCut t lists → filter (λ w. w.table.0 == t + i) (joined lists) ≡ get_or lists i []
own_list t i [] a = refl
own_list t zero (ws ∷ lists) a =
    filter-append (λ w. w.table.0 == t + 0) ws (joined lists)
    ∙ (λ i. all_own t (t + 0) ws a.0.own (omega arith) i ++ none_later (t + 1) (t + 0) lists a.1 (omega arith) i)
    ∙ nothing_behind ws
own_list t (suc n) (ws ∷ lists) a =
    let e : t + suc n ≡ t + 1 + n = omega arith in
    filter-append (λ w. w.table.0 == t + suc n) ws (joined lists)
    ∙ (λ i. none_own t (t + suc n) ws a.0.own (λ q. omega (arith, q)) i ++ filter (λ w. w.table.0 == e i) (joined lists))
    ∙ own_list (t + 1) n lists a.1

pub list_is : (t : TableNo) (lists : List (List Write)) → AreCut 0 lists → get_or lists t.0 [] ≡ writes_to t (joined lists)
list_is t lists a = sym (own_list 0 t.0 lists a) ∙ ap (λ n. filter (λ w. w.table.0 == n) (joined lists)) (let e : 0 + t.0 ≡ t.0 = omega arith in e)

-- each list is of its table, and so one by one
of_cut : (t i : ℕ) (lists : List (List Write)) → AreCut t lists → AreOf (t + i) (get_or lists i [])
of_cut t i [] a = record { own = tt; ascend = tt }
of_cut t zero (ws ∷ lists) a = subst (λ n. AreOf n ws) (let e : t ≡ t + 0 = omega arith in e) a.0
of_cut t (suc i) (ws ∷ lists) a = subst (λ n. AreOf n (get_or lists i [])) (let e : t + 1 + i ≡ t + suc i = omega arith in e) (of_cut (t + 1) i lists a.1)

cut_of : (t : ℕ) (lists : List (List Write)) → ((i : ℕ) → AreOf (t + i) (get_or lists i [])) → AreCut t lists
cut_of t [] h = tt
cut_of t (ws ∷ lists) h = (
  subst (λ n. AreOf n ws) (let e : t + 0 ≡ t = omega arith in e) (h 0),
  cut_of (t + 1) lists (λ i. subst (λ n. AreOf n (get_or lists i [])) (let e : t + suc i ≡ t + 1 + i = omega arith in e) (h (suc i))),
)

pub list_ascends : (n : ℕ) (lists : List (List Write)) → AreCut 0 lists → Ascends key_named key_cmp (get_or lists n [])
list_ascends n lists a = (of_cut 0 n lists a).ascend

pub lists_ascend : (t : ℕ) (lists : List (List Write)) → AreCut t lists → Each (λ ws. Ascends key_named key_cmp ws) lists
lists_ascend t [] a = tt
lists_ascend t (ws ∷ lists) a = (a.0.ascend, lists_ascend (t + 1) lists a.1)

-- ALL LISTS

before : (s t : ℕ) (j k : List Value) → s < t → place_cmp (s, j) (t, k) ≡ Less
before s t j k l = ap (λ r. ordering_then r (key_cmp j k)) (sym (nat_cmp_is s t Less l))

beside : (s t : ℕ) (j k : List Value) → s ≡ t → place_cmp (s, j) (t, k) ≡ key_cmp j k
beside s t j k e = ap (λ n. ordering_then (nat_cmp n t) (key_cmp j k)) e ∙ ap (λ r. ordering_then r (key_cmp j k)) (tied_itself nat_cmp_total t)

from : (t : ℕ) (lists : List (List Write)) → AreCut t lists → Each (λ w. t ≤ w.table.0) (joined lists)
from t [] a = tt
from t (ws ∷ lists) a = each_append (λ w. t ≤ w.table.0) ws (joined lists)
    (each_map (λ w. w.table.0 ≡ t) (λ w. t ≤ w.table.0) (λ w e. omega (arith, e)) ws a.0.own)
    (each_map (λ w. t + 1 ≤ w.table.0) (λ w. t ≤ w.table.0) (λ w l. omega (arith, l)) (joined lists) (from (t + 1) lists a.1))

append_ascends : (t : ℕ) (ws vs : List Write) → AreOf t ws → Each (λ w. t + 1 ≤ w.table.0) vs → IsInOrder vs → IsInOrder (ws ++ vs)
append_ascends t [] vs a h b = b
append_ascends t (w ∷ ws) vs a h b =
    let o = a.own in
    let s = a.ascend in (
      each_append (λ v. place_cmp (named w) (named v) ≡ Less) ws vs
          (near ws o.1 s.0)
          (each_map (λ v. t + 1 ≤ v.table.0) (λ v. place_cmp (named w) (named v) ≡ Less) (λ v l. before w.table.0 v.table.0 w.key.values v.key.values (let e = o.0 in omega (arith, l, e))) vs h),
      append_ascends t ws vs (record { own = o.1; ascend = s.1 }) h b,
    )
  where
    near : (ws : List Write) → Each (λ v. v.table.0 ≡ t) ws → Above key_named key_cmp (key_named w) ws → Each (λ v. place_cmp (named w) (named v) ≡ Less) ws
    near [] o s = tt
    near (v ∷ vs) o s = (beside w.table.0 v.table.0 w.key.values v.key.values (a.own.0 ∙ sym o.0) ∙ s.0, near vs o.1 s.1)

pub cut_in_order : (t : ℕ) (lists : List (List Write)) → AreCut t lists → IsInOrder (joined lists)
cut_in_order t [] a = tt
cut_in_order t (ws ∷ lists) a = append_ascends t ws (joined lists) a.0 (from (t + 1) lists a.1) (cut_in_order (t + 1) lists a.1)

read : (p : Place) (lists : List (List Write)) → AreCut 0 lists → write_at p (joined lists) ≡ get key_named key_cmp p.1 (get_or lists p.0 [])
read p lists a =
    let t : TableNo = record { 0 = p.0 } in
    sym (write_at_in t p.1 (joined lists)) ∙ ap (get key_named key_cmp p.1) (sym (list_is t lists a))

-- MERGED TABLE BY TABLE

some_write : Write → Option Write
some_write w = Some w

woven_of : (t : ℕ) (a b : List Write) → AreOf t a → AreOf t b → AreOf t (woven a b)
woven_of t a b h k =
    let same = put_weave key_named key_named (λ (w : Write). Some w) key_cmp keys a b (own_fits key_named key_cmp keys b) h.ascend k.ascend in
    record {
      own = subst (Each (λ w. w.table.0 ≡ t)) same (merge_each key_named key_cmp keys (λ w. w.table.0 ≡ t) a b h.own k.own);
      ascend = subst (Ascends key_named key_cmp) same (merge_ascends key_named key_cmp keys a b h.ascend k.ascend);
    }

woven_reads : (k : List Value) (a b : List Write) → Ascends key_named key_cmp a → Ascends key_named key_cmp b
    → get key_named key_cmp k (woven a b) ≡ newer key_named key_cmp keys (get key_named key_cmp k b) (get key_named key_cmp k a)
woven_reads k a b h j = weave_reads key_named key_named (λ (w : Write). Some w) key_cmp keys k a b (own_fits key_named key_cmp keys b) h j

-- each list woven of both
abbrev pub Woven : List (List Write) → List (List Write) → List (List Write) → Type 0
Woven a b lists = (t : ℕ) → get_or lists t [] ≡ woven (get_or a t []) (get_or b t [])

pub woven_cut : (a b lists : List (List Write)) → AreCut 0 a → AreCut 0 b → Woven a b lists → AreCut 0 lists
woven_cut a b lists h k w = cut_of 0 lists (λ i. subst (AreOf (0 + i)) (sym (w i)) (woven_of (0 + i) _ _ (of_cut 0 i a h) (of_cut 0 i b k)))

pub woven_whole : (a b lists : List (List Write)) → AreCut 0 a → AreCut 0 b → Woven a b lists → joined lists ≡ merge (joined a) (joined b)
woven_whole a b lists h k w =
    let c = woven_cut a b lists h k w in
    let ha = cut_in_order 0 a h in
    let hb = cut_in_order 0 b k in
    alike named place_cmp places (joined lists) (merge (joined a) (joined b)) (cut_in_order 0 lists c) (merge_ascends named place_cmp places (joined a) (joined b) ha hb)
    (λ p. read p lists c ∙ ap (get key_named key_cmp p.1) (w p.0) ∙ woven_reads p.1 _ _ (list_ascends p.0 a h) (list_ascends p.0 b k)
    ∙ (λ i. newer key_named key_cmp keys (sym (read p b k) i) (sym (read p a h) i))
    ∙ sym (merge_reads named place_cmp places p (joined a) (joined b) ha hb))

get_pushed : (lists : List (List Write)) (ws : List Write) (t : ℕ) → t ≡ length lists → get_or (lists ++ ws ∷ []) t [] ≡ ws
get_pushed [] ws zero e = refl
get_pushed [] ws (suc t) e = absurd (omega (arith, e))
get_pushed (l ∷ lists) ws zero e = absurd (omega (arith, e))
get_pushed (l ∷ lists) ws (suc t) e = get_pushed lists ws t (omega (arith, e))

get_before : (lists : List (List Write)) (ws : List Write) (t : ℕ) → t < length lists → get_or (lists ++ ws ∷ []) t [] ≡ get_or lists t []
get_before [] ws t l = absurd (omega (arith, l))
get_before (x ∷ lists) ws zero l = refl
get_before (x ∷ lists) ws (suc t) l = get_before lists ws t (omega (arith, l))

less : (t n : ℕ) → t < n + 1 → (t ≡ n → ⊥) → t < n
less zero zero l d = absurd (d refl)
less zero (suc n) l d = omega arith
less (suc t) zero l d = absurd (omega (arith, l))
less (suc t) (suc n) l d = let r = less t n (omega (arith, l)) (λ e. d (ap suc e)) in omega (arith, r)

-- so far
pub record WovenTo (a b : List (List Write)) (n : ℕ) (lists : List (List Write)) : Type 0 where
  pub count : length lists ≡ n
  pub each : (t : ℕ) → t < n → get_or lists t [] ≡ woven (get_or a t []) (get_or b t [])

pub woven_none : (a b : List (List Write)) → WovenTo a b 0 []
woven_none a b = record { count = refl; each = λ t l. absurd (omega (arith, l)) }

pub woven_more : (a b : List (List Write)) (n : ℕ) (lists new : List (List Write)) (ws : List Write) → WovenTo a b n lists → new ≡ lists ++ ws ∷ [] → ws ≡ woven (get_or a n []) (get_or b n []) → WovenTo a b (n + 1) new
woven_more a b n lists new ws h e g = subst (WovenTo a b (n + 1)) (sym e) (record {
  count = (let l = length-append lists (ws ∷ []) in let c = h.count in omega (arith, l, c));
  each = λ t l. each t l (t == n) refl;
})
  where
    each : (t : ℕ) → t < n + 1 → (q : Bool) → (t == n) ≡ q → get_or (lists ++ ws ∷ []) t [] ≡ woven (get_or a t []) (get_or b t [])
    each t l true q = let s = eqb-true t n q in get_pushed lists ws t (s ∙ sym h.count) ∙ g ∙ ap (λ m. woven (get_or a m []) (get_or b m [])) (sym s)
    each t l false q =
        let d : t ≡ n → ⊥ = λ s. true_false (sym (eq-eqb t n s) ∙ q) in
        let m : t < n = less t n l d in
        get_before lists ws t (let c = h.count in omega (arith, m, c)) ∙ h.each t m

get_none : (lists : List (List Write)) (t : ℕ) → length lists ≤ t → get_or lists t [] ≡ []
get_none [] t l = refl
get_none (x ∷ lists) zero l = absurd (omega (arith, l))
get_none (x ∷ lists) (suc t) l = get_none lists t (omega (arith, l))

pub woven_all : (a b : List (List Write)) (n : ℕ) (lists : List (List Write)) → WovenTo a b n lists → length a ≤ n → length b ≤ n → Woven a b lists
woven_all a b n lists h la lb t = elim (leb_tells (suc t) n) [
  | inl x ↦ h.each t (let l = x.1 in omega (arith, l))
  | inr x ↦ (let l = x.1 in let c = h.count in get_none lists t (omega (arith, l, c)) ∙ sym (λ i. woven (get_none a t (omega (arith, l, la)) i) (get_none b t (omega (arith, l, lb)) i)))
]

-- CUT TABLE BY TABLE

joined_push : (lists : List (List Write)) (ws : List Write) → joined (lists ++ ws ∷ []) ≡ joined lists ++ ws
joined_push [] ws = nothing_behind ws
joined_push (x ∷ lists) ws = ap (λ vs. x ++ vs) (joined_push lists ws) ∙ sym (append_assoc x (joined lists) ws)

cut_push : (t : ℕ) (lists : List (List Write)) (ws : List Write) → AreCut t lists → AreOf (t + length lists) ws → AreCut t (lists ++ ws ∷ [])
cut_push t [] ws a h = (subst (λ n. AreOf n ws) (let e : t + 0 ≡ t = omega arith in e) h, tt)
cut_push t (x ∷ lists) ws a h = (a.0, cut_push (t + 1) lists ws a.1 (subst (λ n. AreOf n ws) (let e : t + suc (length lists) ≡ t + 1 + length lists = omega arith in e) h))

split_leading : (t : ℕ) (xs : List Write) → leading t xs ++ drop (length (leading t xs)) xs ≡ xs
split_leading t [] = refl
split_leading t (x ∷ xs) = elim (x.table.0 == t) as (λ b. cond b (x ∷ leading t xs) [] ++ drop (length (cond b (x ∷ leading t xs) [])) (x ∷ xs) ≡ x ∷ xs) [ true ↦ ap (λ ys. x ∷ ys) (split_leading t xs) | false ↦ refl ]

own_leading : (t : ℕ) (xs : List Write) → Each (λ w. w.table.0 ≡ t) (leading t xs)
own_leading t [] = tt
own_leading t (x ∷ xs) = go (x.table.0 == t) refl (own_leading t xs)
  where
    go : (b : Bool) → (x.table.0 == t) ≡ b → Each (λ w. w.table.0 ≡ t) (leading t xs) → Each (λ w. w.table.0 ≡ t) (cond b (x ∷ leading t xs) [])
    go true e r = (eqb-true x.table.0 t e, r)
    go false e r = tt

above_leading : (t : ℕ) (x : Write) (xs : List Write) → x.table.0 ≡ t → Above named place_cmp (named x) xs → Above key_named key_cmp (key_named x) (leading t xs)
above_leading t x [] e a = tt
above_leading t x (y ∷ ys) e a = go (y.table.0 == t) refl (above_leading t x ys e a.1)
  where
    go : (b : Bool) → (y.table.0 == t) ≡ b → Above key_named key_cmp (key_named x) (leading t ys) → Above key_named key_cmp (key_named x) (cond b (y ∷ leading t ys) [])
    go true q r = (sym (beside x.table.0 y.table.0 x.key.values y.key.values (e ∙ sym (eqb-true y.table.0 t q))) ∙ a.0, r)
    go false q r = tt

ascend_leading : (t : ℕ) (xs : List Write) → IsInOrder xs → Ascends key_named key_cmp (leading t xs)
ascend_leading t [] a = tt
ascend_leading t (x ∷ xs) a = go (x.table.0 == t) refl (ascend_leading t xs a.1)
  where
    go : (b : Bool) → (x.table.0 == t) ≡ b → Ascends key_named key_cmp (leading t xs) → Ascends key_named key_cmp (cond b (x ∷ leading t xs) [])
    go true e r = (above_leading t x xs (eqb-true x.table.0 t e) a.0, r)
    go false e r = tt

not_below : (t u : ℕ) (r : Ordering) → ordering_then (nat_cmp t u) r ≡ Less → t ≤ u
not_below t u r h = elim (leb_tells t u) [ inl x ↦ x.1 | inr x ↦ absurd (less_is (nat_cmp t u) (sym (nat_cmp_is t u Greater x.1)) h) ]
  where
    less_is : (o : Ordering) → o ≡ Greater → ordering_then o r ≡ Less → ⊥
    less_is o e k = cc

behind_leading : (t : ℕ) (xs : List Write) → IsInOrder xs → Each (λ w. t ≤ w.table.0) xs → Each (λ w. t + 1 ≤ w.table.0) (drop (length (leading t xs)) xs)
behind_leading t [] a h = tt
behind_leading t (x ∷ xs) a h = go (x.table.0 == t) refl (behind_leading t xs a.1 h.1)
  where
    go : (b : Bool) → (x.table.0 == t) ≡ b → Each (λ w. t + 1 ≤ w.table.0) (drop (length (leading t xs)) xs) → Each (λ w. t + 1 ≤ w.table.0) (drop (length (cond b (x ∷ leading t xs) [])) (x ∷ xs))
    go true e r = r
    go false e r =
        let above : t + 1 ≤ x.table.0 = elim (leb_tells (suc t) x.table.0) [ inl l ↦ (let m = l.1 in omega (arith, m)) | inr l ↦ absurd (true_false (sym (eq-eqb x.table.0 t (let m = l.1 in let n = h.0 in omega (arith, m, n))) ∙ e)) ] in
        (above, each_map (λ w. place_cmp (named x) (named w) ≡ Less) (λ w. t + 1 ≤ w.table.0) (λ w l. let m = not_below x.table.0 w.table.0 _ l in omega (arith, m, above)) xs a.0)

ascends_drop : (n : ℕ) (xs : List Write) → IsInOrder xs → IsInOrder (drop n xs)
ascends_drop zero xs a = a
ascends_drop (suc n) [] a = tt
ascends_drop (suc n) (x ∷ xs) a = ascends_drop n xs a.1

each_drop : {X : Type 0} (P : X → Type 0) (n : ℕ) (xs : List X) → Each P xs → Each P (drop n xs)
each_drop P zero xs h = h
each_drop P (suc n) [] h = tt
each_drop P (suc n) (x ∷ xs) h = each_drop P n xs h.1

-- the lists of the first tables, and what is left
pub record CutTo (ws : List Write) (t at : ℕ) (lists : List (List Write)) : Type 0 where
  pub count : length lists ≡ t
  pub whole : joined lists ++ drop at ws ≡ ws
  pub cut : AreCut 0 lists
  pub left : Each (λ w. t ≤ w.table.0) (drop at ws)
  pub within : at ≤ length ws

all_from : (ws : List Write) → Each (λ w. 0 ≤ w.table.0) ws
all_from [] = tt
all_from (w ∷ ws) = (omega arith, all_from ws)

pub cut_none : (ws : List Write) → CutTo ws 0 0 []
cut_none ws = record { count = refl; whole = refl; cut = tt; left = all_from ws; within = omega arith }

pub leading_within : (t at : ℕ) (ws : List Write) → at ≤ length ws → at + length (leading t (drop at ws)) ≤ length ws
leading_within t at ws l =
    let xs = drop at ws in
    let a = length-append (leading t xs) (drop (length (leading t xs)) xs) in
    let b : length (leading t xs ++ drop (length (leading t xs)) xs) ≡ length xs = ap length (split_leading t xs) in
    let c = length-drop at ws in
    omega (arith, a, b, c, l)

pub cut_more : (ws : List Write) (t at : ℕ) (lists new : List (List Write)) (list : List Write) (n : ℕ) → IsInOrder ws → CutTo ws t at lists → list ≡ leading t (drop at ws) → n ≡ length list → new ≡ lists ++ list ∷ [] → CutTo ws (t + 1) (at + n) new
cut_more ws t at lists new list n a h e l g =
    let xs = drop at ws in
    let p = ascends_drop at ws a in
    let far : drop (length (leading t xs)) xs ≡ drop (at + n) ws = drop-drop (length (leading t xs)) at ws ∙ ap (λ m. drop (at + m) ws) (sym (l ∙ ap length e)) in
    subst (λ ls. CutTo ws (t + 1) (at + n) ls) (sym g) (record {
      count = (let c = length-append lists (list ∷ []) in let d = h.count in omega (arith, c, d));
      whole = (λ i. joined_push lists list i ++ drop (at + n) ws) ∙ append_assoc (joined lists) list (drop (at + n) ws)
          ∙ ap (λ ys. joined lists ++ ys) ((λ i. e i ++ sym far i) ∙ split_leading t xs) ∙ h.whole;
      cut = cut_push 0 lists list h.cut (subst (λ m. AreOf m list) (let c = h.count in let d : t ≡ 0 + length lists = omega (arith, c) in d)
          (subst (AreOf t) (sym e) (record { own = own_leading t xs; ascend = ascend_leading t xs p })));
      left = subst (Each (λ w. t + 1 ≤ w.table.0)) far (behind_leading t xs p h.left);
      within = (let m = leading_within t at ws h.within in let k : n ≡ length (leading t xs) = l ∙ ap length e in omega (arith, m, k));
    })

none_left : (t : ℕ) (xs : List Write) → Each (λ w. t ≤ w.table.0) xs → Each (λ w. w.table.0 < t) xs → xs ≡ []
none_left t [] h k = refl
none_left t (x ∷ xs) h k = absurd (let a = h.0 in let b = k.0 in omega (arith, a, b))

pub cut_all : (ws : List Write) (t at : ℕ) (lists : List (List Write)) → CutTo ws t at lists → AreWithin t ws → joined lists ≡ ws
cut_all ws t at lists h k = sym (nothing_behind (joined lists)) ∙ ap (λ ys. joined lists ++ ys) (sym (none_left t (drop at ws) h.left (each_drop (λ w. w.table.0 < t) at ws k))) ∙ h.whole

-- ONE TABLE'S WRITES, ONE BY ONE

head_at : (ws : List Write) (at : ℕ) (w : Write) → at < length ws → w ≡ get_or ws at w → drop at ws ≡ w ∷ drop (at + 1) ws
head_at ws at w l e = rw add-one (drop-cons ws at w l ∙ ap (λ x. x ∷ drop (suc at) ws) (sym e))

pub leading_more : (t at : ℕ) (ws front back new : List Write) (w : Write) → at < length ws → w ≡ get_or ws at w → w.table.0 ≡ t → front ++ leading t (drop at ws) ≡ back → new ≡ front ++ w ∷ [] → new ++ leading t (drop (at + 1) ws) ≡ back
leading_more t at ws front back new w l e q h n =
    ap (λ ys. ys ++ leading t (drop (at + 1) ws)) n ∙ append_assoc front (w ∷ []) (leading t (drop (at + 1) ws))
    ∙ ap (λ ys. front ++ ys) (sym (ap (leading t) (head_at ws at w l e) ∙ ap (λ b. cond b (w ∷ leading t (drop (at + 1) ws)) []) (eq-eqb w.table.0 t q))) ∙ h

pub leading_ends : (t at : ℕ) (ws front back : List Write) (w : Write) → at < length ws → w ≡ get_or ws at w → (w.table.0 ≡ t → ⊥) → front ++ leading t (drop at ws) ≡ back → front ≡ back
leading_ends t at ws front back w l e q h =
    sym (nothing_behind front) ∙ ap (λ ys. front ++ ys) (sym (ap (leading t) (head_at ws at w l e) ∙ ap (λ b. cond b (w ∷ leading t (drop (at + 1) ws)) []) (differ w.table.0 t q))) ∙ h

pub leading_all : (t at : ℕ) (ws front back : List Write) → length ws ≤ at → front ++ leading t (drop at ws) ≡ back → front ≡ back
leading_all t at ws front back l h = sym (nothing_behind front) ∙ ap (λ ys. front ++ ys) (sym (ap (leading t) (drop_of_length-le ws l))) ∙ h

-- THE FIRST WRITE LOOKED AT FIRST

pub first_less : (k : List Value) (xs : List Write) (x : Write) → 1 ≤ length xs → x ≡ get_or xs 0 x → Ascends key_named key_cmp xs → key_cmp k (key_named x) ≡ Less → None ≡ get key_named key_cmp k xs
first_less k [] x l e a h = absurd (omega (arith, l))
first_less k (y ∷ ys) x l e a h =
    let q : key_cmp k (key_named y) ≡ Less = ap (λ w. key_cmp k (key_named w)) (sym e) ∙ h in
    sym (get_there key_named key_cmp keys k y ys (ap is_eq q) ∙ above_none key_named key_cmp keys k ys (above_less key_named key_cmp keys k (key_named y) ys q a.0))

pub first_equal : (k : List Value) (xs : List Write) (x : Write) → 1 ≤ length xs → x ≡ get_or xs 0 x → key_cmp k (key_named x) ≡ Equal → Some x ≡ get key_named key_cmp k xs
first_equal k [] x l e h = absurd (omega (arith, l))
first_equal k (y ∷ ys) x l e h = rw (ap is_eq (ap (λ w. key_cmp k (key_named w)) (sym e) ∙ h)) (ap Some e)

pub first_greater : (k : List Value) (xs : List Write) (x : Write) → 1 ≤ length xs → x ≡ get_or xs 0 x → key_cmp k (key_named x) ≡ Greater → get key_named key_cmp k (drop 1 xs) ≡ get key_named key_cmp k xs
first_greater k [] x l e h = absurd (omega (arith, l))
first_greater k (y ∷ ys) x l e h = rw (ap is_eq (ap (λ w. key_cmp k (key_named w)) (sym e) ∙ h)) refl

rest_is : {X : Type 0} (xs : List X) → take (length xs) xs ≡ xs
rest_is [] = refl
rest_is (x ∷ xs) = ap (λ ys. x ∷ ys) (rest_is xs)

pub behind_first : {X : Type 0} (xs : List X) → 1 ≤ length xs → take (length xs - 1) (drop 1 xs) ≡ drop 1 xs
behind_first [] l = absurd (omega (arith, l))
behind_first (x ∷ xs) l = ap (λ n. take n xs) (let e : suc (length xs) - 1 ≡ length xs = omega arith in e) ∙ rest_is xs

pub rest_ascends : (xs : List Write) → Ascends key_named key_cmp xs → Ascends key_named key_cmp (drop 1 xs)
rest_ascends [] a = tt
rest_ascends (x ∷ xs) a = a.1

pub merge_fits : (shapes : Shapes) (a b : List Write) → FitWrites shapes a → FitWrites shapes b → FitWrites shapes (merge a b)
merge_fits shapes a b h k = merge_each named place_cmp places (FitsWrite shapes) a b h k

pub if_ok : {X E : Type 0} (r : Result X E) (P Q : X → Type 0) → ((x : X) → P x → Q x) → IfOk r P → IfOk r Q
if_ok (Ok x) P Q f h = f x h
if_ok (Err e) P Q f h = tt
