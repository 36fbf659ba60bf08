-- What is found with one write or one commit more, and that what is found is the conflict.
use Rattle.std.proofs.Common.{◌≡◌, ℕ, suc, ◌+◌, ◌<◌, ◌≤◌, List, [], ◌∷◌, ◌++◌, length, Bool, true, false, cond, ◌||◌, refl, ap, sym, subst, ◌∙◌, arith, add-one, take, drop, get_or, ◌-◌}
use Rattle.std.proofs.lemmas.List.{take_more, length-take, length-drop, take_all, drop_more, drop_all}
use Rattle.std.proofs.lemmas.Option.{none-some, same_Some}
use Rattle.std.proofs.lemmas.Bool.{lt-ltb, le-ltb}
use Rattle.std.specs.declared.option.Option.{Option}
use Rattle.std.specs.declared.option.Option.TheVariants.{Some, None}
use Rattle.std.specs.declared.cmp.Ordering.{Ordering}
use Rattle.std.specs.declared.cmp.Ordering.TheVariants.{Less, Equal, Greater}
use Rattle.std.specs.Ordering.{is_eq, is_gt}
use Rattle.std.specs.Prelude.{slice_get, is_some, Result, Ok, Err}
use Rattle.pg_keyed.specs.Ranks.{above_none, above_less}
use Rattle.pg_keyed.specs.Keyed.{rank}
use Rattle.pg_keyed.specs.Orders.{turn}
use Rattle.pg_value.specs.declared.write.Write.{Write}
use Rattle.pg_value.specs.declared.write.Commit.{Commit}
use Rattle.pg_value.specs.Order.{Place, place_cmp}
use Rattle.pg_value.specs.Orders.{places}
use Rattle.pg_value.specs.Writes.{named, IsInOrder, write_at, Sought}
use Rattle.pg_value.specs.Log.{held, names, first_writer, or_later, conflict_after}
use Rattle.pg_log.specs.Logged.{first_named, lesser, or_else, changed_from, earlier, Placed, Changed}

names_more : (c : List Write) (x w : Write) → names (c ++ x ∷ []) w ≡ (names c w || names (x ∷ []) w)
names_more [] x w = refl
names_more (y ∷ c) x w = elim (is_eq (place_cmp (named y) (named w))) as (λ b. (b || names (c ++ x ∷ []) w) ≡ ((b || names c w) || names (x ∷ []) w)) [ true ↦ refl | false ↦ names_more c x w ]

-- ONE WRITE OF A COMMIT MORE

named_from : (i : ℕ) (c ws : List Write) (j : ℕ) → first_named i c ws ≡ Some j → i ≤ j
named_from i c [] j h = absurd (none-some j h)
named_from i c (w ∷ ws) j h = elim (names c w) as (λ b. cond b (Some i) (first_named (i + 1) c ws) ≡ Some j → i ≤ j) [
  | true ↦ λ e. let s = same_Some i j e in omega (arith, s)
  | false ↦ λ e. let r = named_from (i + 1) c ws j e in omega (arith, r)
] h

first_stays : (i : ℕ) (o : Option ℕ) → ((j : ℕ) → o ≡ Some j → i ≤ j) → lesser (Some i) o ≡ Some i
first_stays i None f = refl
first_stays i (Some j) f = ap (λ b. cond b (Some j) (Some i)) (le-ltb j i (f j refl))

first_comes : (i : ℕ) (o : Option ℕ) → ((j : ℕ) → o ≡ Some j → i + 1 ≤ j) → lesser o (Some i) ≡ Some i
first_comes i None f = refl
first_comes i (Some j) f = let l = f j refl in ap (λ b. cond b (Some i) (Some j)) (lt-ltb i j (omega arith))

pub named_none : (i : ℕ) (ws : List Write) → first_named i [] ws ≡ None
named_none i [] = refl
named_none i (w ∷ ws) = named_none (i + 1) ws

pub named_more : (i : ℕ) (c : List Write) (x : Write) (ws : List Write) → first_named i (c ++ x ∷ []) ws ≡ lesser (first_named i c ws) (first_named i (x ∷ []) ws)
named_more i c x [] = refl
named_more i c x (w ∷ ws) = ap (λ b. cond b (Some i) (first_named (i + 1) (c ++ x ∷ []) ws)) (names_more c x w) ∙ go (names c w) (names (x ∷ []) w) (named_more (i + 1) c x ws)
  where
    go : (a b : Bool) → first_named (i + 1) (c ++ x ∷ []) ws ≡ lesser (first_named (i + 1) c ws) (first_named (i + 1) (x ∷ []) ws) → cond (a || b) (Some i) (first_named (i + 1) (c ++ x ∷ []) ws) ≡ lesser (cond a (Some i) (first_named (i + 1) c ws)) (cond b (Some i) (first_named (i + 1) (x ∷ []) ws))
    go true true r = sym (first_stays i (Some i) (λ j e. let s = same_Some i j e in omega (arith, s)))
    go true false r = sym (first_stays i (first_named (i + 1) (x ∷ []) ws) (λ j e. let l = named_from (i + 1) (x ∷ []) ws j e in omega (arith, l)))
    go false true r = sym (first_comes i (first_named (i + 1) c ws) (λ j e. named_from (i + 1) c ws j e))
    go false false r = r

-- the step of the loop over a commit's writes
pub named_step : (at : ℕ) (c : List Write) (x : Write) (ws : List Write) (least place result : Option ℕ) → at < length c → x ≡ get_or c at x → least ≡ first_named 0 (take at c) ws → place ≡ first_named 0 (x ∷ []) ws → result ≡ lesser least place → result ≡ first_named 0 (take (at + 1) c) ws
named_step at c x ws least place result l i e f r =
    let t : take (at + 1) c ≡ take at c ++ x ∷ [] = take_more c at x l ∙ ap (λ y. take at c ++ y ∷ []) (sym i) in
    r ∙ ap (λ o. lesser o place) e ∙ ap (λ o. lesser (first_named 0 (take at c) ws) o) f ∙ sym (ap (λ ys. first_named 0 ys ws) t ∙ named_more 0 (take at c) x ws)

-- ONE WRITE, SOUGHT

abbrev pub found_place : Result ℕ ℕ → Option ℕ
found_place (Ok i) = Some i
found_place (Err i) = None

is_missing : (i : ℕ) (x : Write) (ws : List Write) → write_at (named x) ws ≡ None → first_named i (x ∷ []) ws ≡ None
is_missing i x [] h = refl
is_missing i x (w ∷ ws) h = go (is_eq (place_cmp (named x) (named w))) h (λ k. is_missing (i + 1) x ws k)
  where
    go : (b : Bool) → cond b (Some w) (write_at (named x) ws) ≡ None → (write_at (named x) ws ≡ None → first_named (i + 1) (x ∷ []) ws ≡ None) → cond (b || false) (Some i) (first_named (i + 1) (x ∷ []) ws) ≡ None
    go true e k = absurd (none-some w (sym e))
    go false e k = k e

stands_at : (i : ℕ) (x : Write) (ws : List Write) → IsInOrder ws → rank named place_cmp (named x) ws < length ws → write_at (named x) ws ≡ slice_get ws (rank named place_cmp (named x) ws) → first_named i (x ∷ []) ws ≡ Some (i + rank named place_cmp (named x) ws)
stands_at i x [] o l h = absurd (omega arith)
stands_at i x (w ∷ ws) o l h = go (place_cmp (named x) (named w)) refl l h (λ m k. stands_at (i + 1) x ws o.1 m k)
  where
    r : ℕ
    r = rank named place_cmp (named x) ws

    go : (c : Ordering) → place_cmp (named x) (named w) ≡ c → cond (is_gt c) (r + 1) 0 < suc (length ws) → cond (is_eq c) (Some w) (write_at (named x) ws) ≡ slice_get (w ∷ ws) (cond (is_gt c) (r + 1) 0)
        → (r < length ws → write_at (named x) ws ≡ slice_get ws r → first_named (i + 1) (x ∷ []) ws ≡ Some (i + 1 + r))
        → cond (is_eq c || false) (Some i) (first_named (i + 1) (x ∷ []) ws) ≡ Some (i + cond (is_gt c) (r + 1) 0)
    go Less e m k f = absurd (none-some w (sym (above_none named place_cmp places (named x) ws (above_less named place_cmp places (named x) (named w) ws e o.0)) ∙ k))
    go Equal e m k f = let z : i ≡ i + 0 = omega arith in ap (λ n. Some n) z
    go Greater e m k f = let z : i + 1 + r ≡ i + (r + 1) = omega arith in f (omega (arith, m)) (subst (λ n. write_at (named x) ws ≡ slice_get (w ∷ ws) n) (add-one r) k) ∙ ap (λ n. Some n) z

pub sought_place : (x : Write) (ws : List Write) (r : Result ℕ ℕ) → IsInOrder ws → Sought (named x) ws r → first_named 0 (x ∷ []) ws ≡ found_place r
sought_place x ws (Ok i) o s =
    let l : rank named place_cmp (named x) ws < length ws = subst (λ n. n < length ws) s.0 s.1 in
    let z : 0 + rank named place_cmp (named x) ws ≡ i = (let e = s.0 in omega (arith, e)) in
    stands_at 0 x ws o l (subst (λ n. write_at (named x) ws ≡ slice_get ws n) s.0 s.2) ∙ ap (λ n. Some n) z
sought_place x ws (Err i) o s = is_missing 0 x ws s.2

-- EACH WRITE, SOUGHT AMONG A COMMIT'S

same_equal : (a b : Place) → is_eq (place_cmp a b) ≡ is_eq (place_cmp b a)
same_equal a b = go (place_cmp a b) refl
  where
    go : (r : Ordering) → place_cmp a b ≡ r → is_eq r ≡ is_eq (place_cmp b a)
    go Less e = ap is_eq (sym (turn places a b Less e))
    go Equal e = ap is_eq (sym (turn places a b Equal e))
    go Greater e = ap is_eq (sym (turn places a b Greater e))

is_found : (i : ℕ) (w : Write) (c : List Write) → is_some (first_named i (w ∷ []) c) ≡ names c w
is_found i w [] = refl
is_found i w (x ∷ c) = ap (λ b. is_some (cond (b || false) (Some i) (first_named (i + 1) (w ∷ []) c))) (same_equal (named w) (named x)) ∙ go (is_eq (place_cmp (named x) (named w))) (is_found (i + 1) w c)
  where
    go : (b : Bool) → is_some (first_named (i + 1) (w ∷ []) c) ≡ names c w → is_some (cond (b || false) (Some i) (first_named (i + 1) (w ∷ []) c)) ≡ (b || names c w)
    go true r = refl
    go false r = r

-- a write at a place, with those behind it
pub among_step : (at : ℕ) (c ws : List Write) (w : Write) (place : Option ℕ) → at < length ws → w ≡ get_or ws at w → place ≡ first_named 0 (w ∷ []) c → first_named at c (drop at ws) ≡ cond (is_some place) (Some at) (first_named (at + 1) c (drop (at + 1) ws))
among_step at c ws w place l i e =
    let d : drop at ws ≡ w ∷ drop (at + 1) ws = drop_more ws at w l ∙ ap (λ x. x ∷ drop (at + 1) ws) (sym i) in
    let n : is_some place ≡ names c w = ap is_some e ∙ is_found 0 w c in
    ap (λ xs. first_named at c xs) d ∙ ap (λ b. cond b (Some at) (first_named (at + 1) c (drop (at + 1) ws))) (sym n)

pub among_end : (at : ℕ) (c ws : List Write) → length ws ≤ at → first_named at c (drop at ws) ≡ None
among_end at c ws l = ap (λ xs. first_named at c xs) (drop_all at ws l)

-- ONE COMMIT MORE

writer_stays : (n : ℕ) (cs more : List Commit) (w : Write) (j : ℕ) → first_writer n cs w ≡ Some j → first_writer n (cs ++ more) w ≡ Some j
writer_stays n [] more w j h = absurd (none-some j h)
writer_stays n (c ∷ cs) more w j h = elim (names c.writes.list w) as (λ b. cond b (Some n) (first_writer (n + 1) cs w) ≡ Some j → cond b (Some n) (first_writer (n + 1) (cs ++ more) w) ≡ Some j) [
  | true ↦ λ e. e
  | false ↦ λ e. writer_stays (n + 1) cs more w j e
] h

last_writes : (n : ℕ) (cs : List Commit) (c : Commit) (w : Write) → first_writer n cs w ≡ None → first_writer n (cs ++ c ∷ []) w ≡ cond (names c.writes.list w) (Some (n + length cs)) None
last_writes n [] c w h = let z : n ≡ n + 0 = omega arith in ap (λ m. cond (names c.writes.list w) (Some m) None) z
last_writes n (x ∷ cs) c w h = go (names x.writes.list w) h (λ k. last_writes (n + 1) cs c w k)
  where
    go : (b : Bool) → cond b (Some n) (first_writer (n + 1) cs w) ≡ None → (first_writer (n + 1) cs w ≡ None → first_writer (n + 1) (cs ++ c ∷ []) w ≡ cond (names c.writes.list w) (Some (n + 1 + length cs)) None)
        → cond b (Some n) (first_writer (n + 1) (cs ++ c ∷ []) w) ≡ cond (names c.writes.list w) (Some (n + suc (length cs))) None
    go true e f = absurd (none-some n (sym e))
    go false e f = let z : n + 1 + length cs ≡ n + suc (length cs) = omega arith in f e ∙ ap (λ m. cond (names c.writes.list w) (Some m) None) z

changed_after : (i n : ℕ) (cs : List Commit) (ws : List Write) (p : ℕ × ℕ) → changed_from i n cs ws ≡ Some p → i ≤ p.0
changed_after i n cs [] p h = absurd (none-some p h)
changed_after i n cs (w ∷ ws) p h = go (first_writer n cs w) h (λ k. changed_after (i + 1) n cs ws p k)
  where
    go : (o : Option ℕ) → or_else o i (changed_from (i + 1) n cs ws) ≡ Some p → (changed_from (i + 1) n cs ws ≡ Some p → i + 1 ≤ p.0) → i ≤ p.0
    go (Some j) e f = let s : i ≡ p.0 = ap (λ q. q.0) (same_Some (i, j) p e) in omega (arith, s)
    go None e f = let l = f e in omega (arith, l)

found_stays : (i j m : ℕ) (o : Option ℕ) → ((p : ℕ) → o ≡ Some p → i ≤ p) → earlier (Some (i, j)) o m ≡ Some (i, j)
found_stays i j m None f = refl
found_stays i j m (Some p) f = ap (λ b. cond b (Some (p, m)) (Some (i, j))) (le-ltb p i (f p refl))

found_comes : (i m : ℕ) (o : Option (ℕ × ℕ)) → ((p : ℕ × ℕ) → o ≡ Some p → i + 1 ≤ p.0) → earlier o (Some i) m ≡ Some (i, m)
found_comes i m None f = refl
found_comes i m (Some p) f = let l = f p refl in ap (λ b. cond b (Some (i, m)) (Some p)) (lt-ltb i p.0 (omega arith))

pub changed_none : (i n : ℕ) (ws : List Write) → changed_from i n [] ws ≡ None
changed_none i n [] = refl
changed_none i n (w ∷ ws) = changed_none (i + 1) n ws

pub changed_more : (i n : ℕ) (cs : List Commit) (c : Commit) (ws : List Write) → changed_from i n (cs ++ c ∷ []) ws ≡ earlier (changed_from i n cs ws) (first_named i c.writes.list ws) (n + length cs)
changed_more i n cs c [] = refl
changed_more i n cs c (w ∷ ws) = go (first_writer n cs w) refl (changed_more (i + 1) n cs c ws)
  where
    m : ℕ
    m = n + length cs

    rest : Option (ℕ × ℕ)
    rest = changed_from (i + 1) n cs ws

    both : Option (ℕ × ℕ)
    both = changed_from (i + 1) n (cs ++ c ∷ []) ws

    later : Option ℕ
    later = first_named (i + 1) c.writes.list ws

    by_name : (b : Bool) → both ≡ earlier rest later m → or_else (cond b (Some m) None) i both ≡ earlier rest (cond b (Some i) later) m
    by_name true r = sym (found_comes i m rest (λ p e. changed_after (i + 1) n cs ws p e))
    by_name false r = r

    go : (o : Option ℕ) → first_writer n cs w ≡ o → both ≡ earlier rest later m
        → or_else (first_writer n (cs ++ c ∷ []) w) i both ≡ earlier (or_else o i rest) (first_named i c.writes.list (w ∷ ws)) m
    go (Some j) e r = ap (λ o. or_else o i both) (writer_stays n cs (c ∷ []) w j e) ∙ sym (found_stays i j m (first_named i c.writes.list (w ∷ ws)) (λ p h. named_from i c.writes.list (w ∷ ws) p h))
    go None e r = ap (λ o. or_else o i both) (last_writes n cs c w e) ∙ by_name (names c.writes.list w) r

-- the step of the loop over commits
pub changed_step : (from at number : ℕ) (cs : List Commit) (c : Commit) (ws : List Write) (found result : Option (ℕ × ℕ)) (place : Option ℕ) → at < length cs → c ≡ get_or cs at c → found ≡ changed_from 0 (from + 1) (take at cs) ws → place ≡ first_named 0 c.writes.list ws → number ≡ from + at → result ≡ earlier found place (number + 1) → result ≡ changed_from 0 (from + 1) (take (at + 1) cs) ws
changed_step from at number cs c ws found result place l i e f n r =
    let t : take (at + 1) cs ≡ take at cs ++ c ∷ [] = take_more cs at c l ∙ ap (λ y. take at cs ++ y ∷ []) (sym i) in
    let s = length-take at cs in
    let m : number + 1 ≡ from + 1 + length (take at cs) = omega (arith, n, s, l) in
    r ∙ ap (λ o. earlier o place (number + 1)) e ∙ ap (λ o. earlier (changed_from 0 (from + 1) (take at cs) ws) o (number + 1)) f
    ∙ ap (λ k. earlier (changed_from 0 (from + 1) (take at cs) ws) (first_named 0 c.writes.list ws) k) m
    ∙ sym (ap (λ ys. changed_from 0 (from + 1) ys ws) t ∙ changed_more 0 (from + 1) (take at cs) c ws)

-- WHAT IS FOUND IS THE CONFLICT

abbrev PlacedFrom : ℕ → Option (Write × ℕ) → List Write → Option (ℕ × ℕ) → Type 0
PlacedFrom i found ws None = found ≡ None
PlacedFrom i found ws (Some (p, k)) = (q : ℕ) × (p ≡ i + q) × (w : Write) × (slice_get ws q ≡ Some w) × (found ≡ Some (w, k))

placed_more : (i : ℕ) (found : Option (Write × ℕ)) (w : Write) (ws : List Write) (r : Option (ℕ × ℕ)) → PlacedFrom (i + 1) found ws r → PlacedFrom i found (w ∷ ws) r
placed_more i found w ws None h = h
placed_more i found w ws (Some (p, k)) h = (suc h.0, (let e = h.1 in omega (arith, e)), h.2, h.3, h.4)

placed_from : (i n : ℕ) (cs : List Commit) (ws : List Write) → PlacedFrom i (conflict_after n cs ws) ws (changed_from i n cs ws)
placed_from i n cs [] = refl
placed_from i n cs (w ∷ ws) = go (first_writer n cs w) (placed_from (i + 1) n cs ws)
  where
    go : (o : Option ℕ) → PlacedFrom (i + 1) (conflict_after n cs ws) ws (changed_from (i + 1) n cs ws) → PlacedFrom i (or_later o w (conflict_after n cs ws)) (w ∷ ws) (or_else o i (changed_from (i + 1) n cs ws))
    go (Some j) r = (0, omega arith, w, refl, refl)
    go None r = placed_more i (conflict_after n cs ws) w ws (changed_from (i + 1) n cs ws) r

at_first : (found : Option (Write × ℕ)) (ws : List Write) (r : Option (ℕ × ℕ)) → PlacedFrom 0 found ws r → Placed found ws r
at_first found ws None h = h
at_first found ws (Some (p, k)) h = let e : h.0 ≡ p = (let x = h.1 in omega (arith, x)) in (h.2, subst (λ n. slice_get ws n ≡ Some h.2) e h.3, h.4)

pub found_is : (n : ℕ) (cs : List Commit) (ws : List Write) (r : Option (ℕ × ℕ)) → r ≡ changed_from 0 n cs ws → Placed (conflict_after n cs ws) ws r
found_is n cs ws r e = subst (λ x. Placed (conflict_after n cs ws) ws x) (sym e) (at_first (conflict_after n cs ws) ws (changed_from 0 n cs ws) (placed_from 0 n cs ws))

-- more writes in a log
pub held_more : (xs : List Commit) (c : Commit) → held (xs ++ c ∷ []) ≡ held xs + length c.writes.list
held_more [] c = omega arith
held_more (x ∷ xs) c = let r = held_more xs c in omega (arith, r)

-- the commits after the k-th, as they are cut from the log
pub cut_is : (k : ℕ) (xs log : List Commit) (ws : List Write) (r : Option (ℕ × ℕ)) → xs ≡ log → r ≡ changed_from 0 (k + 1) (take (length xs - k) (drop k xs)) ws → Changed log k ws r
cut_is k xs log ws r e h =
    let d = length-drop k xs in
    let t : take (length xs - k) (drop k xs) ≡ drop k xs = take_all (length xs - k) (drop k xs) (omega (arith, d)) in
    subst (λ l. Changed l k ws r) e (found_is (k + 1) (drop k xs) ws r (h ∙ ap (λ l. changed_from 0 (k + 1) l ws) t))
