-- What the steps of walks over rows, runs and edges from a vertex keep.
use Rattle.std.proofs.Common.{ℕ, zero, suc, ◌≡◌, ◌≤◌, ◌<◌, ◌+◌, ◌-◌, ◌*◌, ◌==◌, List, [], ◌∷◌, ◌++◌, length, drop, take, get_or, Bool, true, false, cond, is_some, refl, ap, sym, subst, ◌∙◌, arith, add-one, append_assoc}
use Rattle.std.specs.Prelude.{slice_get, Result, Ok, Err, IfOk}
use Rattle.std.proofs.lemmas.Bool.{eqb-true}
use Rattle.std.proofs.Math.Nat.{mul-le-mul_right, suc-mul, mul-add}
use Rattle.std.proofs.Math.Seq.{take-suc}
use Rattle.std.proofs.lemmas.List.{length-map}
use Rattle.std.specs.declared.option.Option.{Option}
use Rattle.std.specs.declared.option.Option.TheVariants.{Some, None}
use Rattle.std.specs.Option.{option_map}
use Rattle.std.specs.declared.cmp.Ordering.{Ordering}
use Rattle.std.specs.declared.cmp.Ordering.TheVariants.{Less, Equal, Greater}
use Rattle.std.specs.Ordering.{is_eq, is_lt}
use Rattle.std.specs.List.{cons_option}
use Rattle.pg_keyed.specs.Keyed.{is_named}
use Rattle.pg_keyed.specs.Puts.{named_is}
use Rattle.pg_value.specs.declared.value.Value.{Value}
use Rattle.pg_value.specs.declared.value.Dir.{Dir}
use Rattle.pg_value.specs.declared.row.Key.{Key}
use Rattle.pg_value.specs.declared.shape.TableNo.{TableNo}
use Rattle.pg_value.specs.declared.shape.EdgeNo.{EdgeNo}
use Rattle.pg_value.specs.declared.write.Write.{Write}
use Rattle.pg_value.specs.Order.{key_cmp}
use Rattle.pg_value.specs.Orders.{keys}
use Rattle.pg_value.specs.Tables.{Stored}
use Rattle.pg_value.specs.TablesLaws.{key_of, key_named, writes_to, write_at_in}
use Rattle.pg_value.specs.Writes.{write_at}
use Rattle.pg_value.specs.Log.{row_given}
use Rattle.pg_run.specs.Runs.{RunOf, said_at, entries_in_run}
use Rattle.pg_snap.specs.declared.reached.Reached.{Reached}
use Rattle.pg_snap.specs.Costs.{run_cost, runs_cost, run_search, runs_search, runs_entries}
use Rattle.pg_snap.specs.Scans.{stands_before, without, under, Gives, write_of, writes_of}
use Rattle.pg_snap.specs.declared.changes.Change.{Change}
use Rattle.pg_snap.specs.declared.scan.Held.{Held}
use Rattle.pg_value.specs.declared.row.Row.{Row}
use Rattle.pg_value.specs.Tables.{Tables}
use Rattle.pg_view.specs.Standing.{standing, BeginsWith}
use Rattle.pg_view.specs.declared.view.Neighbour.{Neighbour}
use Rattle.std.proofs.Math.ListN.{drop_of_length-le}
use Rattle.std.proofs.lemmas.List.Elements.{filter_map-append}
use Rattle.pg_snap.specs.Under.{plain, plains, zipped, under_run, all_standing}
use Rattle.pg_snap.proofs.ScanLaws.{drop_at, drop_end, row_first, change_first, none_behind}
use Rattle.pg_snap.proofs.SideLaws.{run_short}

true_false : true ≡ false → ⊥
true_false h = cc

pub if_ok : {X E : Type 0} (r : Result X E) (P Q : X → Type 0) → ((x : X) → P x → Q x) → IfOk r P → IfOk r Q
if_ok (Ok x) P Q f h = f x h
if_ok (Err e) P Q f h = tt

-- WHAT A RUN NAMES

pub named_said : (t : TableNo) (k : List Value) (run : RunOf) → is_named key_named key_cmp k (writes_to t run.writes) ≡ is_some (said_at t k run)
named_said t k run = named_is key_of key_named row_given key_cmp keys k (writes_to t run.writes) ∙ ap is_some (write_at_in t k run.writes) ∙ go (write_at (t.0, k) run.writes)
  where
    go : (m : Option Write) → is_some m ≡ is_some (option_map (λ w. w.row) m)
    go None = refl
    go (Some w) = refl

-- EDGES FROM A VERTEX

zipped_push : (es os : List Key) (i : ℕ) (e o : Key) → i < length es → length es ≡ length os → e ≡ get_or es i e → o ≡ get_or os i o → zipped (take (i + 1) es) (take (i + 1) os) ≡ zipped (take i es) (take i os) ++ record { edge = e; other = o } ∷ []
zipped_push es os i e o l n p q = rw add-one (go es os i l n p q)
  where
    go : (es os : List Key) (i : ℕ) → i < length es → length es ≡ length os → e ≡ get_or es i e → o ≡ get_or os i o → zipped (take (suc i) es) (take (suc i) os) ≡ zipped (take i es) (take i os) ++ record { edge = e; other = o } ∷ []
    go [] os i l n p q = absurd (omega (arith, l))
    go (x ∷ es) [] i l n p q = absurd (omega (arith, n))
    go (x ∷ es) (y ∷ os) zero l n p q = λ j. record { edge = sym p j; other = sym q j } ∷ []
    go (x ∷ es) (y ∷ os) (suc i) l n p q = ap (λ zs. record { edge = x; other = y } ∷ zs) (go es os i (omega (arith, l)) (omega (arith, n)) p q)

pub plains_push : (xs : List Reached) (r : Reached) → plains (xs ++ r ∷ []) ≡ plains xs ++ plain r ∷ []
plains_push [] r = refl
plains_push (x ∷ xs) r = ap (λ ys. plain x ∷ ys) (plains_push xs r)

pub one_paired : (es os : List Key) (i : ℕ) (r : Reached) (old new : List Reached) → i < length es → length es ≡ length os → r.edge.now ≡ get_or es i r.edge.now → r.other.now ≡ get_or os i r.other.now
    → plains old ≡ zipped (take i es) (take i os) → new ≡ old ++ r ∷ [] → plains new ≡ zipped (take (i + 1) es) (take (i + 1) os)
one_paired es os i r old new l n p q h k = ap plains k ∙ plains_push old r ∙ ap (λ xs. xs ++ plain r ∷ []) h ∙ sym (zipped_push es os i r.edge.now r.other.now l n p q)

pub run_len : (e : EdgeNo) (dir : Dir) (v : List Value) (t : TableNo) (olds news : List Reached) (run : RunOf) → plains news ≡ under_run e dir v t (plains olds) run → length news ≤ length olds + length (entries_in_run run e dir v)
run_len e dir v t olds news run h =
    let a = length-map news plain in
    let b = length-map olds plain in
    let c = ap length h in
    let d = run_short e dir v t (plains olds) run in
    omega (arith, a, b, c, d)

rest_is : {X : Type 0} (xs : List X) → take (length xs) xs ≡ xs
rest_is [] = refl
rest_is (x ∷ xs) = ap (λ ys. x ∷ ys) (rest_is xs)

abbrev pub behind : {X : Type 0} → List X → List X
behind xs = take (length xs - 1) (drop 1 xs)

pub behind_is : {X : Type 0} (x : X) (xs : List X) → behind (x ∷ xs) ≡ xs
behind_is x xs = ap (λ n. take n xs) (let e : suc (length xs) - 1 ≡ length xs = omega arith in e) ∙ rest_is xs

pub runs_step : (e : EdgeNo) (dir : Dir) (v : List Value) (t : TableNo) (runs : List RunOf) (run : RunOf) (n0 n1 s0 s1 s2 : ℕ) → 1 ≤ length runs → run ≡ get_or runs 0 run
    → s1 ≤ s0 + run_search e run + n0 * run_cost t run → n1 ≤ n0 + length (entries_in_run run e dir v)
    → s2 ≤ s1 + runs_search e (behind runs) + (n1 + runs_entries e dir v (behind runs)) * runs_cost t (behind runs)
    → s2 ≤ s0 + runs_search e runs + (n0 + runs_entries e dir v runs) * runs_cost t runs
runs_step e dir v t [] run n0 n1 s0 s1 s2 l q a b c = absurd (omega (arith, l))
runs_step e dir v t (x ∷ xs) run n0 n1 s0 s1 s2 l q a b c =
    let k = subst (λ rs. s2 ≤ s1 + runs_search e rs + (n1 + runs_entries e dir v rs) * runs_cost t rs) (behind_is x xs) c in
    subst (λ (r : RunOf). s2 ≤ s0 + (run_search e r + runs_search e xs) + (n0 + (length (entries_in_run r e dir v) + runs_entries e dir v xs)) * (run_cost t r + runs_cost t xs)) q
    (sum n0 n1 s0 s1 s2 (run_search e run) (runs_search e xs) (run_cost t run) (runs_cost t xs) (length (entries_in_run run e dir v)) (runs_entries e dir v xs) a b k)
  where
    sum : (n0 n1 s0 s1 s2 f fs r rs m ms : ℕ) → s1 ≤ s0 + f + n0 * r → n1 ≤ n0 + m → s2 ≤ s1 + fs + (n1 + ms) * rs → s2 ≤ s0 + (f + fs) + (n0 + (m + ms)) * (r + rs)
    sum n0 n1 s0 s1 s2 f fs r rs m ms a b c =
        let total : (n0 + (m + ms)) * (r + rs) ≡ (n0 + (m + ms)) * r + (n0 + (m + ms)) * rs = mul-add (n0 + (m + ms)) r rs in
        let x : n0 * r ≤ (n0 + (m + ms)) * r = mul-le-mul_right r (let w : n0 ≤ n0 + (m + ms) = omega arith in w) in
        let y : (n1 + ms) * rs ≤ (n0 + (m + ms)) * rs = mul-le-mul_right rs (let w : n1 + ms ≤ n0 + (m + ms) = omega (arith, b) in w) in
        omega (arith, a, c, total, x, y)

-- ROWS AT A PLACE

not_less_is : (r : Ordering) → (r ≡ Less → ⊥) → is_lt r ≡ false
not_less_is Less h = absurd (h refl)
not_less_is Equal h = refl
not_less_is Greater h = refl

not_equal_is : (r : Ordering) → (r ≡ Equal → ⊥) → is_eq r ≡ false
not_equal_is Less h = refl
not_equal_is Equal h = absurd (h refl)
not_equal_is Greater h = refl

pub before_is : (rows : List Stored) (at : ℕ) (s : Stored) (k : List Value) → Some s ≡ slice_get rows at → stands_before k (drop at rows) ≡ is_lt (key_cmp (key_of s) k)
before_is rows at s k e = ap (stands_before k) (drop_at rows at s (sym e))

pub before_less : (rows : List Stored) (at : ℕ) (s : Stored) (k : List Value) → Some s ≡ slice_get rows at → Less ≡ key_cmp (key_of s) k → true ≡ stands_before k (drop at rows)
before_less rows at s k e h = sym (before_is rows at s k e ∙ ap is_lt (sym h))

pub before_not : (rows : List Stored) (at : ℕ) (s : Stored) (k : List Value) (r : Ordering) → Some s ≡ slice_get rows at → r ≡ key_cmp (key_of s) k → (r ≡ Less → ⊥) → false ≡ stands_before k (drop at rows)
before_not rows at s k r e h n = sym (before_is rows at s k e ∙ ap is_lt (sym h) ∙ not_less_is r n)

pub before_none : (rows : List Stored) (at : ℕ) (k : List Value) → None ≡ slice_get rows at → false ≡ stands_before k (drop at rows)
before_none rows at k e = sym (ap (stands_before k) (drop_end rows at (sym e)))

pub past_equal : (rows : List Stored) (at : ℕ) (s : Stored) (k : List Value) → Some s ≡ slice_get rows at → Equal ≡ key_cmp (key_of s) k → drop (at + 1) rows ≡ without k (drop at rows)
past_equal rows at s k e h = sym (ap (without k) (drop_at rows at s (sym e)) ∙ ap (λ r. cond (is_eq r) (drop (at + 1) rows) (s ∷ drop (at + 1) rows)) (sym h))

pub past_other : (rows : List Stored) (at : ℕ) (s : Stored) (k : List Value) (r : Ordering) → Some s ≡ slice_get rows at → r ≡ key_cmp (key_of s) k → (r ≡ Equal → ⊥) → drop at rows ≡ without k (drop at rows)
past_other rows at s k r e h n = drop_at rows at s (sym e) ∙ sym (ap (without k) (drop_at rows at s (sym e)) ∙ ap (λ b. cond b (drop (at + 1) rows) (s ∷ drop (at + 1) rows)) (ap is_eq (sym h) ∙ not_equal_is r n))

pub past_none : (rows : List Stored) (at : ℕ) (k : List Value) → None ≡ slice_get rows at → drop at rows ≡ without k (drop at rows)
past_none rows at k e = drop_end rows at (sym e) ∙ sym (ap (without k) (drop_end rows at (sym e)))

-- NO WRITES

none_long : {X : Type 0} (xs : List X) → length xs ≡ 0 → xs ≡ []
none_long [] l = refl
none_long (x ∷ xs) l = absurd (omega (arith, l))

pub empty_is : {X : Type 0} (xs : List X) (b : Bool) → b ≡ (length xs == 0) → b ≡ true → xs ≡ []
empty_is xs b e h = none_long xs (eqb-true (length xs) 0 (sym e ∙ h))

-- A STEP OF A SCAN

-- the walk goes on with the first row, where that stands before the next change or there is no change
pub row_next : (rows rest : List Stored) (w : Write) (ws : List Write) (h : Option Held) → true ≡ stands_before w.key.values rows → Gives rows rest h → Gives (under rows (w ∷ ws)) (under rest (w ∷ ws)) h
row_next rows rest w ws None b g = absurd (true_false (b ∙ ap (stands_before w.key.values) g.0))
row_next rows rest w ws (Some h) b g = (g.0, row_first rows rest g.0 w ws g.1 (sym b), g.2, g.3)

pub row_last : (rows rest : List Stored) (h : Option Held) → Gives rows rest h → Gives (under rows []) (under rest []) h
row_last rows rest None g = (none_behind rows ∙ g.0, none_behind rest ∙ g.1)
row_last rows rest (Some h) g = (g.0, none_behind rows ∙ g.1 ∙ ap (λ xs. g.0 ∷ xs) (sym (none_behind rest)), g.2, g.3)

changes_at : (cs : List Change) (n : ℕ) (c : Change) → n < length cs → c ≡ get_or cs n c → drop n (writes_of cs) ≡ write_of c ∷ drop (n + 1) (writes_of cs)
changes_at cs n c l e = rw add-one (go cs n l e)
  where
    go : (cs : List Change) (n : ℕ) → n < length cs → c ≡ get_or cs n c → drop n (writes_of cs) ≡ write_of c ∷ drop (suc n) (writes_of cs)
    go [] n l e = absurd (omega (arith, l))
    go (x ∷ cs) zero l e = ap (λ y. write_of y ∷ writes_of cs) (sym e)
    go (x ∷ cs) (suc n) l e = go cs n (omega (arith, l)) e

pub scan_row : (start rows rest : List Stored) (ws0 : List Write) (cs : List Change) (n : ℕ) (c : Change) (h : Option Held) → n < length cs → c ≡ get_or cs n c → under rows (drop n (writes_of cs)) ≡ under start ws0
    → true ≡ stands_before (write_of c).key.values rows → Gives rows rest h → Gives (under start ws0) (under rest (drop n (writes_of cs))) h
scan_row start rows rest ws0 cs n c h l e k b g =
    subst (λ xs. Gives xs (under rest (drop n (writes_of cs))) h) k
    (subst (λ ws. Gives (under rows ws) (under rest ws) h) (sym (changes_at cs n c l e)) (row_next rows rest (write_of c) (drop (n + 1) (writes_of cs)) h b g))

changes_end : (cs : List Change) (n : ℕ) → length cs ≤ n → drop n (writes_of cs) ≡ []
changes_end cs n l = drop_of_length-le (writes_of cs) (let m = length-map cs write_of in omega (arith, l, m))

pub scan_last : (start rows rest : List Stored) (ws0 : List Write) (cs : List Change) (n : ℕ) (h : Option Held) → length cs ≤ n → under rows (drop n (writes_of cs)) ≡ under start ws0
    → Gives rows rest h → Gives (under start ws0) (under rest (drop n (writes_of cs))) h
scan_last start rows rest ws0 cs n h l k g =
    subst (λ xs. Gives xs (under rest (drop n (writes_of cs))) h) k
    (subst (λ ws. Gives (under rows ws) (under rest ws) h) (sym (changes_end cs n l)) (row_last rows rest h g))

pub scan_change : (rows rest : List Stored) (cs : List Change) (n : ℕ) (c : Change) → n < length cs → c ≡ get_or cs n c → false ≡ stands_before (write_of c).key.values rows → rest ≡ without (write_of c).key.values rows
    → under rows (drop n (writes_of cs)) ≡ cons_option (row_given (write_of c)) (under rest (drop (n + 1) (writes_of cs)))
scan_change rows rest cs n c l e b q =
    ap (under rows) (changes_at cs n c l e) ∙ change_first rows (write_of c) (drop (n + 1) (writes_of cs)) (sym b) ∙ ap (λ rs. cons_option (row_given (write_of c)) (under rs (drop (n + 1) (writes_of cs)))) (sym q)

given_some : (w : Write) (r : Row) → w.row ≡ Some r → row_given w ≡ Some (record { table = w.table; key = w.key; row = r })
given_some w r e = ap (option_map (λ q. record { table = w.table; key = w.key; row = q })) e

given_none : (w : Write) → w.row ≡ None → row_given w ≡ None
given_none w e = ap (option_map (λ q. record { table = w.table; key = w.key; row = q })) e

pub scan_given : (start rows rest : List Stored) (ws0 : List Write) (cs : List Change) (n : ℕ) (c : Change) (r : Row) → n < length cs → c ≡ get_or cs n c → under rows (drop n (writes_of cs)) ≡ under start ws0
    → false ≡ stands_before (write_of c).key.values rows → rest ≡ without (write_of c).key.values rows → (write_of c).row ≡ Some r
    → (s : Stored) × (under start ws0 ≡ s ∷ under rest (drop (n + 1) (writes_of cs))) × ((write_of c).key ≡ s.key) × (r ≡ s.row)
scan_given start rows rest ws0 cs n c r l e k b q h =
    let w = write_of c in
    (record { table = w.table; key = w.key; row = r }, sym k ∙ scan_change rows rest cs n c l e b q ∙ ap (λ o. cons_option o (under rest (drop (n + 1) (writes_of cs)))) (given_some w r h), refl, refl)

pub scan_gone : (start rows rest : List Stored) (ws0 : List Write) (cs : List Change) (n : ℕ) (c : Change) → n < length cs → c ≡ get_or cs n c → under rows (drop n (writes_of cs)) ≡ under start ws0
    → false ≡ stands_before (write_of c).key.values rows → rest ≡ without (write_of c).key.values rows → (write_of c).row ≡ None → under rest (drop (n + 1) (writes_of cs)) ≡ under start ws0
scan_gone start rows rest ws0 cs n c l e k b q h = sym (scan_change rows rest cs n c l e b q ∙ ap (λ o. cons_option o (under rest (drop (n + 1) (writes_of cs)))) (given_none (write_of c) h)) ∙ k

-- EDGES THAT STAND, ONE BY ONE

pub standing_more : (tables : Tables) (t u : TableNo) (before old new : List Neighbour) (all : List Reached) (i : ℕ) (r : Reached) → i < length all → r ≡ get_or all i r → old ≡ before ++ all_standing tables t u (plains (take i all))
    → new ≡ old ++ cons_option (standing tables t u r.edge.now r.other.now) [] → new ≡ before ++ all_standing tables t u (plains (take (i + 1) all))
standing_more tables t u before old new all i r l e h n =
    n ∙ ap (λ xs. xs ++ cons_option (standing tables t u r.edge.now r.other.now) []) h ∙ append_assoc before (all_standing tables t u (plains (take i all))) (cons_option (standing tables t u r.edge.now r.other.now) [])
    ∙ ap (λ ys. before ++ ys) (sym one)
  where
    one : all_standing tables t u (plains (take (i + 1) all)) ≡ all_standing tables t u (plains (take i all)) ++ cons_option (standing tables t u r.edge.now r.other.now) []
    one = rw add-one (ap (λ xs. all_standing tables t u (plains xs)) (take-suc all i r l ∙ ap (λ x. take i all ++ x ∷ []) (sym e)) ∙ ap (all_standing tables t u) (plains_push (take i all) r) ∙ filter_map-append (λ s. standing tables t u s.edge s.other) (plains (take i all)) (plain r ∷ []))

pub begins : {X : Type 0} (front back : List X) → BeginsWith front (front ++ back)
begins [] back = refl
begins (x ∷ front) back = ap (λ ys. x ∷ ys) (begins front back)

pub within_all : (i n c s0 s1 s2 : ℕ) → i < n → s1 ≤ s0 + i * c → s2 ≤ s1 + c → s2 ≤ s0 + n * c
within_all i n c s0 s1 s2 l a b = let m = mul-le-mul_right c l in let e : suc i * c ≡ i * c + c = suc-mul i c in omega (arith, m, e, a, b)

pub within_next : (i c s0 s1 s2 : ℕ) → s1 ≤ s0 + i * c → s2 ≤ s1 + c → s2 ≤ s0 + (i + 1) * c
within_next i c s0 s1 s2 a b = within_all i (i + 1) c s0 s1 s2 (omega arith) a b

pub nothing_behind : {X : Type 0} (xs : List X) → xs ++ [] ≡ xs
nothing_behind [] = refl
nothing_behind (x ∷ xs) = ap (λ ys. x ∷ ys) (nothing_behind xs)
