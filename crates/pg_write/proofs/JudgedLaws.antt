-- Rows that are judged one after another: what is judged behind others, and that the first faulty row or the writes of all come out.
use Rattle.std.proofs.Common.{ℕ, ◌≡◌, ◌+◌, ◌<◌, ◌≤◌, Bool, true, false, cond, refl, ap, sym, subst, ◌∙◌, List, [], ◌∷◌, ◌++◌, length, arith, add-one}
use Rattle.std.specs.Prelude.{◌&&◌, not, is_some, slice_get}
use Rattle.std.specs.declared.option.Option.{Option}
use Rattle.std.specs.declared.option.Option.TheVariants.{Some, None}
use Rattle.std.specs.declared.cmp.Ordering.{Ordering}
use Rattle.std.specs.Ordering.{is_eq, is_gt}
use Rattle.std.specs.declared.cmp.Ordering.TheVariants.{Less, Equal, Greater}
use Rattle.std.specs.List.{filter_map}
use Rattle.std.proofs.lemmas.Bool.{lt-ltb, le-ltb}
use Rattle.std.proofs.lemmas.List.{append_assoc, append-nil, length-append, length-set}
use Rattle.std.proofs.lemmas.List.Sums.{fold-append}
use Rattle.std.proofs.lemmas.List.Edits.{length-insert}
use Rattle.std.proofs.lemmas.Option.{none-some}
use Rattle.pg_keyed.specs.Keyed.{Above, rank, weave}
use Rattle.pg_keyed.specs.Orders.{same}
use Rattle.pg_keyed.specs.Ranks.{rank_within, above_none, above_less}
use Rattle.pg_keyed.specs.Reads.{get_key}
use Rattle.pg_keyed.specs.Puts.{merge_ascends, merge_reads, newer, one_added, one_replaces, own_fits, put_nothing, put_put, put_weave, put_on_nothing}
use Rattle.pg_value.specs.Order.{Place, place_cmp}
use Rattle.pg_value.specs.Orders.{places}
use Rattle.pg_value.specs.declared.write.Write.{Write}
use Rattle.pg_value.specs.Writes.{named, write_at, merge, IsInOrder}
use Rattle.pg_rules.specs.declared.fault.RowFault.{RowFault}
use Rattle.pg_meaning.specs.declared.checked.CheckedChange.{CheckedChange}
use Rattle.pg_rules.specs.Changes.InsertEffect.{or_else}
use Rattle.pg_rules.specs.Changes.ChangeEffect.{Context, columns_fault, with_writes, duplicate, fault_behind, is_insert, proposed, IsDone, IsFirstFault}
use Rattle.pg_write.specs.JudgedRows.{SoFar, no_rows, with_row, Judged, Fine, Faulty, and_then, row_judged, judged, fault_over, duplicate_over, is_new, count_with, count_within, limit_fault}

-- ONE WRITE AFTER ANOTHER

pub put_ascends : (writes : List Write) (w : Write) → IsInOrder writes → IsInOrder (merge writes (w ∷ []))
put_ascends writes w a = merge_ascends named place_cmp places writes (w ∷ []) a (tt, tt)

pub nothing_put : (writes : List Write) → merge writes [] ≡ writes
nothing_put writes = put_nothing named named (λ (w : Write). Some w) place_cmp places writes

-- writes put on a merge are merged
pub merge_merge : (a b c : List Write) → IsInOrder a → IsInOrder b → IsInOrder c → merge (merge a b) c ≡ merge a (merge b c)
merge_merge a b c h k l = put_put named named (λ (w : Write). Some w) place_cmp places a b c (own_fits named place_cmp places b) (own_fits named place_cmp places c) h k l

pub all_ascend : (writes ws : List Write) → IsInOrder writes → IsInOrder (with_writes writes ws)
all_ascend writes [] a = a
all_ascend writes (w ∷ ws) a = all_ascend (merge writes (w ∷ [])) ws (put_ascends writes w a)

-- writes put one after another on a merge
put_after : (a b ws : List Write) → IsInOrder a → IsInOrder b → with_writes (merge a b) ws ≡ merge a (with_writes b ws)
put_after a b [] h k = refl
put_after a b (w ∷ ws) h k =
    ap (λ l. with_writes l ws) (merge_merge a b (w ∷ []) h k (tt, tt)) ∙ put_after a (merge b (w ∷ [])) ws h (put_ascends b w k)

pub made_apart : (writes ws : List Write) → IsInOrder writes → with_writes writes ws ≡ merge writes (with_writes [] ws)
made_apart writes ws a = ap (λ l. with_writes l ws) (sym (nothing_put writes)) ∙ put_after writes [] ws a tt

pub one_more : (writes ws : List Write) (w : Write) → with_writes writes (ws ++ w ∷ []) ≡ merge (with_writes writes ws) (w ∷ [])
one_more writes ws w = fold-append (λ ws w. merge ws (w ∷ [])) writes ws (w ∷ [])

given_all : (ws : List Write) → filter_map (λ (w : Write). Some w) ws ≡ ws
given_all [] = refl
given_all (w ∷ ws) = ap (λ l. w ∷ l) (given_all ws)

-- a write before others
one_before : (w : Write) (ws : List Write) → Above named place_cmp (named w) ws → IsInOrder ws → merge (w ∷ []) ws ≡ w ∷ ws
one_before w [] h a = nothing_put (w ∷ [])
one_before w (v ∷ ws) h a =
    put_weave named named (λ (x : Write). Some x) place_cmp places (w ∷ []) (v ∷ ws) (own_fits named place_cmp places (v ∷ ws)) (tt, tt) a
    ∙ ap (λ r. elim r [ Less ↦ w ∷ weave named named (λ (x : Write). Some x) place_cmp [] (v ∷ ws) | Equal ↦ v ∷ weave named named (λ (x : Write). Some x) place_cmp [] ws | Greater ↦ v ∷ weave named named (λ (x : Write). Some x) place_cmp (w ∷ []) ws ]) h.0
    ∙ ap (λ l. w ∷ v ∷ l) (given_all ws)

-- writes in order, put one after another, are put at once
pub put_in_turn : (writes ws : List Write) → IsInOrder writes → IsInOrder ws → with_writes writes ws ≡ merge writes ws
put_in_turn writes [] a b = sym (nothing_put writes)
put_in_turn writes (w ∷ ws) a b =
    put_in_turn (merge writes (w ∷ [])) ws (put_ascends writes w a) b.1
    ∙ merge_merge writes (w ∷ []) ws a (tt, tt) b.1
    ∙ ap (merge writes) (one_before w ws b.0 b.1)

-- where there are none
pub put_on_none : (writes ws : List Write) → length writes ≡ 0 → IsInOrder ws → merge writes ws ≡ ws
put_on_none [] ws n a = put_on_nothing named named (λ (w : Write). Some w) place_cmp places ws (own_fits named place_cmp places ws) a ∙ given_all ws
put_on_none (w ∷ writes) ws n a = absurd (omega arith)

-- HOW MANY WRITES THERE ARE

longer : (writes : List Write) (w : Write) → IsInOrder writes → write_at (named w) writes ≡ None → length (merge writes (w ∷ [])) ≡ length writes + 1
longer writes w a n =
    ap length (one_added named place_cmp places writes w (rank named place_cmp (named w) writes) a refl n)
    ∙ length-insert writes (rank named place_cmp (named w) writes) w (rank_within named place_cmp places (named w) writes)

-- the item of a key stands at the key's rank
at_rank : (k : Place) (xs : List Write) (x : Write) → IsInOrder xs → write_at k xs ≡ Some x → slice_get xs (rank named place_cmp k xs) ≡ Some x
at_rank k [] x a h = absurd (none-some x h)
at_rank k (y ∷ ys) x a h = go (place_cmp k (named y)) refl (at_rank k ys x a.1) h
  where
    go : (r : Ordering) → place_cmp k (named y) ≡ r → (write_at k ys ≡ Some x → slice_get ys (rank named place_cmp k ys) ≡ Some x) → cond (is_eq r) (Some y) (write_at k ys) ≡ Some x
        → slice_get (y ∷ ys) (cond (is_gt r) (rank named place_cmp k ys + 1) 0) ≡ Some x
    go Less e again g = absurd (none-some x (sym (above_none named place_cmp places k ys (above_less named place_cmp places k (named y) ys e a.0)) ∙ g))
    go Equal e again g = g
    go Greater e again g = rw add-one (again g)

as_long : (writes : List Write) (w : Write) → IsInOrder writes → (x : Write) → write_at (named w) writes ≡ Some x → length (merge writes (w ∷ [])) ≡ length writes
as_long writes w a x h =
    ap length (one_replaces named place_cmp places writes w x (rank named place_cmp (named w) writes) a refl (at_rank (named w) writes x a h)
    (subst (λ k. place_cmp (named w) k ≡ Equal) (get_key named place_cmp places (named w) writes x h) (same places (named w))))
    ∙ length-set writes (rank named place_cmp (named w) writes) w

module _ (writes made : List Write) (w : Write) (a : IsInOrder writes) (b : IsInOrder made) where
  apart : count_with writes made w ≡ length (merge (merge writes made) (w ∷ []))
  apart = ap length (sym (merge_merge writes made (w ∷ []) a b (tt, tt)))

  both : IsInOrder (merge writes made)
  both = merge_ascends named place_cmp places writes made a b

  reads : write_at (named w) (merge writes made) ≡ newer named place_cmp places (write_at (named w) made) (write_at (named w) writes)
  reads = merge_reads named place_cmp places (named w) writes made a b

  -- a new place counts
  count_new : write_at (named w) made ≡ None → write_at (named w) writes ≡ None → count_with writes made w ≡ length (merge writes made) + 1
  count_new m n = apart ∙ longer (merge writes made) w both (reads ∙ (λ i. newer named place_cmp places (m i) (n i)))

  -- one that is there does not
  count_made : (x : Write) → write_at (named w) made ≡ Some x → count_with writes made w ≡ length (merge writes made)
  count_made x m = apart ∙ as_long (merge writes made) w both x (reads ∙ ap (λ o. newer named place_cmp places o (write_at (named w) writes)) m)

  count_given : (x : Write) → write_at (named w) made ≡ None → write_at (named w) writes ≡ Some x → count_with writes made w ≡ length (merge writes made)
  count_given x m n = apart ∙ as_long (merge writes made) w both x (reads ∙ (λ i. newer named place_cmp places (m i) (n i)))

pub count_is : (writes made : List Write) (w : Write) → IsInOrder writes → IsInOrder made → count_with writes made w ≡ cond (is_new writes made w) (length (merge writes made) + 1) (length (merge writes made))
count_is writes made w a b = go (write_at (named w) made) refl (write_at (named w) writes) refl
  where
    go : (m : Option Write) → write_at (named w) made ≡ m → (n : Option Write) → write_at (named w) writes ≡ n
        → count_with writes made w ≡ cond (not (is_some m) && not (is_some n)) (length (merge writes made) + 1) (length (merge writes made))
    go (Some x) e n f = count_made writes made w a b x e
    go None e (Some x) f = count_given writes made w a b x e f
    go None e None f = count_new writes made w a b e f

pub count_new_is : (total : ℕ) (writes made : List Write) (w : Write) (new : Bool) → new ≡ is_new writes made w → new ≡ true → IsInOrder writes → IsInOrder made → total ≡ length (merge writes made) → count_with writes made w ≡ total + 1
count_new_is total writes made w new n t a b e =
    count_is writes made w a b ∙ ap (λ b. cond b (length (merge writes made) + 1) (length (merge writes made))) (sym n ∙ t) ∙ ap (λ k. k + 1) (sym e)

pub count_old_is : (total : ℕ) (writes made : List Write) (w : Write) (new : Bool) → new ≡ is_new writes made w → new ≡ false → IsInOrder writes → IsInOrder made → total ≡ length (merge writes made) → count_with writes made w ≡ total
count_old_is total writes made w new n t a b e =
    count_is writes made w a b ∙ ap (λ b. cond b (length (merge writes made) + 1) (length (merge writes made))) (sym n ∙ t) ∙ sym e

-- within the limit, or beyond it
pub within : (limit count n : ℕ) → count ≡ n → n ≤ limit → Some n ≡ count_within limit count
within limit count n e l = sym (ap (count_within limit) e ∙ ap (λ b. cond b None (Some n)) (le-ltb limit n l))

pub beyond : (limit count n : ℕ) → count ≡ n → limit < n → None ≡ count_within limit count
beyond limit count n e l = sym (ap (count_within limit) e ∙ ap (λ b. cond b None (Some n)) (lt-ltb limit n l))

-- ROWS ONE AFTER ANOTHER

and_again : (j : Judged) (f g : SoFar → Judged) → and_then (and_then j f) g ≡ and_then j (λ s. and_then (f s) g)
and_again (Fine s) f g = refl
and_again (Faulty n x) f g = refl

module _ (c : Context) (insert : Bool) where
  pub judged_append : (s : SoFar) (xs ys : List Write) → judged c insert s (xs ++ ys) ≡ and_then (judged c insert s xs) (λ t. judged c insert t ys)
  judged_append s [] ys = refl
  judged_append s (x ∷ xs) ys = go (row_judged c insert s x) (λ t. judged_append t xs ys)
    where
      go : (j : Judged) → ((t : SoFar) → judged c insert t (xs ++ ys) ≡ and_then (judged c insert t xs) (λ t. judged c insert t ys))
          → and_then j (λ t. judged c insert t (xs ++ ys)) ≡ and_then (and_then j (λ t. judged c insert t xs)) (λ t. judged c insert t ys)
      go (Fine t) again = again t
      go (Faulty n f) again = refl

-- THE STATEMENT

or_three : (a b l : Option RowFault) (d : Option RowFault) (m : Option RowFault) → d ≡ b → m ≡ l → or_else a (or_else d m) ≡ or_else a (or_else b l)
or_three a b l d m e f = λ i. or_else a (or_else (e i) (f i))

module _ (c : Context) (change : CheckedChange) (a : IsInOrder c.writes) where
  abbrev insert : Bool
  insert = is_insert change

  -- a row's fault behind others is its fault over what they write
  same_fault : (before : List Write) (w : Write) → fault_behind c change before w ≡ fault_over c insert (with_writes [] before) w
  same_fault before w = or_three (columns_fault c.shape w.row) (duplicate_over insert c.tables (with_writes [] before) w) (limit_fault c.limit (count_with c.writes (with_writes [] before) w))
      (duplicate insert c.tables before w) (limit_fault c.limit (length (with_writes c.writes (before ++ w ∷ [])))) (same_duplicate insert)
      (ap (λ l. limit_fault c.limit (length l)) (made_apart c.writes (before ++ w ∷ []) a ∙ ap (merge c.writes) (one_more [] before w)))
    where
      same_duplicate : (b : Bool) → duplicate b c.tables before w ≡ duplicate_over b c.tables (with_writes [] before) w
      same_duplicate true = refl
      same_duplicate false = refl

  abbrev after_rows : List Write → SoFar
  after_rows before = record { made = with_writes [] before; rows = length before }

  next_rows : (before : List Write) (w : Write) → with_row (after_rows before) w ≡ after_rows (before ++ w ∷ [])
  next_rows before w = let m = one_more [] before w in let n : length before + 1 ≡ length (before ++ w ∷ []) = sym (length-append before (w ∷ [])) in λ i. record { made = sym m i; rows = n i }

  abbrev Right : List Write → List Write → Type 0
  Right before ws = (front back : List Write) (w : Write) → ws ≡ front ++ w ∷ back → fault_behind c change (before ++ front) w ≡ None

  -- what comes of rows behind others
  abbrev Comes : List Write → List Write → Judged → Type 0
  Comes before ws (Fine s) = Right before ws × (s ≡ after_rows (before ++ ws))
  Comes before ws (Faulty number f) =
      (front back : List Write) × (w : Write) × (ws ≡ front ++ w ∷ back) × (number ≡ length (before ++ front) + 1) × (fault_behind c change (before ++ front) w ≡ Some f) × Right before front

  no_cut : (front back : List Write) (w : Write) → [] ≡ front ++ w ∷ back → ⊥
  no_cut [] back w e = cc
  no_cut (x ∷ front) back w e = cc

  right_more : (before : List Write) (w : Write) (ws : List Write) → fault_behind c change before w ≡ None → Right (before ++ w ∷ []) ws → Right before (w ∷ ws)
  right_more before w ws n r [] back v e =
      let same_w : w ≡ v = cc in ap (λ b. fault_behind c change b v) (append-nil before) ∙ ap (fault_behind c change before) (sym same_w) ∙ n
  right_more before w ws n r (x ∷ front) back v e =
      let same_w : w ≡ x = cc in
      let rest : ws ≡ front ++ v ∷ back = cc in
      ap (λ y. fault_behind c change (before ++ y ∷ front) v) (sym same_w) ∙ ap (λ b. fault_behind c change b v) (sym (append_assoc before (w ∷ []) front)) ∙ r front back v rest

  comes : (before ws : List Write) → Comes before ws (judged c insert (after_rows before) ws)
  comes before [] = ((λ front back w e. absurd (no_cut front back w e)), ap after_rows (sym (append-nil before)))
  comes before (w ∷ ws) = go (fault_over c insert (with_writes [] before) w) refl (comes (before ++ w ∷ []) ws)
    where
      further : (j : Judged) → fault_behind c change before w ≡ None → Comes (before ++ w ∷ []) ws j → Comes before (w ∷ ws) j
      further (Fine s) n (r, e) = (right_more before w ws n r, e ∙ ap after_rows (append_assoc before (w ∷ []) ws))
      further (Faulty number f) n (front, back, v, cut, counted, faulty, r) = (
        w ∷ front,
        back,
        v,
        ap (λ l. w ∷ l) cut,
        counted ∙ ap (λ l. length l + 1) (append_assoc before (w ∷ []) front),
        ap (λ b. fault_behind c change b v) (sym (append_assoc before (w ∷ []) front)) ∙ faulty,
        right_more before w front n r,
      )

      go : (o : Option RowFault) → fault_over c insert (with_writes [] before) w ≡ o → Comes (before ++ w ∷ []) ws (judged c insert (after_rows (before ++ w ∷ [])) ws)
          → Comes before (w ∷ ws) (and_then (elim o [ None ↦ Fine (with_row (after_rows before) w) | Some f ↦ Faulty (length before + 1) f ]) (λ t. judged c insert t ws))
      go None e again = further (judged c insert (with_row (after_rows before) w) ws) (same_fault before w ∙ e) (subst (λ t. Comes (before ++ w ∷ []) ws (judged c insert t ws)) (sym (next_rows before w)) again)
      go (Some f) e again = ([], ws, w, refl, ap (λ l. length l + 1) (sym (append-nil before)), ap (λ b. fault_behind c change b w) (append-nil before) ∙ same_fault before w ∙ e, λ front back v q. absurd (no_cut front back v q))

  -- the rows of a change: all are right, and what they write
  pub all_right : (s : SoFar) → judged c insert no_rows (proposed c.shape c.tables change) ≡ Fine s → IsDone c change (merge c.writes s.made) s.rows
  all_right s h =
      let r : Comes [] (proposed c.shape c.tables change) (Fine s) = subst (Comes [] (proposed c.shape c.tables change)) h (comes [] (proposed c.shape c.tables change)) in
      record {
        right = r.0;
        written = ap (λ (t : SoFar). merge c.writes t.made) r.1 ∙ sym (made_apart c.writes (proposed c.shape c.tables change) a);
        counted = ap (λ (t : SoFar). t.rows) r.1;
      }

  -- or the first faulty one
  pub first_faulty : (number : ℕ) (f : RowFault) → judged c insert no_rows (proposed c.shape c.tables change) ≡ Faulty number f → IsFirstFault c change number f
  first_faulty number f h =
      let r : Comes [] (proposed c.shape c.tables change) (Faulty number f) = subst (Comes [] (proposed c.shape c.tables change)) h (comes [] (proposed c.shape c.tables change)) in
      record { before = r.0; row = r.2; after = r.1; rows = r.3; counted = r.4; faulty = r.5; right_before = r.6 }
