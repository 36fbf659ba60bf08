-- Rows that are lent one after another, and rows that stand together at a time.
use Rattle.std.proofs.Common.{ℕ, zero, suc, ◌≡◌, ◌+◌, ◌-◌, ◌<◌, ◌≤◌, ap, sym, subst, ◌∙◌, List, [], ◌∷◌, ◌++◌, length, get_or, drop, arith}
use Rattle.std.proofs.lemmas.List.{map-append, append_assoc, append-nil, length-append, drop_all}
use Rattle.std.proofs.Math.Seq.{drop-append_seam, drop-append-add}
use Rattle.pg_keyed.specs.Lists.{Each}
use Rattle.pg_chunks.specs.Parts.{IsRun}
use Rattle.pg_value.specs.Tables.{Stored}
use Rattle.pg_write.specs.declared.tables.HeldRow.{HeldRow}
use Rattle.pg_write.specs.HeldRows.{stored_of, all_stored}
use Rattle.pg_write.proofs.Loops.{drop_at}

-- one row more
pub one_lent : (before : List Stored) (old : List HeldRow) (rows : List Stored) (i : ℕ) (s : Stored) (held : HeldRow) → i < length rows → s ≡ get_or rows i s → stored_of held ≡ s
    → all_stored old ++ drop i rows ≡ before ++ rows → all_stored (old ++ held ∷ []) ++ drop (i + 1) rows ≡ before ++ rows
one_lent before old rows i s held inside is e h =
    ap (λ l. l ++ drop (i + 1) rows) (map-append stored_of old (held ∷ []))
    ∙ append_assoc (all_stored old) (stored_of held ∷ []) (drop (i + 1) rows)
    ∙ ap (λ x. all_stored old ++ x ∷ drop (i + 1) rows) e
    ∙ ap (λ l. all_stored old ++ l) (sym (drop_at rows i s inside is))
    ∙ h

-- all rows are
pub all_lent : (before : List Stored) (out : List HeldRow) (rows : List Stored) (i : ℕ) → length rows ≤ i → all_stored out ++ drop i rows ≡ before ++ rows → all_stored out ≡ before ++ rows
all_lent before out rows i l h = sym (append-nil (all_stored out)) ∙ ap (λ l. all_stored out ++ l) (sym (drop_all i rows l)) ∙ h

run_drop : {X : Type 0} (xs run : List X) (at : ℕ) → IsRun at xs run → drop at xs ≡ run ++ drop (at + length run) xs
run_drop xs run at r =
    (λ i. drop (sym r.2 i) (r.3 i)) ∙ drop-append_seam r.0 (run ++ r.1)
    ∙ ap (λ l. run ++ l) (sym ((λ i. drop (sym r.2 i + length run) (r.3 i)) ∙ drop-append-add r.0 (run ++ r.1) (length run) ∙ drop-append_seam run r.1))

run_end : {X : Type 0} (xs run : List X) (at : ℕ) → IsRun at xs run → at + length run ≤ length xs
run_end xs run at r = let e = ap length r.3 ∙ length-append r.0 (run ++ r.1) in let f = length-append run r.1 in omega (arith, e, f, r.2)

-- some rows more, which stand together
pub run_lent : (old new : List HeldRow) (rows run : List Stored) (at n : ℕ) → IsRun at rows run → n ≡ length run → (all_stored old ++ drop at rows ≡ rows) × (at ≤ length rows) → all_stored new ≡ all_stored old ++ run
    → (all_stored new ++ drop (at + n) rows ≡ rows) × (at + n ≤ length rows)
run_lent old new rows run at n r l h k = (
  ap (λ m. all_stored new ++ drop (at + m) rows) l ∙ ap (λ l. l ++ drop (at + length run) rows) k ∙ append_assoc (all_stored old) run (drop (at + length run) rows) ∙ ap (λ l. all_stored old ++ l) (sym (run_drop rows run at r)) ∙ h.0,
  let e = run_end rows run at r in omega (arith, e, l),
)

-- and it is a shorter way to the end
pub run_nearer : (rows run : List Stored) (at n : ℕ) → IsRun at rows run → n ≡ length run → at < length rows → length rows - (at + n) < length rows - at
run_nearer rows run at n r l b = let e = run_end rows run at r in omega (arith, e, l, r.4, b)

-- what holds of all that are lent holds of each
pub each_lent : (P : Stored → Type 0) (rows : List HeldRow) (i : ℕ) (held : HeldRow) → i < length rows → held ≡ get_or rows i held → Each P (all_stored rows) → P (stored_of held)
each_lent P [] i held l e h = absurd (omega (arith, l))
each_lent P (r ∷ rows) zero held l e h = subst (λ x. P (stored_of x)) (sym e) h.0
each_lent P (r ∷ rows) (suc i) held l e h = each_lent P rows i held (omega (arith, l)) e h.1
