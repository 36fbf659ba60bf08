-- What the parts of a list keep when the last of them is closed.
use Rattle.std.proofs.Common.{ℕ, zero, suc, ◌≡◌, ◌+◌, ◌-◌, ◌^◌, ◌<◌, ◌≤◌, List, [], ◌∷◌, ◌++◌, length, take, refl, ap, sym, subst, ◌∙◌, arith}
use Rattle.std.specs.Prelude.{slice_set, Result, Ok, Err, OnOk}
use Rattle.std.specs.List.{insert}
use Rattle.pg_keyed.specs.Lists.{each_append}
use Rattle.pg_chunks.specs.declared.part.Chunk.{Chunk}
use Rattle.pg_chunks.specs.Parts.{items_of, joined, Fills, IsKept, Grown, Set, Same}
use Rattle.pg_chunks.proofs.Places.{length_append, insert_front, insert_later, set_front, set_later}
use Rattle.pg_chunks.proofs.Renewals.{append_nil, append_assoc, joined_append, starts_append}

pub take_all : {X : Type 0} (n : ℕ) (xs : List X) → length xs ≤ n → take n xs ≡ xs
take_all zero [] h = refl
take_all (suc n) [] h = refl
take_all zero (x ∷ xs) h = absurd (omega arith)
take_all (suc n) (x ∷ xs) h = ap (λ ys. x ∷ ys) (take_all n xs (omega arith))

pub on_ok : {A B P Q : Type 0} (r : Result A B) → (P → Q) → OnOk r P → OnOk r Q
on_ok (Ok a) f p = f p
on_ok (Err b) f p = tt

module _ {X : Type 0} where
  pub closed : (full : List (Chunk X)) (before : ℕ) (last rest : List X) (c : Chunk X) → IsKept full before last → 64 ≤ length last → before + 128 ≤ 2 ^ 62 → length rest < 128 → c.start ≡ before → items_of c ≡ last
      → IsKept (full ++ c ∷ []) (before + length last) rest
  closed full before last rest c k l b r s i =
      let n = k.counts in
      let h = k.short in
      let y = ap length i in
      let j = joined_append full (c ∷ []) ∙ ap (λ xs. joined full ++ xs) (append_nil (items_of c)) in
      let m = ap length j in
      let p = length_append (joined full) (items_of c) in
      record {
        starts = starts_append 0 full (c ∷ []) k.starts (omega arith, tt);
        fills = each_append Fills full (c ∷ []) k.fills ((omega arith, omega arith), tt);
        counts = omega arith;
        bound = omega arith;
        short = r;
      }

  pub closed_whole : (full : List (Chunk X)) (last rest : List X) (c : Chunk X) → items_of c ≡ last → joined (full ++ c ∷ []) ++ rest ≡ joined full ++ (last ++ rest)
  closed_whole full last rest c i =
      ap (λ xs. xs ++ rest) (joined_append full (c ∷ []) ∙ ap (λ xs. joined full ++ xs) (append_nil (items_of c) ∙ i)) ∙ append_assoc (joined full) last rest

  pub closed_in : (full ns : List (Chunk X)) (before count : ℕ) (last rest rs : List X) (c : Chunk X) → IsKept full before last → 64 ≤ length last → before + 128 ≤ 2 ^ 62 → length rest < 128 → c.start ≡ before → items_of c ≡ last
      → ns ≡ full ++ c ∷ [] → count ≡ length last → rs ≡ rest → IsKept ns (before + count) rs
  closed_in full ns before count last rest rs c k l b r s i e n q =
      let w = closed full before last rest c k l b r s i in
      subst (λ ys. IsKept ys (before + count) rs) (sym e) (subst (λ m. IsKept (full ++ c ∷ []) (before + m) rs) (sym n) (subst (λ ys. IsKept (full ++ c ∷ []) (before + length last) ys) (sym q) w))

  pub whole_in : (full ns : List (Chunk X)) (last rest rs : List X) (c : Chunk X) → items_of c ≡ last → ns ≡ full ++ c ∷ [] → rs ≡ rest → joined ns ++ rs ≡ joined full ++ (last ++ rest)
  whole_in full ns last rest rs c i e q = ap (λ ys. joined ys ++ rs) e ∙ ap (λ ys. joined (full ++ c ∷ []) ++ ys) q ∙ closed_whole full last rest c i

  -- with another last part
  pub kept_last : (full ns : List (Chunk X)) (before : ℕ) (last ls : List X) → IsKept full before last → ns ≡ full → length ls < 128 → IsKept ns before ls
  kept_last full ns before last ls k e h = subst (λ ys. IsKept ys before ls) (sym e) (record { starts = k.starts; fills = k.fills; counts = k.counts; bound = k.bound; short = h })

  -- an item put in before the last part
  pub kept_grown : (full ds : List (Chunk X)) (before at : ℕ) (last : List X) (x : X) → IsKept full before last → before + 1 ≤ 2 ^ 62 → at < before → Grown full at x ds → IsKept ds (before + 1) last
  kept_grown full ds before at last x k b h r =
      let n = k.counts in
      let l = ap length r.whole ∙ insert_long (joined full) at x (omega arith) in
      record { starts = r.starts; fills = r.fills; counts = omega arith; bound = b; short = k.short }
    where
      insert_long : (xs : List X) (i : ℕ) (x : X) → i ≤ length xs → length (insert xs i x) ≡ length xs + 1
      insert_long [] zero x h = refl
      insert_long [] (suc i) x h = absurd (omega arith)
      insert_long (y ∷ ys) zero x h = omega arith
      insert_long (y ∷ ys) (suc i) x h = let r = insert_long ys i x (omega arith) in omega arith

  pub grown_whole : (full ds : List (Chunk X)) (before at : ℕ) (last : List X) (x : X) → IsKept full before last → at < before → Grown full at x ds → joined ds ++ last ≡ insert (joined full ++ last) at x
  grown_whole full ds before at last x k h r = let n = k.counts in ap (λ ys. ys ++ last) r.whole ∙ sym (insert_front (joined full) last at x (omega arith))

  pub kept_same : (full ds : List (Chunk X)) (before : ℕ) (last : List X) → IsKept full before last → Same full ds → IsKept ds before last
  kept_same full ds before last k r = let n = k.counts in let l = ap length r.whole in record { starts = r.starts; fills = r.fills; counts = omega arith; bound = k.bound; short = k.short }

  pub kept_set : (full ds : List (Chunk X)) (before at : ℕ) (last : List X) (x : X) → IsKept full before last → Set full at x ds → IsKept ds before last
  kept_set full ds before at last x k r =
      let n = k.counts in
      let l = ap length r.whole ∙ set_long (joined full) at x in
      record { starts = r.starts; fills = r.fills; counts = omega arith; bound = k.bound; short = k.short }
    where
      set_long : (xs : List X) (i : ℕ) (x : X) → length (slice_set xs i x) ≡ length xs
      set_long [] zero x = refl
      set_long [] (suc i) x = refl
      set_long (y ∷ ys) zero x = refl
      set_long (y ∷ ys) (suc i) x = let r = set_long ys i x in omega arith

  pub set_whole : (full ds : List (Chunk X)) (before at : ℕ) (last : List X) (x : X) → IsKept full before last → at < before → Set full at x ds → joined ds ++ last ≡ slice_set (joined full ++ last) at x
  set_whole full ds before at last x k h r = let n = k.counts in ap (λ ys. ys ++ last) r.whole ∙ sym (set_front (joined full) last at x (omega arith))

  -- an item put in at the last part
  pub last_grown : (full ds : List (Chunk X)) (before at : ℕ) (last ls : List X) (x : X) → IsKept full before last → before ≤ at → joined ds ++ ls ≡ joined full ++ insert last (at - before) x → joined ds ++ ls ≡ insert (joined full ++ last) at x
  last_grown full ds before at last ls x k h r =
      let n = k.counts in
      let z : at ≡ length (joined full) + (at - before) = omega arith in
      r ∙ sym (ap (λ i. insert (joined full ++ last) i x) z ∙ insert_later (joined full) last (at - before) x)

  pub last_set : (full : List (Chunk X)) (before at : ℕ) (last ls : List X) (x : X) → IsKept full before last → before ≤ at → ls ≡ slice_set last (at - before) x → joined full ++ ls ≡ slice_set (joined full ++ last) at x
  last_set full before at last ls x k h r =
      let n = k.counts in
      let z : at ≡ length (joined full) + (at - before) = omega arith in
      ap (λ ys. joined full ++ ys) r ∙ sym (ap (λ i. slice_set (joined full ++ last) i x) z ∙ set_later (joined full) last (at - before) x)
