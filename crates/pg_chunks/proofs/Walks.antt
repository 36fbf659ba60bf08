-- Items that stand together in a list in parts.
use Rattle.std.proofs.Common.{ℕ, zero, suc, ◌≡◌, ◌+◌, ◌-◌, ◌<◌, ◌≤◌, List, [], ◌∷◌, ◌++◌, length, get_or, take, drop, refl, ap, sym, subst, ◌∙◌, arith}
use Rattle.std.proofs.lemmas.List.{take-append-drop}
use Rattle.pg_chunks.specs.declared.part.Chunk.{Chunk}
use Rattle.pg_chunks.specs.Parts.{items_of, joined, before_part, IsPartOf, Starts, IsRun}
use Rattle.pg_chunks.proofs.Places.{length_append}
use Rattle.pg_chunks.proofs.Splits.{start_at, before_next}
use Rattle.pg_chunks.proofs.Renewals.{append_assoc, append_nil}

take_length : {X : Type 0} (n : ℕ) (xs : List X) → n ≤ length xs → length (take n xs) ≡ n
take_length zero xs h = refl
take_length (suc n) [] h = absurd (omega arith)
take_length (suc n) (x ∷ xs) h = let r = take_length n xs (omega arith) in omega arith

drop_length : {X : Type 0} (n : ℕ) (xs : List X) → n < length xs → 0 < length (drop n xs)
drop_length n [] h = absurd (omega arith)
drop_length zero (x ∷ xs) h = h
drop_length (suc n) (x ∷ xs) h = drop_length n xs (omega arith)

module _ {X : Type 0} where
  pub run_behind : (xs ys : List X) (n at : ℕ) → n ≡ length xs → n ≤ at → at < n + length ys → IsRun at (xs ++ ys) (drop (at - n) ys)
  run_behind xs ys n at e l h =
      let i = at - n in
      let t = take_length i ys (omega arith) in
      let a = length_append xs (take i ys) in
      (xs ++ take i ys, [], omega arith, ap (λ zs. xs ++ zs) (sym (take-append-drop i ys)) ∙ sym (append_assoc xs (take i ys) (drop i ys)) ∙ ap (λ zs. (xs ++ take i ys) ++ zs) (sym (append_nil (drop i ys))), drop_length i ys (omega arith))

  pub run_before : (xs ys run : List X) (at : ℕ) → IsRun at xs run → IsRun at (xs ++ ys) run
  run_before xs ys run at r =
      (r.0, r.1 ++ ys, r.2, ap (λ zs. zs ++ ys) r.3 ∙ append_assoc r.0 (run ++ r.1) ys ∙ ap (λ zs. r.0 ++ zs) (append_assoc run r.1 ys), r.4)

  run_later : (xs ys run : List X) (at : ℕ) → IsRun at ys run → IsRun (length xs + at) (xs ++ ys) run
  run_later xs ys run at r =
      let n = length_append xs r.0 in
      let l = r.2 in
      (xs ++ r.0, r.1, omega arith, ap (λ zs. xs ++ zs) r.3 ∙ sym (append_assoc xs r.0 (run ++ r.1)), r.4)

  run_within : (cs : List (Chunk X)) (m : ℕ) (c : Chunk X) (i : ℕ) → m < length cs → c ≡ get_or cs m c → i < length (items_of c) → IsRun (before_part m cs + i) (joined cs) (drop i (items_of c))
  run_within [] m c i l e h = absurd (omega arith)
  run_within (b ∷ cs) zero c i l e h =
      let z : 0 + i ≡ i = omega arith in
      let y = ap (λ p. length (items_of p)) e in
      let z2 : i - 0 ≡ i = omega arith in
      let r = run_behind [] (items_of b) 0 i refl (omega arith) (omega arith) in
      subst (λ j. IsRun j (items_of b ++ joined cs) (drop i (items_of c))) (sym z)
      (subst (λ p. IsRun i (items_of b ++ joined cs) (drop i (items_of p))) (sym e)
      (run_before (items_of b) (joined cs) (drop i (items_of b)) i (subst (λ j. IsRun i (items_of b) (drop j (items_of b))) z2 r)))
  run_within (b ∷ cs) (suc m) c i l e h =
      let n = length_append (items_of b) (joined (take m cs)) in
      let z : length (items_of b) + (before_part m cs + i) ≡ before_part (suc m) (b ∷ cs) + i = omega arith in
      subst (λ j. IsRun j (items_of b ++ joined cs) (drop i (items_of c))) z (run_later (items_of b) (joined cs) (drop i (items_of c)) (before_part m cs + i) (run_within cs m c i (omega arith) e h))

  pub run_in : (cs : List (Chunk X)) (m at : ℕ) (c : Chunk X) → Starts 0 cs → IsPartOf m at cs → c ≡ get_or cs m c → IsRun at (joined cs) (drop (at - c.start) (items_of c))
  run_in cs m at c s p e =
      let a = start_at 0 cs m c s p.0 e in
      let n = before_next cs m c p.0 in
      let y = ap (λ z. length (items_of z)) e in
      let q = p.1 in
      let r = p.2 in
      let z : before_part m cs + (at - c.start) ≡ at = omega arith in
      subst (λ j. IsRun j (joined cs) (drop (at - c.start) (items_of c))) z (run_within cs m c (at - c.start) p.0 e (omega arith))
