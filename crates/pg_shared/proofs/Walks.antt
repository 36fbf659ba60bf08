-- The items of one chunk among all.
use Rattle.std.proofs.Common.{ℕ, zero, suc, ◌≡◌, ◌+◌, ◌-◌, ◌<◌, ◌≤◌, List, [], ◌∷◌, ◌++◌, length, get_or, take, drop, refl, ap, sym, subst, ◌∙◌, arith, append_assoc, length-append}
use Rattle.std.proofs.lemmas.List.{take-append-drop, length-take-le}
use Rattle.pg_chunks.specs.Parts.{IsRun}
use Rattle.pg_keyed.specs.Lists.{Each}
use Rattle.pg_shared.specs.declared.part.Part.{Part}
use Rattle.pg_shared.specs.Parts.{joined, before_part, Starts, IsPartOf}

length_drop : {X : Type 0} (n : ℕ) (xs : List X) → n ≤ length xs → length (drop n xs) + n ≡ length xs
length_drop zero [] h = refl
length_drop zero (x ∷ xs) h = omega arith
length_drop (suc n) [] h = absurd (omega arith)
length_drop (suc n) (x ∷ xs) h = let r = length_drop n xs (omega arith) in omega arith

module _ {X : Type 0} where
  pub start_at : (n : ℕ) (ps : List (Part X)) (i : ℕ) (p : Part X) → Starts n ps → i < length ps → p ≡ get_or ps i p → p.before ≡ n + before_part i ps
  start_at n [] i p s l e = absurd (omega arith)
  start_at n (q ∷ ps) zero p s l e = let f = ap (λ r. r.before) e in let g = s.0 in omega arith
  start_at n (q ∷ ps) (suc i) p s l e = let r = start_at (n + length q.items) ps i p s.1 (omega arith) e in let m = length-append q.items (joined (take i ps)) in omega arith

  pub each_at : (P : Part X → Type 0) (ps : List (Part X)) (i : ℕ) (p : Part X) → Each P ps → i < length ps → p ≡ get_or ps i p → P p
  each_at P [] i p h l e = absurd (omega arith)
  each_at P (q ∷ ps) zero p h l e = subst P (sym e) h.0
  each_at P (q ∷ ps) (suc i) p h l e = each_at P ps i p h.1 (omega arith) e

  -- the chunks before and behind one
  pub cut : (ps : List (Part X)) (i : ℕ) (p : Part X) → i < length ps → p ≡ get_or ps i p → joined ps ≡ joined (take i ps) ++ (p.items ++ joined (drop (i + 1) ps))
  cut [] i p l e = absurd (omega arith)
  cut (q ∷ ps) zero p l e = ap (λ r. r.items ++ joined ps) (sym e)
  cut (q ∷ ps) (suc i) p l e =
      let f : suc i + 1 ≡ suc (i + 1) = omega arith in
      ap (λ r. q.items ++ r) (cut ps i p (omega arith) e) ∙ sym (append_assoc q.items (joined (take i ps)) (p.items ++ joined (drop (i + 1) ps))) ∙ ap (λ j. (q.items ++ joined (take i ps)) ++ (p.items ++ joined (drop j (q ∷ ps)))) (sym f)

  pub next_part : (ps : List (Part X)) (i : ℕ) (p : Part X) → i < length ps → p ≡ get_or ps i p → before_part (i + 1) ps ≡ before_part i ps + length p.items
  next_part [] i p l e = absurd (omega arith)
  next_part (q ∷ ps) zero p l e = let n = length-append q.items [] in let f = ap (λ r. length r.items) e in omega arith
  next_part (q ∷ ps) (suc i) p l e =
      let r = next_part ps i p (omega arith) e in
      let n = length-append q.items (joined (take (i + 1) ps)) in
      let m = length-append q.items (joined (take i ps)) in
      let f : suc i + 1 ≡ suc (i + 1) = omega arith in
      let g = ap (λ j. before_part j (q ∷ ps)) f in
      omega arith

  pub end_of : (ps : List (Part X)) (i : ℕ) (p : Part X) → i < length ps → p ≡ get_or ps i p → before_part i ps + length p.items ≤ length (joined ps)
  end_of ps i p l e = let c = ap length (cut ps i p l e) in let n = length-append (joined (take i ps)) (p.items ++ joined (drop (i + 1) ps)) in let m = length-append p.items (joined (drop (i + 1) ps)) in omega arith

  -- a place of a chunk is within its items
  pub within_part : (ps : List (Part X)) (i at : ℕ) (p : Part X) → IsPartOf i at ps → p ≡ get_or ps i p → Starts 0 ps → (p.before ≤ at) × (at - p.before < length p.items)
  within_part ps i at p is e starts =
      let s = start_at 0 ps i p starts is.0 e in
      let n = next_part ps i p is.0 e in
      let a = is.1 in
      let b = is.2 in
      ((omega arith), (omega arith))

  -- the items of a chunk from a place on
  pub run_is : (ps : List (Part X)) (i at : ℕ) (p : Part X) → IsPartOf i at ps → p ≡ get_or ps i p → Starts 0 ps → IsRun at (joined ps) (drop (at - p.before) p.items)
  run_is ps i at p is e starts =
      let n = at - p.before in
      let s = start_at 0 ps i p starts is.0 e in
      let w = within_part ps i at p is e starts in
      let a = w.0 in
      let b = w.1 in
      let l = length-append (joined (take i ps)) (take n p.items) in
      let t = length-take-le n p.items (omega arith) in
      let d = length_drop n p.items (omega arith) in (
        joined (take i ps) ++ take n p.items,
        joined (drop (i + 1) ps),
        (omega arith),
        cut ps i p is.0 e ∙ ap (λ r. joined (take i ps) ++ (r ++ joined (drop (i + 1) ps))) (sym (take-append-drop n p.items))
            ∙ ap (λ r. joined (take i ps) ++ r) (append_assoc (take n p.items) (drop n p.items) (joined (drop (i + 1) ps)))
            ∙ sym (append_assoc (joined (take i ps)) (take n p.items) (drop n p.items ++ joined (drop (i + 1) ps))),
        (omega arith),
      )
