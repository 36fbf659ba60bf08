-- Parts before which one item more stands.
use Rattle.std.proofs.Common.{ℕ, zero, suc, ◌≡◌, ◌+◌, ◌<◌, ◌≤◌, List, [], ◌∷◌, length, get_or, refl, ap, ◌∙◌, arith}
use Rattle.std.specs.Prelude.{slice_set}
use Rattle.std.specs.List.{insert}
use Rattle.pg_chunks.specs.declared.part.Chunk.{Chunk}
use Rattle.pg_chunks.proofs.Places.{length_append}
use Rattle.pg_chunks.specs.Parts.{items_of, joined, Starts, StartsWithin, raised_from}

pub set_length : {X : Type 0} (xs : List X) (m : ℕ) (x : X) → length (slice_set xs m x) ≡ length xs
set_length [] zero x = refl
set_length [] (suc m) x = refl
set_length (y ∷ xs) zero x = refl
set_length (y ∷ xs) (suc m) x = let r = set_length xs m x in omega arith

module _ {X : Type 0} where
  pub raise_end : (cs : List (Chunk X)) (m : ℕ) → length cs ≤ m → raised_from m cs ≡ cs
  raise_end [] zero h = refl
  raise_end [] (suc m) h = refl
  raise_end (c ∷ cs) zero h = absurd (omega arith)
  raise_end (c ∷ cs) (suc m) h = ap (λ bs. c ∷ bs) (raise_end cs m (omega arith))

  -- a part before which one item more stands
  abbrev pub one_more : List (Chunk X) → ℕ → Chunk X → Chunk X → Chunk X
  one_more cs m c d = record { start = (get_or cs m c).start + 1; items = (get_or cs m d).items }

  pub raise_step : (cs : List (Chunk X)) (m : ℕ) (c d : Chunk X) → m < length cs → raised_from (m + 1) (slice_set cs m (one_more cs m c d)) ≡ raised_from m cs
  raise_step [] m c d l = absurd (omega arith)
  raise_step (b ∷ cs) zero c d l = refl
  raise_step (b ∷ cs) (suc m) c d l =
      let s : suc m + 1 ≡ suc (m + 1) = omega arith in
      ap (λ j. raised_from j (b ∷ slice_set cs m (one_more cs m c d))) s ∙ ap (λ bs. b ∷ bs) (raise_step cs m c d (omega arith))

  pub raised_within : (n m : ℕ) (cs : List (Chunk X)) → StartsWithin n cs → StartsWithin (n + 1) (raised_from m cs)
  raised_within n zero [] s = tt
  raised_within n zero (c ∷ cs) s = (let l = s.0 in omega arith, raised_within n zero cs s.1)
  raised_within n (suc m) [] s = tt
  raised_within n (suc m) (c ∷ cs) s = (let l = s.0 in omega arith, raised_within n m cs s.1)

  pub raised_at : (n : ℕ) (cs : List (Chunk X)) (m : ℕ) (c : Chunk X) → StartsWithin n (raised_from m cs) → m < length cs → c ≡ get_or cs m c → c.start + 1 ≤ n
  raised_at n [] m c s l e = absurd (omega arith)
  raised_at n (b ∷ cs) zero c s l e = let z = ap (λ p. p.start) e in let q = s.0 in omega arith
  raised_at n (b ∷ cs) (suc m) c s l e = raised_at n cs m c s.1 (omega arith) e

  pub raised_length : (m : ℕ) (cs : List (Chunk X)) → length (raised_from m cs) ≡ length cs
  raised_length zero [] = refl
  raised_length zero (c ∷ cs) = let r = raised_length zero cs in omega arith
  raised_length (suc m) [] = refl
  raised_length (suc m) (c ∷ cs) = let r = raised_length m cs in omega arith

  pub starts_within : (n p : ℕ) (cs : List (Chunk X)) → Starts n cs → n + length (joined cs) ≤ p → StartsWithin p cs
  starts_within n p [] s h = tt
  starts_within n p (c ∷ cs) s h = let l = length_append (items_of c) (joined cs) in (let q = s.0 in omega arith, starts_within (n + length (items_of c)) p cs s.1 (omega arith))

  pub within_set : (p : ℕ) (cs : List (Chunk X)) (m : ℕ) (c : Chunk X) → StartsWithin p cs → c.start ≤ p → StartsWithin p (slice_set cs m c)
  within_set p [] zero c s h = tt
  within_set p [] (suc m) c s h = tt
  within_set p (b ∷ cs) zero c s h = (h, s.1)
  within_set p (b ∷ cs) (suc m) c s h = (s.0, within_set p cs m c s.1 h)

  pub within_insert : (p : ℕ) (cs : List (Chunk X)) (m : ℕ) (c : Chunk X) → StartsWithin p cs → c.start ≤ p → StartsWithin p (insert cs m c)
  within_insert p [] zero c s h = (h, tt)
  within_insert p [] (suc m) c s h = (h, tt)
  within_insert p (b ∷ cs) zero c s h = (h, s)
  within_insert p (b ∷ cs) (suc m) c s h = (s.0, within_insert p cs m c s.1 h)

  pub within_at : (n : ℕ) (cs : List (Chunk X)) (m : ℕ) (c : Chunk X) → StartsWithin n cs → m < length cs → c ≡ get_or cs m c → c.start ≤ n
  within_at n [] m c s l e = absurd (omega arith)
  within_at n (b ∷ cs) zero c s l e = let z = ap (λ p. p.start) e in let q = s.0 in omega arith
  within_at n (b ∷ cs) (suc m) c s l e = within_at n cs m c s.1 (omega arith) e
