-- The longest front of a list that passes a test.
use Rattle.std.proofs.Common.{◌≡◌, ℕ, suc, ◌+◌, Bool, true, false, cond, List, [], ◌∷◌, ◌++◌, take, drop, refl, sym, ap, ◌∙◌, arith, inl, inr, ◌⊎◌}
use Rattle.std.specs.Prelude.{not, ◌==◌}
use Rattle.std.specs.List.{list_all, prefix_len}
use Rattle.std.proofs.lemmas.Bool.{and_parts, both_ways}
use Rattle.pg_lex.specs.Bytes.{starts, starts_with}

pub front_passes : (p : ℕ → Bool) (xs : List ℕ) → list_all p (take (prefix_len p xs) xs) ≡ true
front_passes p [] = refl
front_passes p (x ∷ xs) = by (p x) refl (front_passes p xs) where
  by : (t : Bool) → p x ≡ t → list_all p (take (prefix_len p xs) xs) ≡ true → list_all p (take (cond t (1 + prefix_len p xs) 0) (x ∷ xs)) ≡ true
  by true e h = let one : 1 + prefix_len p xs ≡ suc (prefix_len p xs) = omega arith in rw (one, e) h
  by false e h = refl

pub front_stops : (p : ℕ → Bool) (xs : List ℕ) → starts p (drop (prefix_len p xs) xs) ≡ false
front_stops p [] = refl
front_stops p (x ∷ xs) = by (p x) refl (front_stops p xs) where
  by : (t : Bool) → p x ≡ t → starts p (drop (prefix_len p xs) xs) ≡ false → starts p (drop (cond t (1 + prefix_len p xs) 0) (x ∷ xs)) ≡ false
  by true e h = let one : 1 + prefix_len p xs ≡ suc (prefix_len p xs) = omega arith in rw one h
  by false e h = e

-- what stops at a byte is empty or begins with it
pub stop_is : (q : ℕ) (rest : List ℕ) → starts (λ b. not (b == q)) rest ≡ false → (rest ≡ []) ⊎ (starts_with q rest ≡ true)
stop_is q [] h = inl refl
stop_is q (b ∷ bs) h = by (b == q) h where
  by : (t : Bool) → not t ≡ false → (b ∷ bs ≡ []) ⊎ (t ≡ true)
  by true h = inr refl
  by false h = absurd cc

-- what begins with a byte
pub record FirstIs (q : ℕ) (bytes : List ℕ) : Type 0 where
  pub more : List ℕ
  pub is : bytes ≡ q ∷ more

-- a front that passes a test goes no further than where a byte does not
goes_no_further : (p : ℕ → Bool) (c : ℕ) (front rest more : List ℕ) → rest ≡ c ∷ more → list_all p (c ∷ front) ≡ true → starts p rest ≡ false → ⊥
goes_no_further p c front rest more e h s = both_ways (p c) (sym (ap (starts p) e) ∙ s) (and_parts (p c) (list_all p front) h).0

-- a list is cut in one way into a front that passes and a rest that begins with nothing that does
pub front_once : (p : ℕ → Bool) (a b x y : List ℕ) → a ++ x ≡ b ++ y → list_all p a ≡ true → starts p x ≡ false → list_all p b ≡ true → starts p y ≡ false → (a ≡ b) × (x ≡ y)
front_once p [] [] x y e f s g t = (refl, e)
front_once p [] (c ∷ b) x y e f s g t = absurd (goes_no_further p c b x (b ++ y) e g s)
front_once p (c ∷ a) [] x y e f s g t = absurd (goes_no_further p c a y (a ++ x) (sym e) f t)
front_once p (c ∷ a) (d ∷ b) x y e f s g t =
    let h : c ≡ d = cc in
    let i : a ++ x ≡ b ++ y = cc in
    let k = front_once p a b x y i (and_parts (p c) (list_all p a) f).1 s (and_parts (p d) (list_all p b) g).1 t in
    (rw (h, k.0) refl, k.1)
