-- A length more, beside powers of two, leaves powers of two.
use Rattle.std.proofs.Common.{ℕ, ◌≡◌, ◌+◌, ◌≤◌, ◌^◌, List, [], ◌∷◌, Bool, true, false, cond, ◌==◌, refl, ap, sym, ◌∙◌, subst, arith, add-one, ◌-◌, ◌<◌, length, suc}
use Rattle.std.proofs.lemmas.Bool.{eqb-true, eqb-false, eq-eqb, ltb-true, ltb-false}
use Rattle.std.proofs.Math.Dec.{ltb}
use Rattle.std.proofs.Math.Nat.{pow-suc, pow-le-pow_right}
use Rattle.pg_core.specs.Powers.{Powers, carry}

pub false_true : false ≡ true → ⊥
false_true h = cc

double : (e : ℕ) → 2 ^ e + 2 ^ e ≡ 2 ^ (e + 1)
double e = let p = pow-suc 2 e in rw add-one (omega (arith, p))

lower : (j l : ℕ) (ns : List ℕ) → j ≤ l → Powers l ns → Powers j ns
lower j l [] le p = tt
lower j l (n ∷ ns) le p = (p.0, (let q = p.1 in omega arith), p.2, p.3)

-- a length of 2 ^ k before powers from 2 ^ k on
pub carry_powers : (k : ℕ) (ns : List ℕ) → Powers k ns → Powers k (carry (2 ^ k) ns)
carry_powers k [] h = (k, omega arith, refl, tt)
carry_powers k (m ∷ ms) h = go (m == 2 ^ k) refl (λ s. carry_powers (k + 1) ms s)
  where
    go : (b : Bool) → (m == 2 ^ k) ≡ b → (Powers (k + 1) ms → Powers (k + 1) (carry (2 ^ (k + 1)) ms)) → Powers k (cond b (carry (m + 2 ^ k) ms) (2 ^ k ∷ m ∷ ms))
    go true e again =
        let q : m ≡ 2 ^ k = eqb-true m (2 ^ k) e in
        lower k (k + 1) (carry (m + 2 ^ k) ms) (omega arith)
        (subst (λ n. Powers (k + 1) (carry n ms)) (sym (double k) ∙ ap (λ n. n + 2 ^ k) (sym q)) (again (lower (k + 1) (h.0 + 1) ms (let l = h.1 in omega arith) h.3)))
    go false e again = (k, omega arith, refl, (h.0, above e h.0 h.1 h.2, h.2, h.3))
      where
        above : (m == 2 ^ k) ≡ false → (j : ℕ) → k ≤ j → m ≡ 2 ^ j → k + 1 ≤ j
        above e j le is = pick (k == j) refl
          where
            pick : (b : Bool) → (k == j) ≡ b → k + 1 ≤ j
            pick true q = absurd (false_true (sym e ∙ eq-eqb m (2 ^ k) (is ∙ ap (λ i. 2 ^ i) (sym (eqb-true k j q)))))
            pick false q = let n = eqb-false k j q in omega arith

abbrev pub total : List ℕ → ℕ
total [] = 0
total (n ∷ ns) = n + total ns

-- powers of two from 2 ^ k on, whose sum is below 2 ^ m
pub few_powers : (k m : ℕ) (ns : List ℕ) → Powers k ns → total ns < 2 ^ m → length ns ≤ m - k
few_powers k m [] p l = omega arith
few_powers k m (n ∷ ns) p l = go (ltb p.0 m) refl (few_powers (p.0 + 1) m ns p.3 (omega (arith, l)))
  where
    go : (b : Bool) → ltb p.0 m ≡ b → length ns ≤ m - (p.0 + 1) → suc (length ns) ≤ m - k
    go true e r = let d = ltb-true p.0 m e in let q = p.1 in omega (arith, d, q, r)
    go false e r = let d : 2 ^ m ≤ 2 ^ p.0 = pow-le-pow_right {n = 2} (omega arith) (ltb-false p.0 m e) in let q = p.2 in absurd (omega (arith, d, q, l))
