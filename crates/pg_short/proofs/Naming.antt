-- Mentions one after another: each variable once, and the elements of one variable.
use Rattle.std.proofs.Common.{◌≡◌, ◌==◌, ◌||◌, ℕ, Bool, true, false, not, cond, List, [], ◌∷◌, ◌++◌, map, filter, refl, ap, sym, ◌∙◌, append-nil, eq-eqb}
use Rattle.std.proofs.lemmas.Cmp.{nat_eq_equiv}
use Rattle.std.proofs.lemmas.Bool.{eqb-true}
use Rattle.pg_meaning.specs.Fits.{Mention, firsts, elements}
use Rattle.pg_short.specs.Walks.{has_variable, with_first, named_at}

-- EACH VARIABLE ONCE

-- of others than one variable, a filter keeps those of another
kept_variable : (x y : ℕ) (ms : List Mention) → (y == x) ≡ false → has_variable (filter (λ n. not (n.var == x)) ms) y ≡ has_variable ms y
kept_variable x y [] e = refl
kept_variable x y (m ∷ ms) e = go (m.var == x) refl (kept_variable x y ms e)
  where
    other : m.var ≡ x → (m.var == y) ≡ false
    other h = not_eq (m.var == y) refl
      where
        not_eq : (b : Bool) → (m.var == y) ≡ b → (m.var == y) ≡ false
        not_eq false k = k
        not_eq true k = absurd (let z : true ≡ false = sym (eq-eqb y x (sym (eqb-true m.var y k) ∙ h)) ∙ e in cc)

    go : (b : Bool) → (m.var == x) ≡ b → has_variable (filter (λ n. not (n.var == x)) ms) y ≡ has_variable ms y
        → has_variable (cond (not b) (m ∷ filter (λ n. not (n.var == x)) ms) (filter (λ n. not (n.var == x)) ms)) y ≡ ((m.var == y) || has_variable ms y)
    go false h k = ap (λ z. (m.var == y) || z) k
    go true h k = k ∙ sym (ap (λ z. z || has_variable ms y) (other (eqb-true m.var x h)))

filter_push : (test : Mention → Bool) (xs : List Mention) (x : Mention) → filter test (xs ++ x ∷ []) ≡ filter test xs ++ cond (test x) (x ∷ []) []
filter_push test [] x = refl
filter_push test (y ∷ ys) x = go (test y) (filter_push test ys x)
  where
    go : (b : Bool) → filter test (ys ++ x ∷ []) ≡ filter test ys ++ cond (test x) (x ∷ []) []
        → cond b (y ∷ filter test (ys ++ x ∷ [])) (filter test (ys ++ x ∷ [])) ≡ cond b (y ∷ filter test ys) (filter test ys) ++ cond (test x) (x ∷ []) []
    go true h = ap (λ zs. y ∷ zs) h
    go false h = h

first_step : (m x : Mention) (seen : List Mention) (b a : Bool) → (x.var == m.var) ≡ b → (m.var == x.var) ≡ b → has_variable seen x.var ≡ a
    → m ∷ filter (λ n. not (n.var == m.var)) (cond a seen (seen ++ x ∷ []))
    ≡ cond (b || has_variable (filter (λ n. not (n.var == m.var)) seen) x.var) (m ∷ filter (λ n. not (n.var == m.var)) seen) (m ∷ (filter (λ n. not (n.var == m.var)) seen ++ x ∷ []))
first_step m x seen true true e f h = refl
first_step m x seen true false e f h =
    ap (λ ns. m ∷ ns) (filter_push (λ n. not (n.var == m.var)) seen x ∙ ap (λ b. filter (λ n. not (n.var == m.var)) seen ++ cond (not b) (x ∷ []) []) e ∙ append-nil (filter (λ n. not (n.var == m.var)) seen))
first_step m x seen false a e f h =
    go a h ∙ ap (λ c. cond c (m ∷ filter (λ n. not (n.var == m.var)) seen) (m ∷ (filter (λ n. not (n.var == m.var)) seen ++ x ∷ []))) (sym (kept_variable m.var x.var seen e))
  where
    go : (a : Bool) → has_variable seen x.var ≡ a → m ∷ filter (λ n. not (n.var == m.var)) (cond a seen (seen ++ x ∷ []))
        ≡ cond (has_variable seen x.var) (m ∷ filter (λ n. not (n.var == m.var)) seen) (m ∷ (filter (λ n. not (n.var == m.var)) seen ++ x ∷ []))
    go true h = ap (λ c. cond c (m ∷ filter (λ n. not (n.var == m.var)) seen) (m ∷ (filter (λ n. not (n.var == m.var)) seen ++ x ∷ []))) (sym h)
    go false h =
        ap (λ ns. m ∷ ns) (filter_push (λ n. not (n.var == m.var)) seen x ∙ ap (λ b. filter (λ n. not (n.var == m.var)) seen ++ cond (not b) (x ∷ []) []) e)
        ∙ ap (λ c. cond c (m ∷ filter (λ n. not (n.var == m.var)) seen) (m ∷ (filter (λ n. not (n.var == m.var)) seen ++ x ∷ []))) (sym h)

pub firsts_push : (ms : List Mention) (x : Mention) → firsts (ms ++ x ∷ []) ≡ with_first (firsts ms) x
firsts_push [] x = refl
firsts_push (m ∷ ms) x = ap (λ ns. m ∷ filter (λ n. not (n.var == m.var)) ns) (firsts_push ms x) ∙ first_step m x (firsts ms) (m.var == x.var) (has_variable (firsts ms) x.var) (eqb_symm x.var m.var) refl refl
  where
    eqb_symm : (u v : ℕ) → (u == v) ≡ (v == u)
    eqb_symm u v = nat_eq_equiv.symm u v

-- THE ELEMENTS OF ONE VARIABLE

pub elements_push : (ms : List Mention) (m : Mention) (x : ℕ) → elements (ms ++ m ∷ []) x ≡ elements ms x ++ named_at x m
elements_push [] m x = go (m.var == x)
  where
    go : (b : Bool) → map (λ n. n.elem) (cond b (m ∷ []) []) ≡ cond b (m.elem ∷ []) []
    go true = refl
    go false = refl
elements_push (n ∷ ms) m x = go (n.var == x) (elements_push ms m x)
  where
    go : (b : Bool) → elements (ms ++ m ∷ []) x ≡ elements ms x ++ named_at x m
        → map (λ k. k.elem) (cond b (n ∷ filter (λ k. k.var == x) (ms ++ m ∷ [])) (filter (λ k. k.var == x) (ms ++ m ∷ [])))
        ≡ map (λ k. k.elem) (cond b (n ∷ filter (λ k. k.var == x) ms) (filter (λ k. k.var == x) ms)) ++ named_at x m
    go true h = ap (λ zs. n.elem ∷ zs) h
    go false h = h
