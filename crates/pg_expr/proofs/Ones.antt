-- Where each variable stands for the first element that is held for it, it stands for at most one.
use Rattle.std.proofs.Common.{◌≡◌, ◌==◌, ◌+◌, ◌<◌, ◌≤◌, ℕ, suc, Bool, true, false, cond, not, List, [], ◌∷◌, map, length, drop, refl, ap, sym, subst, ◌∙◌, arith, add-one}
use Rattle.std.specs.Prelude.{filter, get_or}
use Rattle.std.proofs.Math.Seq.{drop-cons}
use Rattle.std.proofs.lemmas.Bool.{eq-eqb, eqb-true}
use Rattle.pg_meaning.specs.Fits.{Mention, elements, firsts}
use Rattle.pg_expr.specs.declared.mentions.Mention.{Mention as HeldMention}
use Rattle.pg_expr.specs.Mentions.{mention_view, stood_for}

true_false : true ≡ false → ⊥
true_false h = cc

module _ {X : Type 0} (p q : X → Bool) where
  filter_within : (xs : List X) → ((x : X) → p x ≡ true → q x ≡ true) → filter p (filter q xs) ≡ filter p xs
  filter_within [] h = refl
  filter_within (x ∷ xs) h = go (q x) refl (p x) refl (filter_within xs h)
    where
      go : (b : Bool) → q x ≡ b → (a : Bool) → p x ≡ a → filter p (filter q xs) ≡ filter p xs → filter p (cond b (x ∷ filter q xs) (filter q xs)) ≡ cond (p x) (x ∷ filter p xs) (filter p xs)
      go true e a f r = ap (λ ys. cond (p x) (x ∷ ys) ys) r
      go false e true f r = absurd (true_false (sym (h x f) ∙ e))
      go false e false f r = r ∙ sym (ap (λ c. cond c (x ∷ filter p xs) (filter p xs)) f)

  filter_apart : (xs : List X) → ((x : X) → q x ≡ true → p x ≡ false) → filter p (filter q xs) ≡ []
  filter_apart [] h = refl
  filter_apart (x ∷ xs) h = go (q x) refl (filter_apart xs h)
    where
      go : (b : Bool) → q x ≡ b → filter p (filter q xs) ≡ [] → filter p (cond b (x ∷ filter q xs) (filter q xs)) ≡ []
      go true e r = ap (λ c. cond c (x ∷ filter p (filter q xs)) (filter p (filter q xs))) (h x e) ∙ r
      go false e r = r

-- a variable of another number goes on to the others
pub first_others : (m : Mention) (ms : List Mention) (x : ℕ) → (m.var == x) ≡ false → elements (firsts (m ∷ ms)) x ≡ elements (firsts ms) x
first_others m ms x e =
    ap (λ c. map (λ (n : Mention). n.elem) (cond c (m ∷ filter (λ n. n.var == x) (filter (λ n. not (n.var == m.var)) (firsts ms))) (filter (λ n. n.var == x) (filter (λ n. not (n.var == m.var)) (firsts ms))))) e
    ∙ ap (map (λ (n : Mention). n.elem)) (filter_within (λ n. n.var == x) (λ n. not (n.var == m.var)) (firsts ms) other)
  where
    other : (n : Mention) → (n.var == x) ≡ true → not (n.var == m.var) ≡ true
    other n t = go (n.var == m.var) refl
      where
        go : (b : Bool) → (n.var == m.var) ≡ b → not b ≡ true
        go false f = refl
        go true f = absurd (true_false (sym (eq-eqb m.var x (sym (eqb-true n.var m.var f) ∙ eqb-true n.var x t)) ∙ e))

-- and one of the same number stands for the first alone
pub first_same : (m : Mention) (ms : List Mention) (x : ℕ) → (m.var == x) ≡ true → elements (firsts (m ∷ ms)) x ≡ m.elem ∷ []
first_same m ms x e =
    ap (λ c. map (λ (n : Mention). n.elem) (cond c (m ∷ filter (λ n. n.var == x) (filter (λ n. not (n.var == m.var)) (firsts ms))) (filter (λ n. n.var == x) (filter (λ n. not (n.var == m.var)) (firsts ms))))) e
    ∙ ap (λ ns. m.elem ∷ map (λ (n : Mention). n.elem) ns) (filter_apart (λ n. n.var == x) (λ n. not (n.var == m.var)) (firsts ms) same)
  where
    same : (n : Mention) → not (n.var == m.var) ≡ true → (n.var == x) ≡ false
    same n t = ap (λ k. n.var == k) (sym (eqb-true m.var x e)) ∙ go (n.var == m.var) t
      where
        go : (b : Bool) → not b ≡ true → b ≡ false
        go true f = sym f
        go false f = refl

-- at most one element
pub at_most_one : (ms : List Mention) (x : ℕ) → length (elements (firsts ms) x) ≤ 1
at_most_one [] x = omega arith
at_most_one (m ∷ ms) x = go (m.var == x) refl (at_most_one ms x)
  where
    go : (b : Bool) → (m.var == x) ≡ b → length (elements (firsts ms) x) ≤ 1 → length (elements (firsts (m ∷ ms)) x) ≤ 1
    go true e r = subst (λ es. length es ≤ 1) (sym (first_same m ms x e)) (omega arith)
    go false e r = subst (λ es. length es ≤ 1) (sym (first_others m ms x e)) r

-- OF THE ELEMENTS FROM A PLACE ON

here : (held : List HeldMention) (i : ℕ) (m : HeldMention) → i < length held → m ≡ get_or held i m → drop i held ≡ m ∷ drop (i + 1) held
here held i m l is = rw add-one (drop-cons held i m l ∙ ap (λ k. k ∷ drop (suc i) held) (sym is))

pub found_here : (held : List HeldMention) (i : ℕ) (m : HeldMention) (x : ℕ) → i < length held → m ≡ get_or held i m → (m.var == x) ≡ true → stood_for (drop i held) x ≡ m.elem.now ∷ []
found_here held i m x l is e = ap (λ hs. stood_for hs x) (here held i m l is) ∙ first_same (mention_view m) (map mention_view (drop (i + 1) held)) x e

pub found_beyond : (held : List HeldMention) (i : ℕ) (m : HeldMention) (x : ℕ) → i < length held → m ≡ get_or held i m → (m.var == x) ≡ false → stood_for (drop i held) x ≡ stood_for (drop (i + 1) held) x
found_beyond held i m x l is e = ap (λ hs. stood_for hs x) (here held i m l is) ∙ first_others (mention_view m) (map mention_view (drop (i + 1) held)) x e
