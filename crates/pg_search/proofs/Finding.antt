-- What is read off the states, one after another.
use Rattle.std.proofs.Common.{◌≡◌, ◌<◌, ◌+◌, ◌==◌, ℕ, zero, suc, Bool, true, false, cond, not, filter, map, eq-eqb, arith, List, [], ◌∷◌, ◌++◌, length, take, get_or, refl, ap, sym, ◌∙◌, add-one, append-nil, append_assoc}
use Rattle.std.specs.Prelude.{Some, None, flat_map, slice_get}
use Rattle.std.proofs.lemmas.Bool.{eqb-true}
use Rattle.pg_meaning.specs.Fits.{Mention, elements, firsts}
use Rattle.pg_search.specs.Numbers.{Numbers, elem_at, hop_of, mention_of}
use Rattle.pg_search.specs.Found.{first_no, first_elem, named, list_of, to_of, edge_of}

flat_step : {X Y : Type 0} (f : X → List Y) (xs : List X) (i : ℕ) → flat_map f (take (suc i) xs) ≡ flat_map f (take i xs) ++ elim (slice_get xs i) [ None ↦ [] | Some x ↦ f x ]
flat_step f [] zero = refl
flat_step f [] (suc i) = refl
flat_step f (x ∷ xs) zero = append-nil (f x)
flat_step f (x ∷ xs) (suc i) = ap (λ ys. f x ++ ys) (flat_step f xs i) ∙ sym (append_assoc (f x) (flat_map f (take i xs)) (elim (slice_get xs i) [ None ↦ [] | Some x ↦ f x ]))

pub flat_more : {X Y : Type 0} (f : X → List Y) (xs : List X) (i : ℕ) → flat_map f (take (i + 1) xs) ≡ flat_map f (take i xs) ++ elim (slice_get xs i) [ None ↦ [] | Some x ↦ f x ]
flat_more f xs i = rw add-one (flat_step f xs i)

pub first_some : (names : List (ℕ × ℕ)) (i x : ℕ) (d : ℕ × ℕ) → i < length names → first_no (take i names) x ≡ None → ((get_or names i d).0 == x) ≡ true → first_no names x ≡ Some (get_or names i d).1
first_some [] i x d l h e = absurd (omega arith)
first_some (m ∷ ms) zero x d l h e = ap (λ b. cond b (Some m.1) (first_no ms x)) e
first_some (m ∷ ms) (suc i) x d l h e = go (m.0 == x) h (λ k. first_some ms i x d (omega arith) k e)
  where
    go : (b : Bool) → cond b (Some m.1) (first_no (take i ms) x) ≡ None → (first_no (take i ms) x ≡ None → first_no ms x ≡ Some (get_or ms i d).1) → cond b (Some m.1) (first_no ms x) ≡ Some (get_or ms i d).1
    go true h k = absurd (cc)
    go false h k = k h

none_step : (names : List (ℕ × ℕ)) (i x : ℕ) (d : ℕ × ℕ) → i < length names → first_no (take i names) x ≡ None → ((get_or names i d).0 == x) ≡ false → first_no (take (suc i) names) x ≡ None
none_step [] i x d l h e = absurd (omega arith)
none_step (m ∷ ms) zero x d l h e = ap (λ b. cond b (Some m.1) None) e
none_step (m ∷ ms) (suc i) x d l h e = go (m.0 == x) h (λ k. none_step ms i x d (omega arith) k e)
  where
    go : (b : Bool) → cond b (Some m.1) (first_no (take i ms) x) ≡ None → (first_no (take i ms) x ≡ None → first_no (take (suc i) ms) x ≡ None) → cond b (Some m.1) (first_no (take (suc i) ms) x) ≡ None
    go true h k = absurd (cc)
    go false h k = k h

pub first_none : (names : List (ℕ × ℕ)) (i x : ℕ) (d : ℕ × ℕ) → i < length names → first_no (take i names) x ≡ None → ((get_or names i d).0 == x) ≡ false → first_no (take (i + 1) names) x ≡ None
first_none names i x d l h e = ap (λ j. first_no (take j names) x) (let k : i + 1 ≡ suc i = omega arith in k) ∙ none_step names i x d l h e

-- WHAT A VARIABLE STANDS FOR

elements_append : (xs ys : List Mention) (x : ℕ) → elements (xs ++ ys) x ≡ elements xs x ++ elements ys x
elements_append [] ys x = refl
elements_append (m ∷ ms) ys x = go (m.var == x) (elements_append ms ys x)
  where
    go : (b : Bool) → elements (ms ++ ys) x ≡ elements ms x ++ elements ys x
        → map (λ k. k.elem) (cond b (m ∷ filter (λ k. k.var == x) (ms ++ ys)) (filter (λ k. k.var == x) (ms ++ ys))) ≡ map (λ k. k.elem) (cond b (m ∷ filter (λ k. k.var == x) ms) (filter (λ k. k.var == x) ms)) ++ elements ys x
    go true h = ap (λ zs. m.elem ∷ zs) h
    go false h = h

-- without one variable nothing of it is left, and of others all is
without : (y x : ℕ) (ms : List Mention) → (y == x) ≡ true → elements (filter (λ k. not (k.var == y)) ms) x ≡ []
without y x [] e = refl
without y x (m ∷ ms) e = go (m.var == y) refl (without y x ms e)
  where
    other : (m.var == y) ≡ false → (b : Bool) → (m.var == x) ≡ b → b ≡ false
    other h false k = refl
    other h true k = absurd (let z : true ≡ false = sym (eq-eqb m.var y (eqb-true m.var x k ∙ sym (eqb-true y x e))) ∙ h in cc)

    go : (b : Bool) → (m.var == y) ≡ b → elements (filter (λ k. not (k.var == y)) ms) x ≡ [] → elements (cond (not b) (m ∷ filter (λ k. not (k.var == y)) ms) (filter (λ k. not (k.var == y)) ms)) x ≡ []
    go true h k = k
    go false h k = ap (λ b. map (λ z. z.elem) (cond b (m ∷ filter (λ z. z.var == x) (filter (λ z. not (z.var == y)) ms)) (filter (λ z. z.var == x) (filter (λ z. not (z.var == y)) ms)))) (other h (m.var == x) refl) ∙ k

kept_all : (y x : ℕ) (ms : List Mention) → (y == x) ≡ false → elements (filter (λ k. not (k.var == y)) ms) x ≡ elements ms x
kept_all y x [] e = refl
kept_all y x (m ∷ ms) e = go (m.var == y) refl (kept_all y x ms e)
  where
    other : (m.var == y) ≡ true → (b : Bool) → (m.var == x) ≡ b → b ≡ false
    other h false k = refl
    other h true k = absurd (let z : true ≡ false = sym (eq-eqb y x (sym (eqb-true m.var y h) ∙ eqb-true m.var x k)) ∙ e in cc)

    tail : (b : Bool) → elements (filter (λ k. not (k.var == y)) ms) x ≡ elements ms x
        → map (λ z. z.elem) (cond b (m ∷ filter (λ z. z.var == x) (filter (λ z. not (z.var == y)) ms)) (filter (λ z. z.var == x) (filter (λ z. not (z.var == y)) ms))) ≡ map (λ z. z.elem) (cond b (m ∷ filter (λ z. z.var == x) ms) (filter (λ z. z.var == x) ms))
    tail true k = ap (λ zs. m.elem ∷ zs) k
    tail false k = k

    go : (b : Bool) → (m.var == y) ≡ b → elements (filter (λ k. not (k.var == y)) ms) x ≡ elements ms x → elements (cond (not b) (m ∷ filter (λ k. not (k.var == y)) ms) (filter (λ k. not (k.var == y)) ms)) x ≡ elements (m ∷ ms) x
    go true h k = k ∙ sym (ap (λ b. map (λ z. z.elem) (cond b (m ∷ filter (λ z. z.var == x) ms) (filter (λ z. z.var == x) ms))) (other h (m.var == x) refl))
    go false h k = tail (m.var == x) k

module _ (n : Numbers) where
  first_is : (names : List (ℕ × ℕ)) (x : ℕ) → elements (firsts (map (mention_of n) names)) x ≡ first_elem n (first_no names x)
  first_is [] x = refl
  first_is (m ∷ ms) x = go (m.0 == x) refl (first_is ms x)
    where
      go : (b : Bool) → (m.0 == x) ≡ b → elements (firsts (map (mention_of n) ms)) x ≡ first_elem n (first_no ms x)
          → map (λ k. k.elem) (cond b (mention_of n m ∷ filter (λ k. k.var == x) (filter (λ k. not (k.var == m.0)) (firsts (map (mention_of n) ms)))) (filter (λ k. k.var == x) (filter (λ k. not (k.var == m.0)) (firsts (map (mention_of n) ms))))) ≡ first_elem n (cond b (Some m.1) (first_no ms x))
      go true e h = ap (λ zs. elem_at n m.1 ∷ zs) (without m.0 x (firsts (map (mention_of n) ms)) e)
      go false e h = kept_all m.0 x (firsts (map (mention_of n) ms)) e ∙ h

  all_is : (names : List (ℕ × ℕ)) (x : ℕ) → elements (map (mention_of n) names) x ≡ flat_map (named n x) names
  all_is [] x = refl
  all_is (m ∷ ms) x = go (m.0 == x) (all_is ms x)
    where
      go : (b : Bool) → elements (map (mention_of n) ms) x ≡ flat_map (named n x) ms
          → map (λ k. k.elem) (cond b (mention_of n m ∷ filter (λ k. k.var == x) (map (mention_of n) ms)) (filter (λ k. k.var == x) (map (mention_of n) ms))) ≡ cond b (elem_at n m.1 ∷ []) [] ++ flat_map (named n x) ms
      go true h = ap (λ zs. elem_at n m.1 ∷ zs) h
      go false h = h

  pub list_is : (singles groups : List (ℕ × ℕ)) (x : ℕ) → list_of n singles groups x ≡ elements (firsts (map (mention_of n) singles) ++ map (mention_of n) groups) x
  list_is singles groups x = sym (elements_append (firsts (map (mention_of n) singles)) (map (mention_of n) groups) x ∙ (λ i. first_is singles x i ++ all_is groups x i))

  pub lists_are : (singles groups : List (ℕ × ℕ)) (vars : List ℕ) → map (list_of n singles groups) vars ≡ map (elements (firsts (map (mention_of n) singles) ++ map (mention_of n) groups)) vars
  lists_are singles groups [] = refl
  lists_are singles groups (x ∷ xs) = let a = list_is singles groups x in let b = lists_are singles groups xs in λ i. a i ∷ b i

  pub tos_are : (items : List (ℕ × ℕ)) → map (to_of n) items ≡ map (λ h. h.to) (map (hop_of n) items)
  tos_are [] = refl
  tos_are (x ∷ xs) = ap (λ zs. elem_at n x.1 ∷ zs) (tos_are xs)

  pub edges_are : (items : List (ℕ × ℕ)) → map (edge_of n) items ≡ map (λ h. h.edge) (map (hop_of n) items)
  edges_are [] = refl
  edges_are (x ∷ xs) = ap (λ zs. elem_at n x.0 ∷ zs) (edges_are xs)
