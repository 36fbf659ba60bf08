-- Words on lists, and their small laws: what holds of each item, which items are among a list, and lists without doubles.
use Rattle.std.specs.Prelude.{◌≡◌, ◌⊎◌, List, [], ◌∷◌, ◌++◌, Bool, true, false, cond, map}
use Rattle.std.proofs.Common.{ℕ, zero, suc, take, inl, inr, refl, ap, sym, subst, ◌∙◌}
use Rattle.std.specs.declared.option.Option.{Option}
use Rattle.std.specs.declared.option.Option.TheVariants.{Some, None}
use Rattle.std.specs.List.{filter, filter_map, cons_option}

abbrev pub Each : {X : Type 0} → (X → Type 0) → List X → Type 0
Each P [] = Unit {0}
Each P (x ∷ xs) = P x × Each P xs

-- x is an item of the list
abbrev pub Among : {X : Type 0} → X → List X → Type 0
Among x [] = ⊥
Among x (y ∷ ys) = (x ≡ y) ⊎ Among x ys

-- no item stands twice
abbrev pub Distinct : {X : Type 0} → List X → Type 0
Distinct [] = Unit {0}
Distinct (x ∷ xs) = (Among x xs → ⊥) × Distinct xs

-- EACH

pub each_map : {X : Type 0} (P Q : X → Type 0) → ((x : X) → P x → Q x) → (xs : List X) → Each P xs → Each Q xs
each_map P Q f [] h = tt
each_map P Q f (x ∷ xs) h = (f x h.0, each_map P Q f xs h.1)

pub each_both : {X : Type 0} (P Q : X → Type 0) (xs : List X) → Each P xs → Each Q xs → Each (λ x. P x × Q x) xs
each_both P Q [] h k = tt
each_both P Q (x ∷ xs) h k = ((h.0, k.0), each_both P Q xs h.1 k.1)

pub each_append : {X : Type 0} (P : X → Type 0) (xs ys : List X) → Each P xs → Each P ys → Each P (xs ++ ys)
each_append P [] ys h k = k
each_append P (x ∷ xs) ys h k = (h.0, each_append P xs ys h.1 k)

pub each_filter : {X : Type 0} (P : X → Type 0) (t : X → Bool) (xs : List X) → Each P xs → Each P (filter t xs)
each_filter P t [] h = tt
each_filter P t (x ∷ xs) h = elim (t x) as (λ b. Each P (cond b (x ∷ filter t xs) (filter t xs))) [ true ↦ (h.0, each_filter P t xs h.1) | false ↦ each_filter P t xs h.1 ]

-- each that a filter keeps passes its test
pub each_kept : {X : Type 0} (t : X → Bool) (xs : List X) → Each (λ x. t x ≡ true) (filter t xs)
each_kept t [] = tt
each_kept t (x ∷ xs) = go (t x) refl (each_kept t xs)
  where
    go : (b : Bool) → t x ≡ b → Each (λ y. t y ≡ true) (filter t xs) → Each (λ y. t y ≡ true) (cond b (x ∷ filter t xs) (filter t xs))
    go true e r = (e, r)
    go false e r = r

pub each_take : {X : Type 0} (P : X → Type 0) (n : ℕ) (xs : List X) → Each P xs → Each P (take n xs)
each_take P zero [] h = tt
each_take P zero (x ∷ xs) h = tt
each_take P (suc n) [] h = tt
each_take P (suc n) (x ∷ xs) h = (h.0, each_take P n xs h.1)

pub each_cons : {X : Type 0} (P : X → Type 0) (r : Option X) (xs : List X) → ((x : X) → r ≡ Some x → P x) → Each P xs → Each P (cons_option r xs)
each_cons P None xs f h = h
each_cons P (Some x) xs f h = (f x refl, h)

pub each_given : {W X : Type 0} (P : X → Type 0) (f : W → Option X) (ws : List W) → Each (λ w. (x : X) → f w ≡ Some x → P x) ws → Each P (filter_map f ws)
each_given P f [] h = tt
each_given P f (w ∷ ws) h = each_cons P (f w) (filter_map f ws) h.0 (each_given P f ws h.1)

pub each_among : {X : Type 0} (P : X → Type 0) (x : X) (xs : List X) → Each P xs → Among x xs → P x
each_among P x [] h a = absurd a
each_among P x (y ∷ ys) h (inl s) = subst P (sym s) h.0
each_among P x (y ∷ ys) h (inr m) = each_among P x ys h.1 m

-- what holds of each item that is among the list
pub each_of : {X : Type 0} (P : X → Type 0) (xs : List X) → ((x : X) → Among x xs → P x) → Each P xs
each_of P [] f = tt
each_of P (x ∷ xs) f = (f x (inl refl), each_of P xs (λ y m. f y (inr m)))

-- AMONG

pub among_append : {X : Type 0} (x : X) (xs ys : List X) → Among x xs ⊎ Among x ys → Among x (xs ++ ys)
among_append x [] ys (inl m) = absurd m
among_append x [] ys (inr m) = m
among_append x (y ∷ xs) ys (inl (inl s)) = inl s
among_append x (y ∷ xs) ys (inl (inr m)) = inr (among_append x xs ys (inl m))
among_append x (y ∷ xs) ys (inr m) = inr (among_append x xs ys (inr m))

pub from_append : {X : Type 0} (x : X) (xs ys : List X) → Among x (xs ++ ys) → Among x xs ⊎ Among x ys
from_append x [] ys m = inr m
from_append x (y ∷ xs) ys (inl s) = inl (inl s)
from_append x (y ∷ xs) ys (inr m) = elim (from_append x xs ys m) [ inl a ↦ inl (inr a) | inr b ↦ inr b ]

pub among_map : {X Y : Type 0} (f : X → Y) (x : X) (xs : List X) → Among x xs → Among (f x) (map f xs)
among_map f x [] m = m
among_map f x (y ∷ ys) (inl s) = inl (ap f s)
among_map f x (y ∷ ys) (inr m) = inr (among_map f x ys m)

pub from_map : {X Y : Type 0} (f : X → Y) (y : Y) (xs : List X) → Among y (map f xs) → (x : X) × Among x xs × (y ≡ f x)
from_map f y [] m = absurd m
from_map f y (x ∷ xs) (inl s) = (x, inl refl, s)
from_map f y (x ∷ xs) (inr m) = let r = from_map f y xs m in (r.0, inr r.1, r.2)

pub among_filter : {X : Type 0} (t : X → Bool) (x : X) (xs : List X) → t x ≡ true → Among x xs → Among x (filter t xs)
among_filter t x [] h a = a
among_filter t x (y ∷ ys) h a = go (t y) refl (λ b. among_filter t x ys h b) a
  where
    no_way : true ≡ false → ⊥
    no_way e = cc

    go : (b : Bool) → t y ≡ b → (Among x ys → Among x (filter t ys)) → (x ≡ y) ⊎ Among x ys → Among x (cond b (y ∷ filter t ys) (filter t ys))
    go true e again (inl s) = inl s
    go true e again (inr m) = inr (again m)
    go false e again (inl s) = absurd (no_way (sym h ∙ ap t s ∙ e))
    go false e again (inr m) = again m

pub from_filter : {X : Type 0} (t : X → Bool) (x : X) (xs : List X) → Among x (filter t xs) → Among x xs × (t x ≡ true)
from_filter t x [] a = absurd a
from_filter t x (y ∷ ys) a = go (t y) refl (λ b. from_filter t x ys b) a
  where
    go : (b : Bool) → t y ≡ b → (Among x (filter t ys) → Among x ys × (t x ≡ true)) → Among x (cond b (y ∷ filter t ys) (filter t ys)) → ((x ≡ y) ⊎ Among x ys) × (t x ≡ true)
    go true e again (inl s) = (inl s, ap t s ∙ e)
    go true e again (inr m) = let r = again m in (inr r.0, r.1)
    go false e again m = let r = again m in (inr r.0, r.1)

pub among_cons : {X : Type 0} (x : X) (r : Option X) (xs : List X) → Among x xs → Among x (cons_option r xs)
among_cons x None xs m = m
among_cons x (Some y) xs m = inr m

pub among_given : {W X : Type 0} (f : W → Option X) (x : X) (w : W) (ws : List W) → Among w ws → f w ≡ Some x → Among x (filter_map f ws)
among_given f x w [] m e = absurd m
among_given f x w (v ∷ ws) (inl s) e = subst (λ r. Among x (cons_option r (filter_map f ws))) (sym (sym (ap f s) ∙ e)) (inl refl)
among_given f x w (v ∷ ws) (inr m) e = among_cons x (f v) (filter_map f ws) (among_given f x w ws m e)

pub from_given : {W X : Type 0} (f : W → Option X) (x : X) (ws : List W) → Among x (filter_map f ws) → (w : W) × Among w ws × (f w ≡ Some x)
from_given f x [] m = absurd m
from_given {W} {X} f x (v ∷ ws) m = go (f v) refl (from_given f x ws) m
  where
    go : (r : Option X) → f v ≡ r → (Among x (filter_map f ws) → (w : W) × Among w ws × (f w ≡ Some x)) → Among x (cons_option r (filter_map f ws)) → (w : W) × ((w ≡ v) ⊎ Among w ws) × (f w ≡ Some x)
    go None e again m = let r = again m in (r.0, inr r.1, r.2)
    go (Some y) e again (inl s) = (v, inl refl, e ∙ ap Some (sym s))
    go (Some y) e again (inr m) = let r = again m in (r.0, inr r.1, r.2)

-- DISTINCT

pub distinct_filter : {X : Type 0} (t : X → Bool) (xs : List X) → Distinct xs → Distinct (filter t xs)
distinct_filter t [] d = tt
distinct_filter t (x ∷ xs) d = elim (t x) as (λ b. Distinct (cond b (x ∷ filter t xs) (filter t xs))) [ true ↦ ((λ m. d.0 (from_filter t x xs m).0), distinct_filter t xs d.1) | false ↦ distinct_filter t xs d.1 ]

-- the images of items that have distinct images further on
pub distinct_map : {X Y Z : Type 0} (f : X → Y) (g : Y → Z) (xs : List X) → Distinct (map (λ x. g (f x)) xs) → Distinct (map f xs)
distinct_map f g [] d = tt
distinct_map f g (x ∷ xs) d = ((λ m. let r = from_map f (f x) xs m in d.0 (subst (λ z. Among z (map (λ y. g (f y)) xs)) (sym (ap g r.2)) (among_map (λ y. g (f y)) r.0 xs r.1))), distinct_map f g xs d.1)
