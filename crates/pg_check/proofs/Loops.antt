-- Turns of loops that go for the first of some places, and lists of places put together.
use Rattle.std.proofs.Common.{◌≡◌, ℕ, ◌+◌, ◌<◌, refl, ap, sym, ◌∙◌, List, [], ◌∷◌, ◌++◌, Option, length, get_or, drop, drop-cons, add-one, suc, map, append_assoc}
use Rattle.std.specs.List.{flat_map}
use Rattle.std.proofs.lemmas.Grind.{flat_map-append}
use Rattle.pg_rules.specs.Places.{least, sooner, least_found, least_append}

pub drop_at : {X : Type 0} (xs : List X) (i : ℕ) (x : X) → i < length xs → x ≡ get_or xs i x → drop i xs ≡ x ∷ drop (i + 1) xs
drop_at xs i x inside is = drop-cons xs i x inside ∙ ap (λ y. y ∷ drop (suc i) xs) (sym is) ∙ ap (λ k. x ∷ drop k xs) (sym (add-one i))

pub next_place : {X : Type 0} (g : X → List ℕ) (found place next : Option ℕ) (xs : List X) (i : ℕ) (x : X) → i < length xs → x ≡ get_or xs i x → place ≡ least (g x) → next ≡ sooner found place → sooner found (least (flat_map g (drop i xs))) ≡ least (flat_map g xs) → sooner next (least (flat_map g (drop (i + 1) xs))) ≡ least (flat_map g xs)
next_place g found place next xs i x inside is p n so_far =
    ap (λ o. sooner o (least (flat_map g (drop (i + 1) xs)))) (n ∙ ap (sooner found) p)
    ∙ least_found found (g x) (flat_map g (drop (i + 1) xs))
    ∙ sym (ap (λ l. sooner found (least (flat_map g l))) (drop_at xs i x inside is))
    ∙ so_far

-- one turn of a loop that appends what each element gives
pub next_pushed : {X Y : Type 0} (f : X → List Y) (out next total : List Y) (xs : List X) (i : ℕ) (x : X) → i < length xs → x ≡ get_or xs i x → next ≡ out ++ f x → out ++ flat_map f (drop i xs) ≡ total → next ++ flat_map f (drop (i + 1) xs) ≡ total
next_pushed f out next total xs i x inside is n so_far =
    ap (λ l. l ++ flat_map f (drop (i + 1) xs)) n
    ∙ append_assoc out (f x) (flat_map f (drop (i + 1) xs))
    ∙ sym (ap (λ l. out ++ flat_map f l) (drop_at xs i x inside is))
    ∙ so_far

-- what the elements that each element gives give
pub flat_nested : {X Y Z : Type 0} (g : Y → List Z) (h : X → List Y) (xs : List X) → flat_map g (flat_map h xs) ≡ flat_map (λ x. flat_map g (h x)) xs
flat_nested g h [] = refl
flat_nested g h (x ∷ xs) = flat_map-append g (h x) (flat_map h xs) ∙ ap (λ l. flat_map g (h x) ++ l) (flat_nested g h xs)

-- the first place in two lists
pub joined : (xs ys : List ℕ) (v e r : Option ℕ) → v ≡ least xs → e ≡ least ys → r ≡ sooner v e → r ≡ least (xs ++ ys)
joined xs ys v e r hv he h = h ∙ ap (λ o. sooner o e) hv ∙ ap (sooner (least xs)) he ∙ sym (least_append xs ys)

pub mapped_push : {X Y : Type 0} (f : X → Y) (xs : List X) (x : X) → map f (xs ++ x ∷ []) ≡ map f xs ++ f x ∷ []
mapped_push f [] x = refl
mapped_push f (y ∷ xs) x = ap (λ l. f y ∷ l) (mapped_push f xs x)

-- lists of what two functions that agree give
pub flat_same : {X Y : Type 0} (f g : X → List Y) → ((x : X) → f x ≡ g x) → (xs : List X) → flat_map f xs ≡ flat_map g xs
flat_same f g h [] = refl
flat_same f g h (x ∷ xs) = ap (λ l. l ++ flat_map f xs) (h x) ∙ ap (λ l. g x ++ l) (flat_same f g h xs)

-- one turn of a loop over numbered elements that appends a piece for each
pub next_numbered : {X Y : Type 0} (f : ℕ → List X → List Y) (piece out next total : List Y) (xs : List X) (i : ℕ) (x : X) → i < length xs → x ≡ get_or xs i x → f i (x ∷ drop (i + 1) xs) ≡ piece ++ f (i + 1) (drop (i + 1) xs) → next ≡ out ++ piece → out ++ f i (drop i xs) ≡ total → next ++ f (i + 1) (drop (i + 1) xs) ≡ total
next_numbered f piece out next total xs i x inside is law n so_far =
    ap (λ l. l ++ f (i + 1) (drop (i + 1) xs)) n
    ∙ append_assoc out piece (f (i + 1) (drop (i + 1) xs))
    ∙ sym (ap (λ l. out ++ l) law)
    ∙ sym (ap (λ l. out ++ f i l) (drop_at xs i x inside is))
    ∙ so_far
