-- One turn of a loop that goes for the first of some places.
use Rattle.std.proofs.Common.{◌≡◌, ℕ, ◌+◌, ◌<◌, ap, sym, ◌∙◌, List, ◌∷◌, Option, length, get_or, drop, drop-cons, add-one, suc}
use Rattle.std.specs.List.{flat_map}
use Rattle.pg_rules.specs.Places.{least, sooner, least_found}

pub drop_at : {X : Type 0} (xs : List X) (i : ℕ) (x : X) → i < length xs → x ≡ get_or xs i x → drop i xs ≡ x ∷ drop (i + 1) xs
drop_at xs i x inside is = drop-cons xs i x inside ∙ ap (λ y. y ∷ drop (suc i) xs) (sym is) ∙ ap (λ k. x ∷ drop k xs) (sym (add-one i))

pub next_place : {X : Type 0} (g : X → List ℕ) (found place next : Option ℕ) (xs : List X) (i : ℕ) (x : X) → i < length xs → x ≡ get_or xs i x → place ≡ least (g x) → next ≡ sooner found place → sooner found (least (flat_map g (drop i xs))) ≡ least (flat_map g xs) → sooner next (least (flat_map g (drop (i + 1) xs))) ≡ least (flat_map g xs)
next_place g found place next xs i x inside is p n so_far =
    ap (λ o. sooner o (least (flat_map g (drop (i + 1) xs)))) (n ∙ ap (sooner found) p)
    ∙ least_found found (g x) (flat_map g (drop (i + 1) xs))
    ∙ sym (ap (λ l. sooner found (least (flat_map g l))) (drop_at xs i x inside is))
    ∙ so_far
