-- One turn of a loop that goes for the first of some places.
use Rattle.std.proofs.Common.{Bool, true, false, ◌&&◌, ◌≡◌, ℕ, ◌+◌, ◌<◌, refl, ap, sym, ◌∙◌, List, [], ◌∷◌, ◌++◌, Option, length, get_or, drop, drop-cons, add-one, suc}
use Rattle.std.specs.List.{flat_map}
use Rattle.pg_ast.specs.declared.expr.Name.{Name}
use Rattle.pg_rules.specs.Definitions.Graphs.{pairwise}
use Rattle.pg_rules.specs.Places.{least, sooner, least_found, least_append}

pub drop_at : {X : Type 0} (xs : List X) (i : ℕ) (x : X) → i < length xs → x ≡ get_or xs i x → drop i xs ≡ x ∷ drop (i + 1) xs
drop_at xs i x inside is = drop-cons xs i x inside ∙ ap (λ y. y ∷ drop (suc i) xs) (sym is) ∙ ap (λ k. x ∷ drop k xs) (sym (add-one i))

pub next_place : {X : Type 0} (g : X → List ℕ) (found place next : Option ℕ) (xs : List X) (i : ℕ) (x : X) → i < length xs → x ≡ get_or xs i x → place ≡ least (g x) → next ≡ sooner found place → sooner found (least (flat_map g (drop i xs))) ≡ least (flat_map g xs) → sooner next (least (flat_map g (drop (i + 1) xs))) ≡ least (flat_map g xs)
next_place g found place next xs i x inside is p n so_far =
    ap (λ o. sooner o (least (flat_map g (drop (i + 1) xs)))) (n ∙ ap (sooner found) p)
    ∙ least_found found (g x) (flat_map g (drop (i + 1) xs))
    ∙ sym (ap (λ l. sooner found (least (flat_map g l))) (drop_at xs i x inside is))
    ∙ so_far

both : (a b : Bool) → (a && b) ≡ true → b ≡ true
both true b h = h
both false b h = cc

-- lists that pass a test one by one are as long as one another
pairwise_even : (test : Name → ℕ → Bool) (ns : List Name) (ps : List ℕ) → pairwise test ns ps ≡ true → length ns ≡ length ps
pairwise_even test [] [] h = refl
pairwise_even test [] (p ∷ ps) h = cc
pairwise_even test (n ∷ ns) [] h = cc
pairwise_even test (n ∷ ns) (p ∷ ps) h = ap suc (pairwise_even test ns ps (both (test n p) (pairwise test ns ps) h))

false_unless : (b : Bool) → (b ≡ true → ⊥) → b ≡ false
false_unless true h = absurd (h refl)
false_unless false h = refl

pub uneven : (test : Name → ℕ → Bool) (ns : List Name) (ps : List ℕ) → (length ns ≡ length ps → ⊥) → pairwise test ns ps ≡ false
uneven test ns ps h = false_unless (pairwise test ns ps) (λ t. h (pairwise_even test ns ps t))

-- the first place in two lists
pub joined : (xs ys : List ℕ) (v e r : Option ℕ) → v ≡ least xs → e ≡ least ys → r ≡ sooner v e → r ≡ least (xs ++ ys)
joined xs ys v e r hv he h = h ∙ ap (λ o. sooner o e) hv ∙ ap (sooner (least xs)) he ∙ sym (least_append xs ys)
