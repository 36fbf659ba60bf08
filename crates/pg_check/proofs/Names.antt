-- The places of names in lists that are put together.
use Rattle.std.proofs.Common.{◌≡◌, ℕ, ap, sym, ◌∙◌, List, ◌++◌, Option, Some, None, refl, subst, Bool, true, false, ◌||◌, [], ◌∷◌, ◌+◌, ◌<◌, length, get_or, drop}
use Rattle.std.specs.Prelude.{option_to_list}
use Rattle.std.specs.List.{flat_map}
use Rattle.std.specs.Str.{bytes_eq}
use Rattle.std.specs.Cmp.Lexicographic.{bytes_decides}
use Rattle.std.proofs.lemmas.List.{map-append}
use Rattle.std.proofs.lemmas.List.Elements.{filter_map-append}
use Rattle.std.proofs.lemmas.List.Folds.{list_any-append}
use Rattle.pg_ast.specs.declared.expr.Name.{Name}
use Rattle.pg_ast.specs.declared.pattern.Filler.{Filler}
use Rattle.pg_rules.specs.Definitions.Tables.{member}
use Rattle.pg_rules.specs.Queries.{is_among}
use Rattle.pg_rules.specs.Queries.Collections.{named}
use Rattle.pg_catalog.specs.NameSets.{add, add_all}
use Rattle.pg_check.specs.UsePlaces.{texts_of}
use Rattle.pg_check.proofs.Loops.{drop_at}
use Rattle.std.proofs.lemmas.Grind.{flat_map-append}
use Rattle.pg_rules.specs.Places.{least, sooner, least_append}

-- the first place that two lists of things give
pub least_of_two : {X : Type 0} (g : X → List ℕ) (xs ys : List X) → least (flat_map g (xs ++ ys)) ≡ sooner (least (flat_map g xs)) (least (flat_map g ys))
least_of_two g xs ys = ap least (flat_map-append g xs ys) ∙ least_append (flat_map g xs) (flat_map g ys)

-- SETS OF NAMES

or_false : (a : Bool) → (a || false) ≡ a
or_false true = refl
or_false false = refl

or_assoc : (a b c : Bool) → ((a || b) || c) ≡ (a || (b || c))
or_assoc true b c = refl
or_assoc false b c = refl

member_added : (m t : List ℕ) (seen : List (List ℕ)) → member m (add seen t) ≡ (member m seen || bytes_eq m t)
member_added m t seen = go (member t seen) refl
  where
    same : (b : Bool) → member t seen ≡ true → bytes_eq m t ≡ b → member m seen ≡ (member m seen || b)
    same false h e = sym (or_false (member m seen))
    same true h e = let s : member m seen ≡ true = subst (λ x. member x seen ≡ true) (sym ((bytes_decides m t).0 e)) h in rw s refl

    go : (b : Bool) → member t seen ≡ b → member m (add seen t) ≡ (member m seen || bytes_eq m t)
    go true h = rw h (same (bytes_eq m t) h refl)
    go false h = rw h (list_any-append (bytes_eq m) seen (t ∷ []) ∙ ap (λ b. member m seen || b) (or_false (bytes_eq m t)))

member_all : (m : List ℕ) (ts seen : List (List ℕ)) → member m (add_all seen ts) ≡ (member m seen || member m ts)
member_all m [] seen = sym (or_false (member m seen))
member_all m (t ∷ ts) seen =
    member_all m ts (add seen t)
    ∙ ap (λ b. b || member m ts) (member_added m t seen)
    ∙ or_assoc (member m seen) (bytes_eq m t) (member m ts)

among_texts : (n : Name) (names : List Name) → member n.text (texts_of names) ≡ is_among names n
among_texts n [] = refl
among_texts n (m ∷ names) = ap (λ b. bytes_eq n.text m.text || b) (among_texts n names)

pub among_set : (n : Name) (names : List Name) → member n.text (add_all [] (texts_of names)) ≡ is_among names n
among_set n names = member_all n.text (texts_of names) [] ∙ among_texts n names

pub added_more : (seen xs ys : List (List ℕ)) → add_all (add_all seen xs) ys ≡ add_all seen (xs ++ ys)
added_more seen [] ys = refl
added_more seen (x ∷ xs) ys = added_more (add seen x) xs ys

pub named_first : (f : Filler) (fs : List Filler) → texts_of (named (f ∷ fs)) ≡ texts_of (option_to_list f.var) ++ texts_of (named fs)
named_first f fs = go f.var refl
  where
    go : (o : Option Name) → f.var ≡ o → texts_of (named (f ∷ fs)) ≡ texts_of (option_to_list o) ++ texts_of (named fs)
    go None h = rw h refl
    go (Some n) h = rw h refl

pub named_both : (xs ys : List Filler) → texts_of (named (xs ++ ys)) ≡ texts_of (named xs) ++ texts_of (named ys)
named_both xs ys = ap texts_of (filter_map-append (λ (f : Filler). f.var) xs ys) ∙ map-append (λ (n : Name). n.text) (named xs) (named ys)

-- one turn of a loop that adds the variables of nodes or edges
pub next_named : (seen next total : List (List ℕ)) (xs : List Filler) (i : ℕ) (x : Filler) → i < length xs → x ≡ get_or xs i x → next ≡ add_all seen (texts_of (option_to_list x.var)) → add_all seen (texts_of (named (drop i xs))) ≡ total → add_all next (texts_of (named (drop (i + 1) xs))) ≡ total
next_named seen next total xs i x inside is n so_far =
    ap (λ s. add_all s (texts_of (named (drop (i + 1) xs)))) n
    ∙ added_more seen (texts_of (option_to_list x.var)) (texts_of (named (drop (i + 1) xs)))
    ∙ ap (add_all seen) (sym (named_first x (drop (i + 1) xs)))
    ∙ sym (ap (λ l. add_all seen (texts_of (named l))) (drop_at xs i x inside is))
    ∙ so_far
