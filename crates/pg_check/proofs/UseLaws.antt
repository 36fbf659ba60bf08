-- The uses of variables and the aggregates of an expression, as passes over it gather them.
use Rattle.std.proofs.Common.{◌≡◌, ℕ, refl, ap, sym, ◌∙◌, Bool, true, false, not, ◌&&◌, ◌||◌, List, [], ◌∷◌, ◌++◌, map, Option, Some, None}
use Rattle.std.specs.Prelude.{option_to_list}
use Rattle.std.specs.List.{list_any, list_all, flat_map}
use Rattle.std.proofs.lemmas.List.{append-nil, map-append}
use Rattle.std.proofs.lemmas.Grind.{flat_map-append}
use Rattle.std.proofs.lemmas.List.Folds.{flat_map-map}
use Rattle.pg_ast.specs.declared.expr.Name.{Name}
use Rattle.pg_ast.specs.declared.pattern.Query.{Query}
use Rattle.pg_ast.specs.Trees.{ExprTree, Literal, Wide, ColumnOf, PropertyOf, One, Two, Group, Counted}
use Rattle.pg_rules.specs.declared.entry.GraphEntry.{GraphEntry}
use Rattle.pg_rules.specs.Catalog.GraphLookUps.{has_property}
use Rattle.pg_rules.specs.Places.{place_if}
use Rattle.pg_rules.specs.Queries as rules
use Rattle.pg_rules.specs.Queries.{is_empty, degree_of, is_grouped, is_singleton, is_among}
use Rattle.pg_rules.specs.Queries.Collections.{Use, Aggregate, uses, uses_in, aggregates, aggregates_in, same_name, mentions_of, variables_of, outer, inner}
use Rattle.pg_catalog.specs.PropertyNames.{AreNamesOf}
use Rattle.pg_check.specs.Gathered.{Seen, seen_in, seen_of, firsts_after}
use Rattle.pg_check.specs.UsePlaces.{missing, unknown, bare, is_single, is_yes, rounds, are_of_one, is_misused, misused_from, aggregate_places}
use Rattle.pg_check.proofs.Loops.{flat_nested, flat_same}
use Rattle.pg_check.proofs.VariableLaws.{among_known, grouped_known, single_known}

-- USES

one_more : (around : List ℕ) (at : ℕ) → not (is_empty (around ++ at ∷ [])) ≡ true
one_more [] at = refl
one_more (p ∷ ps) at = refl

pub seen_is : (around : List ℕ) (x : ExprTree) → map seen_of (uses_in around x) ≡ seen_in (not (is_empty around)) x
seen_is around (Literal v bits at) = refl
seen_is around (Wide at) = refl
seen_is around (ColumnOf n) = refl
seen_is around (PropertyOf v n) = refl
seen_is around (One op x at) = seen_is around x
seen_is around (Two op x y at) =
    map-append seen_of (uses_in around x) (uses_in around y)
    ∙ ap (λ l. l ++ map seen_of (uses_in around y)) (seen_is around x)
    ∙ ap (λ l. seen_in (not (is_empty around)) x ++ l) (seen_is around y)
seen_is around (Group agg x at) = seen_is (around ++ at ∷ []) x ∙ ap (λ b. seen_in b x) (one_more around at)
seen_is around (Counted v at) = ap (λ b. record { variable = v; property = None; inside = b } ∷ []) (one_more around at)

-- the places of uses, by one test or by another that agrees
pub one_expr : (f : Seen → List ℕ) (g : Use → List ℕ) → ((u : Use) → f (seen_of u) ≡ g u) → (x : ExprTree) → flat_map f (seen_in false x) ≡ flat_map g (uses x)
one_expr f g h x =
    ap (flat_map f) (sym (seen_is [] x))
    ∙ flat_map-map f seen_of (uses x)
    ∙ flat_same (λ u. f (seen_of u)) g h (uses x)

pub all_exprs : (f : Seen → List ℕ) (g : Use → List ℕ) → ((u : Use) → f (seen_of u) ≡ g u) → (xs : List ExprTree) → flat_map (λ x. flat_map f (seen_in false x)) xs ≡ flat_map g (flat_map uses xs)
all_exprs f g h xs = flat_same (λ x. flat_map f (seen_in false x)) (λ x. flat_map g (uses x)) (one_expr f g h) xs ∙ sym (flat_nested g uses xs)

missing_one : (g : GraphEntry) (names : List (List ℕ)) → AreNamesOf g names → (u : Use) → missing names (seen_of u) ≡ flat_map (λ n. place_if (not (has_property g n.text)) n.at) (option_to_list u.property)
missing_one g names h u = go u.property
  where
    go : (o : Option Name) → missing names (record { variable = u.variable; property = o; inside = not (is_empty u.around) }) ≡ flat_map (λ n. place_if (not (has_property g n.text)) n.at) (option_to_list o)
    go None = refl
    go (Some n) = ap (λ b. place_if (not b) n.at) (h n.text) ∙ sym (append-nil (place_if (not (has_property g n.text)) n.at))

pub no_property_same : (g : GraphEntry) (names : List (List ℕ)) (q : Query) → AreNamesOf g names → flat_map (λ x. flat_map (missing names) (seen_in false x)) (inner q ++ outer q) ≡ rules.no_property g q
no_property_same g names q h = all_exprs (missing names) (λ u. flat_map (λ n. place_if (not (has_property g n.text)) n.at) (option_to_list u.property)) (missing_one g names h) (inner q ++ outer q)

pub unknown_same : (q : Query) → flat_map (λ x. flat_map (unknown (firsts_after [] (mentions_of q))) (seen_in false x)) (inner q ++ outer q) ≡ rules.unknown q
unknown_same q = all_exprs (unknown (firsts_after [] (mentions_of q))) (λ u. place_if (not (is_among (variables_of q) u.variable)) u.variable.at) (λ u. ap (λ b. place_if (not b) u.variable.at) (among_known q u.variable)) (inner q ++ outer q)

not_not : (b : Bool) → not (not b) ≡ b
not_not true = refl
not_not false = refl

bare_one : (q : Query) (u : Use) → bare (firsts_after [] (mentions_of q)) (seen_of u) ≡ place_if (is_empty u.around && is_grouped (degree_of q u.variable)) u.variable.at
bare_one q u =
    ap (λ b. place_if (b && is_yes (rounds (firsts_after [] (mentions_of q)) u.variable)) u.variable.at) (not_not (is_empty u.around))
    ∙ ap (λ b. place_if (is_empty u.around && b) u.variable.at) (grouped_known q u.variable)

pub bare_same : (q : Query) → flat_map (λ x. flat_map (bare (firsts_after [] (mentions_of q))) (seen_in false x)) (outer q) ≡ rules.bare q
bare_same q =
    let g : Use → List ℕ = λ u. place_if (is_empty u.around && is_grouped (degree_of q u.variable)) u.variable.at in
    flat_same (λ x. flat_map (bare (firsts_after [] (mentions_of q))) (seen_in false x)) (λ x. flat_map g (uses x)) (one_expr (bare (firsts_after [] (mentions_of q))) g (bare_one q)) (outer q)

-- AGGREGATES

all_of : (v : Name) (us : List Use) → list_all (λ w. same_name v w.variable) (map seen_of us) ≡ list_all (λ w. same_name v w.variable) us
all_of v [] = refl
all_of v (u ∷ us) = ap (λ b. same_name v u.variable && b) (all_of v us)

of_one_same : (us : List Use) → are_of_one (map seen_of us) ≡ rules.are_of_one us
of_one_same [] = refl
of_one_same (u ∷ us) = all_of u.variable us

single_same : (q : Query) (us : List Use) → list_any (is_single (firsts_after [] (mentions_of q))) (map seen_of us) ≡ list_any (λ u. is_singleton (degree_of q u.variable)) us
single_same q [] = refl
single_same q (u ∷ us) = ap (λ b. b || list_any (is_single (firsts_after [] (mentions_of q))) (map seen_of us)) (single_known q u.variable) ∙ ap (λ b. is_singleton (degree_of q u.variable) || b) (single_same q us)

abbrev misplaced : Query → Aggregate → List ℕ
misplaced q a = place_if (not (is_empty a.around) || (not (rules.are_of_one a.argument) || list_any (λ u. is_singleton (degree_of q u.variable)) a.argument)) a.at

misused_of : (q : Query) (inside : Bool) (us : List Use) → is_misused (firsts_after [] (mentions_of q)) inside (map seen_of us) ≡ (inside || (not (rules.are_of_one us) || list_any (λ u. is_singleton (degree_of q u.variable)) us))
misused_of q inside us =
    ap (λ b. inside || (not b || list_any (is_single (firsts_after [] (mentions_of q))) (map seen_of us))) (of_one_same us)
    ∙ ap (λ b. inside || (not (rules.are_of_one us) || b)) (single_same q us)

misused_is : (q : Query) (around : List ℕ) (x : ExprTree) → misused_from (firsts_after [] (mentions_of q)) (not (is_empty around)) x ≡ flat_map (misplaced q) (aggregates_in around x)
misused_is q around (Literal v bits at) = refl
misused_is q around (Wide at) = refl
misused_is q around (ColumnOf n) = refl
misused_is q around (PropertyOf v n) = refl
misused_is q around (One op x at) = misused_is q around x
misused_is q around (Two op x y at) =
    ap (λ l. l ++ misused_from (firsts_after [] (mentions_of q)) (not (is_empty around)) y) (misused_is q around x)
    ∙ ap (λ l. flat_map (misplaced q) (aggregates_in around x) ++ l) (misused_is q around y)
    ∙ sym (flat_map-append (misplaced q) (aggregates_in around x) (aggregates_in around y))
misused_is q around (Group agg x at) =
    let known = firsts_after [] (mentions_of q) in
    let us = uses_in (around ++ at ∷ []) x in
    ap (λ b. place_if (is_misused known (not (is_empty around)) (seen_in b x)) at ++ misused_from known b x) (sym (one_more around at))
    ∙ ap (λ s. place_if (is_misused known (not (is_empty around)) s) at ++ misused_from known (not (is_empty (around ++ at ∷ []))) x) (sym (seen_is (around ++ at ∷ []) x))
    ∙ ap (λ b. place_if b at ++ misused_from known (not (is_empty (around ++ at ∷ []))) x) (misused_of q (not (is_empty around)) us)
    ∙ ap (λ l. misplaced q (record { at = at; around = around; argument = us }) ++ l) (misused_is q (around ++ at ∷ []) x)
misused_is q around (Counted v at) =
    let known = firsts_after [] (mentions_of q) in
    let us : List Use = record { variable = v; property = None; around = around ++ at ∷ [] } ∷ [] in
    ap (λ b. place_if (is_misused known (not (is_empty around)) (record { variable = v; property = None; inside = b } ∷ [])) at) (sym (one_more around at))
    ∙ ap (λ b. place_if b at) (misused_of q (not (is_empty around)) us)
    ∙ sym (append-nil (misplaced q (record { at = at; around = around; argument = us })))

pub misused_same : (q : Query) → flat_map (misused_from (firsts_after [] (mentions_of q)) false) (outer q) ≡ rules.misused q
misused_same q = flat_same (misused_from (firsts_after [] (mentions_of q)) false) (λ x. flat_map (misplaced q) (aggregates x)) (misused_is q []) (outer q)

aggregates_placed : (around : List ℕ) (x : ExprTree) → aggregate_places x ≡ map (λ a. a.at) (aggregates_in around x)
aggregates_placed around (Literal v bits at) = refl
aggregates_placed around (Wide at) = refl
aggregates_placed around (ColumnOf n) = refl
aggregates_placed around (PropertyOf v n) = refl
aggregates_placed around (One op x at) = aggregates_placed around x
aggregates_placed around (Two op x y at) =
    ap (λ l. l ++ aggregate_places y) (aggregates_placed around x)
    ∙ ap (λ l. map (λ (a : Aggregate). a.at) (aggregates_in around x) ++ l) (aggregates_placed around y)
    ∙ sym (map-append (λ (a : Aggregate). a.at) (aggregates_in around x) (aggregates_in around y))
aggregates_placed around (Group agg x at) = ap (λ l. at ∷ l) (aggregates_placed (around ++ at ∷ []) x)
aggregates_placed around (Counted v at) = refl

pub inside_same : (q : Query) → flat_map aggregate_places (inner q) ≡ rules.inside q
inside_same q = flat_same aggregate_places (λ x. map (λ a. a.at) (aggregates x)) (aggregates_placed []) (inner q)
