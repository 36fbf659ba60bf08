-- The places of kinds, widths and limits that the passes find are those of the rules.
use Rattle.std.proofs.Common.{◌≡◌, ℕ, refl, ap, sym, ◌∙◌, not, List, [], ◌++◌, map, Option, Some, None}
use Rattle.std.specs.Prelude.{option_to_list, slice_get, option_map}
use Rattle.std.specs.List.{flat_map}
use Rattle.std.proofs.lemmas.Option.{slice_get-map}
use Rattle.std.proofs.lemmas.List.Folds.{flat_map-map}
use Rattle.pg_value.specs.declared.value.Kind.{Kind}
use Rattle.pg_value.specs.declared.value.Kind.TheVariants as kinds
use Rattle.pg_ast.specs.declared.expr.Name.{Name}
use Rattle.pg_ast.specs.declared.expr.Whole.{Whole}
use Rattle.pg_ast.specs.declared.pattern.PathPattern.{PathPattern}
use Rattle.pg_ast.specs.declared.pattern.ColumnItem.{ColumnItem}
use Rattle.pg_ast.specs.declared.pattern.Query.{Query}
use Rattle.pg_ast.specs.Trees.{tree_of}
use Rattle.pg_meaning.specs.Typing.{Names, kind_of, may_be}
use Rattle.pg_rules.specs.declared.entry.GraphEntry.{GraphEntry}
use Rattle.pg_rules.specs.ExprFaults.{types_at, wide_at}
use Rattle.pg_rules.specs.Places.{least, sooner, place_if}
use Rattle.pg_rules.specs.Queries.{names_of, beyond, limit, fourth_edge, large, quants_in}
use Rattle.pg_rules.specs.Queries.Collections.{Inner, inner, outer, conditions, inner_conditions, variables_of, mentions_of, parts_of}
use Rattle.pg_catalog.specs.PropertyKinds.{AreKindsOf}
use Rattle.pg_check.specs.declared.gather.InnerCondition.{InnerCondition}
use Rattle.pg_check.specs.Passes.{inner_view, crowded_path, large_path, long_path}
use Rattle.pg_check.specs.Gathered.{firsts_after}
use Rattle.pg_check.specs.UsePlaces.{Known}
use Rattle.pg_check.specs.Scopes.{scope, untrue}
use Rattle.pg_check.proofs.Loops.{flat_same, flat_nested, joined}
use Rattle.pg_check.proofs.Names.{least_of_two}
use Rattle.pg_check.proofs.ScopeLaws.{alike, kind_alike, types_alike, wide_alike}
use Rattle.pg_check.proofs.VariableLaws.{place_known}
use Rattle.pg_check.proofs.QuantLaws.{large_same}

-- CONDITIONS

pub conditions_judged : (names : Names) (q : Query) (cs : List InnerCondition) (c : Option Whole) (v w r : Option ℕ) → map inner_view cs ≡ inner_conditions q → c ≡ q.cond → v ≡ least (flat_map (λ i. untrue names i.condition.now) cs) → w ≡ least (flat_map (untrue names) (option_to_list c)) → r ≡ sooner v w → r ≡ least (flat_map (untrue names) (conditions q))
conditions_judged names q cs c v w r h g hv hw hr =
    let condition_of = λ (i : Inner). i.condition in
    let own = flat_map (untrue names) (map condition_of (inner_conditions q)) in
    hr
    ∙ ap (λ o. sooner o w) (hv ∙ ap least (sym (flat_map-map (λ (i : Inner). untrue names i.condition) inner_view cs) ∙ ap (flat_map (λ (i : Inner). untrue names i.condition)) h ∙ sym (flat_map-map (untrue names) condition_of (inner_conditions q))))
    ∙ ap (sooner (least own)) (hw ∙ ap (λ o. least (flat_map (untrue names) (option_to_list o))) g)
    ∙ sym (least_of_two (untrue names) (map condition_of (inner_conditions q)) (option_to_list q.cond))

pub untrue_same : (g : GraphEntry) (ks : List (List ℕ × Kind)) (q : Query) → AreKindsOf g ks → flat_map (untrue (scope ks)) (conditions q) ≡ flat_map (λ w. place_if (not (may_be kinds.Bool (kind_of (names_of g) (tree_of w.expr)))) w.at) (conditions q)
untrue_same g ks q h = flat_same (untrue (scope ks)) (λ w. place_if (not (may_be kinds.Bool (kind_of (names_of g) (tree_of w.expr)))) w.at) (λ w. ap (λ k. place_if (not (may_be kinds.Bool k)) w.at) (kind_alike (scope ks) (names_of g) (alike g ks h) (tree_of w.expr))) (conditions q)

pub types_same : (g : GraphEntry) (ks : List (List ℕ × Kind)) (q : Query) → AreKindsOf g ks → flat_map (types_at (scope ks)) (inner q ++ outer q) ≡ flat_map (types_at (names_of g)) (inner q ++ outer q)
types_same g ks q h = flat_same (types_at (scope ks)) (types_at (names_of g)) (types_alike (scope ks) (names_of g) (alike g ks h)) (inner q ++ outer q)

pub wide_same : (g : GraphEntry) (ks : List (List ℕ × Kind)) (q : Query) → AreKindsOf g ks → flat_map (wide_at (scope ks)) (inner q ++ outer q) ≡ flat_map (wide_at (names_of g)) (inner q ++ outer q)
wide_same g ks q h = flat_same (wide_at (scope ks)) (wide_at (names_of g)) (wide_alike (scope ks) (names_of g) (alike g ks h)) (inner q ++ outer q)

-- LIMITS

least_one : (o : Option ℕ) → o ≡ least (option_to_list o)
least_one None = refl
least_one (Some p) = refl

beyond_map : {X : Type 0} (f : X → ℕ) (xs : List X) (n : ℕ) → option_map f (slice_get xs n) ≡ least (beyond n (map f xs))
beyond_map f xs n = least_one (option_map f (slice_get xs n)) ∙ ap (λ o. least (option_to_list o)) (sym (slice_get-map f xs n))

-- the first place in a list and in what comes behind
and_then : (xs ys : List ℕ) (v w : Option ℕ) → v ≡ least xs → w ≡ least ys → sooner v w ≡ least (xs ++ ys)
and_then xs ys v w h g = joined xs ys v w (sooner v w) h g refl

pub limit_is : (q : Query) (known : Known) (ps : List PathPattern) (cs : List ColumnItem) (a b v e n l : Option ℕ) → ps ≡ q.paths → cs ≡ q.columns → known ≡ firsts_after [] (mentions_of q)
    → a ≡ option_map (λ p. p.at) (slice_get ps 8) → b ≡ option_map (λ c. c.expr.at) (slice_get cs 32) → v ≡ option_map (λ m. m.1.variable.at) (slice_get known 32)
    → e ≡ least (flat_map crowded_path ps) → n ≡ least (flat_map large_path ps) → l ≡ least (flat_map long_path ps)
    → sooner a (sooner b (sooner v (sooner e (sooner n l)))) ≡ least (limit q)
limit_is q known ps cs a b v e n l hp hc hk ha hb hv he hn hl =
    let paths = beyond 8 (map (λ (p : PathPattern). p.at) q.paths) in
    let columns = beyond 32 (map (λ (c : ColumnItem). c.expr.at) q.columns) in
    let names = beyond 32 (map (λ (m : Name). m.at) (variables_of q)) in
    let edges = flat_map fourth_edge (parts_of q) in
    let numbers = flat_map (λ p. flat_map large (quants_in p)) q.paths in
    let lengths = flat_map long_path q.paths in
    and_then paths (columns ++ (names ++ (edges ++ (numbers ++ lengths)))) a (sooner b (sooner v (sooner e (sooner n l))))
    (ha ∙ ap (λ (xs : List PathPattern). option_map (λ p. p.at) (slice_get xs 8)) hp ∙ beyond_map (λ (p : PathPattern). p.at) q.paths 8)
    (and_then columns (names ++ (edges ++ (numbers ++ lengths))) b (sooner v (sooner e (sooner n l)))
    (hb ∙ ap (λ (xs : List ColumnItem). option_map (λ c. c.expr.at) (slice_get xs 32)) hc ∙ beyond_map (λ (c : ColumnItem). c.expr.at) q.columns 32)
    (and_then names (edges ++ (numbers ++ lengths)) v (sooner e (sooner n l))
    (hv ∙ ap (λ (k : Known). option_map (λ m. m.1.variable.at) (slice_get k 32)) hk ∙ place_known q 32 ∙ least_one (slice_get (map (λ (m : Name). m.at) (variables_of q)) 32))
    (and_then edges (numbers ++ lengths) e (sooner n l)
    (he ∙ ap (λ xs. least (flat_map crowded_path xs)) hp ∙ ap least (sym (flat_nested fourth_edge (λ (p : PathPattern). p.parts) q.paths)))
    (and_then numbers lengths n l
    (hn ∙ ap (λ xs. least (flat_map large_path xs)) hp ∙ ap least (large_same q.paths))
    (hl ∙ ap (λ xs. least (flat_map long_path xs)) hp)))))
