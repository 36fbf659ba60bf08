-- The tree that is built of a query that is not refused is its checked tree.
use Rattle.std.proofs.Common.{◌≡◌, ◌≤◌, ℕ, refl, ap, sym, ◌∙◌, subst, Bool, true, false, not, ◌&&◌, List, [], ◌∷◌, ◌++◌, map, length, Option, Some, None, zero, suc, arith}
use Rattle.std.specs.Prelude.{option_map, nat_lt, option_to_list, is_none, find}
use Rattle.std.specs.List.{flat_map}
use Rattle.std.specs.Option.{unwrap_or}
use Rattle.pg_value.specs.declared.shape.GraphNo.{GraphNo}
use Rattle.pg_value.specs.declared.value.Kind.{Kind}
use Rattle.pg_ast.specs.declared.expr.Name.{Name}
use Rattle.pg_ast.specs.declared.pattern.ColumnItem.{ColumnItem}
use Rattle.pg_ast.specs.declared.pattern.Query.{Query}
use Rattle.pg_ast.specs.Trees.{ExprTree, tree_of, Literal, Wide, ColumnOf, PropertyOf, One, Two, Group, Counted}
use Rattle.pg_meaning.specs.declared.checked.CheckedColumn.{CheckedColumn}
use Rattle.pg_meaning.specs.Typing.{Names, kind_of, width_of, too_wide, unary_width, binary_width, agg_width, typed, bits_of, width_named}
use Rattle.pg_meaning.specs.Mentions.{Mention, first_mentions}
use Rattle.pg_rules.specs.Catalog.{Defined}
use Rattle.pg_rules.specs.Catalog.LookUps.{graph_at, graph_number}
use Rattle.pg_rules.specs.Catalog.GraphLookUps.{graph_numbered}
use Rattle.pg_rules.specs.declared.entry.GraphEntry.{GraphEntry}
use Rattle.pg_rules.specs.declared.fault.QueryFault.{QueryFault}
use Rattle.pg_rules.specs.declared.fault.QueryFault.TheVariants as faults
use Rattle.pg_rules.specs.ExprFaults.{wide_at}
use Rattle.pg_rules.specs.Places.{place_if}
use Rattle.pg_rules.specs.Queries.{HasNoPlace, graph_of, entry_of, names_of, wide, limit, beyond}
use Rattle.pg_rules.specs.Queries.{fourth_edge, large, quants_in}
use Rattle.pg_rules.specs.Queries.Collections.{inner, outer, mentions_of, variables_of, same_name, parts_of, outlines}
use Rattle.pg_meaning.specs.Outlines.{length_number}
use Rattle.pg_meaning.specs.declared.checked.CheckedQuery.{CheckedQuery}
use Rattle.pg_ast.specs.declared.expr.Whole.{Whole}
use Rattle.pg_ast.specs.declared.pattern.PathPattern.{PathPattern}
use Rattle.pg_value.specs.declared.value.Kind.TheVariants as kinds
use Rattle.pg_rules.specs.Definitions.Graphs.{Row, rows}
use Rattle.pg_rules.specs.Catalog.GraphLookUps.{elements_in, graph_shape}
use Rattle.std.specs.Str.{bytes_eq}
use Rattle.std.proofs.lemmas.Grind.{flat_map-append}
use Rattle.pg_check.proofs.Caps.{below}
use Rattle.pg_rules.specs.Queries.CheckedQueries.{checked_query, checked_column, checked_path, checked_condition, checked_tree}
use Rattle.pg_catalog.specs.PropertyKinds.{AreKindsOf}
use Rattle.pg_check.specs.Gathered.{firsts_after}
use Rattle.pg_check.specs.Scopes.{scope, capped}
use Rattle.pg_check.specs.UsePlaces.{Known}
use Rattle.pg_check.specs.Resolved.{names_in, Fits, capped_column, capped_columns, built, IsFault}
use Rattle.pg_check.proofs.VariableLaws.{known_of, entry, map_twice, entry_keys, as_long}
use Rattle.pg_check.proofs.ScopeLaws.{alike, kind_alike, width_alike}

-- KINDS OF THE GRAPH

column_alike : (d : Defined) (g : GraphNo) (vs : List Name) (f h : Names) → ((x : ExprTree) → kind_of f x ≡ kind_of h x) → ((x : ExprTree) → width_of f x ≡ width_of h x) → (c : ColumnItem) → capped_column d g vs f c ≡ capped_column d g vs h c
column_alike d g vs f h k w c =
    let x = tree_of c.expr.expr in
    let column : Option Kind → ℕ → CheckedColumn = λ kind width. record { expr = checked_tree d g vs x; name = c.name.text; kind = kind; width = width } in
    ap (λ o. column o (capped (width_of f x))) (k x) ∙ ap (λ n. column (kind_of h x) (capped n)) (w x)

map_same : {X Y : Type 0} (f g : X → Y) → ((x : X) → f x ≡ g x) → (xs : List X) → map f xs ≡ map g xs
map_same f g h [] = refl
map_same f g h (x ∷ xs) = ap (λ y. y ∷ map f xs) (h x) ∙ ap (λ l. g x ∷ l) (map_same f g h xs)

pub columns_alike : (d : Defined) (g : GraphNo) (known : Known) (ks : List (List ℕ × Kind)) (cs : List ColumnItem) → AreKindsOf (graph_numbered d.1 g) ks → map (capped_column d g (names_in known) (scope ks)) cs ≡ capped_columns d g known (names_of (graph_numbered d.1 g)) cs
columns_alike d g known ks cs h =
    let e = graph_numbered d.1 g in
    map_same (capped_column d g (names_in known) (scope ks)) (capped_column d g (names_in known) (names_of e)) (column_alike d g (names_in known) (scope ks) (names_of e) (kind_alike (scope ks) (names_of e) (alike e ks h)) (width_alike (scope ks) (names_of e) (alike e ks h))) cs

-- LISTS THAT ARE EMPTY

none_left : {X : Type 0} (xs ys : List X) → xs ++ ys ≡ [] → xs ≡ []
none_left [] ys h = refl
none_left (x ∷ xs) ys h = cc

none_right : {X : Type 0} (xs ys : List X) → xs ++ ys ≡ [] → ys ≡ []
none_right [] ys h = h
none_right (x ∷ xs) ys h = cc

not_beyond : (n : ℕ) (ps : List ℕ) → beyond n ps ≡ [] → length ps ≤ n
not_beyond n [] h = omega arith
not_beyond zero (p ∷ ps) h = cc
not_beyond (suc n) (p ∷ ps) h = let r = not_beyond n ps h in omega arith

-- WIDTHS

no_place : (b : Bool) (at : ℕ) → place_if b at ≡ [] → b ≡ false
no_place true at h = cc
no_place false at h = refl

not_over : (a b : Bool) → (a && not b) ≡ false → b ≡ false → a ≡ false
not_over a true h g = cc
not_over true false h g = cc
not_over false false h g = refl

not_over_two : (a b c : Bool) → (a && (not b && not c)) ≡ false → b ≡ false → c ≡ false → a ≡ false
not_over_two a true c h g e = cc
not_over_two a false true h g e = cc
not_over_two true false false h g e = cc
not_over_two false false false h g e = refl

narrow_kind : (k : Kind) → too_wide (bits_of k) ≡ false
narrow_kind kinds.Int = refl
narrow_kind kinds.Text = refl
narrow_kind kinds.Bool = refl

narrow_found : (o : Option Row) → too_wide (width_named (option_map (λ r. typed r.property.kind) o)) ≡ false
narrow_found None = refl
narrow_found (Some r) = narrow_kind r.property.kind

-- what has no place that is too wide is not too wide
not_wide : (g : GraphEntry) (x : ExprTree) → wide_at (names_of g) x ≡ [] → too_wide (width_of (names_of g) x) ≡ false
not_wide g (Literal v bits at) h = no_place (too_wide bits) at h
not_wide g (Wide at) h = cc
not_wide g (ColumnOf n) h = refl
not_wide g (PropertyOf v n) h = narrow_found (find (λ (r : Row). bytes_eq n.text r.property.name) (flat_map rows (elements_in g)))
not_wide g (One op x at) h =
    let own = too_wide (unary_width op (width_of (names_of g) x)) && not (too_wide (width_of (names_of g) x)) in
    not_over (too_wide (unary_width op (width_of (names_of g) x))) (too_wide (width_of (names_of g) x)) (no_place own at (none_left (place_if own at) (wide_at (names_of g) x) h)) (not_wide g x (none_right (place_if own at) (wide_at (names_of g) x) h))
not_wide g (Two op x y at) h =
    let v = width_of (names_of g) x in
    let w = width_of (names_of g) y in
    let own = too_wide (binary_width op v w) && (not (too_wide v) && not (too_wide w)) in
    let rest = none_right (place_if own at) (wide_at (names_of g) x ++ wide_at (names_of g) y) h in
    not_over_two (too_wide (binary_width op v w)) (too_wide v) (too_wide w) (no_place own at (none_left (place_if own at) (wide_at (names_of g) x ++ wide_at (names_of g) y) h))
    (not_wide g x (none_left (wide_at (names_of g) x) (wide_at (names_of g) y) rest)) (not_wide g y (none_right (wide_at (names_of g) x) (wide_at (names_of g) y) rest))
not_wide g (Group agg x at) h =
    let own = too_wide (agg_width agg (width_of (names_of g) x)) && not (too_wide (width_of (names_of g) x)) in
    not_over (too_wide (agg_width agg (width_of (names_of g) x))) (too_wide (width_of (names_of g) x)) (no_place own at (none_left (place_if own at) (wide_at (names_of g) x) h)) (not_wide g x (none_right (place_if own at) (wide_at (names_of g) x) h))
not_wide g (Counted v at) h = refl

exact_column : (d : Defined) (g : GraphNo) (vs : List Name) (e : GraphEntry) (c : ColumnItem) → wide_at (names_of e) (tree_of c.expr.expr) ≡ [] → capped_column d g vs (names_of e) c ≡ checked_column d g vs (names_of e) c
exact_column d g vs e c h =
    let x = tree_of c.expr.expr in
    ap (λ (n : ℕ). record { expr = checked_tree d g vs x; name = c.name.text; kind = kind_of (names_of e) x; width = n }) (below (width_of (names_of e) x) (not_wide e x h))

exact_columns : (d : Defined) (g : GraphNo) (vs : List Name) (e : GraphEntry) (cs : List ColumnItem) → flat_map (wide_at (names_of e)) (map (λ c. tree_of c.expr.expr) cs) ≡ [] → map (capped_column d g vs (names_of e)) cs ≡ map (checked_column d g vs (names_of e)) cs
exact_columns d g vs e [] h = refl
exact_columns d g vs e (c ∷ cs) h =
    let own = wide_at (names_of e) (tree_of c.expr.expr) in
    let rest = flat_map (wide_at (names_of e)) (map (λ (i : ColumnItem). tree_of i.expr.expr) cs) in
    ap (λ l. l ∷ map (capped_column d g vs (names_of e)) cs) (exact_column d g vs e c (none_left own rest h))
    ∙ ap (λ l. checked_column d g vs (names_of e) c ∷ l) (exact_columns d g vs e cs (none_right own rest h))

columns_narrow : (e : GraphEntry) (q : Query) → wide e q ≡ [] → flat_map (wide_at (names_of e)) (map (λ c. tree_of c.expr.expr) q.columns) ≡ []
columns_narrow e q h =
    let f = wide_at (names_of e) in
    let ends = map (λ (w : Whole). tree_of w.expr) (option_to_list q.cond) in
    let columns = map (λ (i : ColumnItem). tree_of i.expr.expr) q.columns in
    none_right (flat_map f ends) (flat_map f columns) (sym (flat_map-append f ends columns) ∙ none_right (flat_map f (inner q)) (flat_map f (outer q)) (sym (flat_map-append f (inner q) (outer q)) ∙ h))

-- VARIABLES

names_are : (q : Query) → names_in (firsts_after [] (mentions_of q)) ≡ variables_of q
names_are q = ap (map (λ e. e.1.variable)) (known_of (mentions_of q)) ∙ map_twice (λ (e : List ℕ × Mention Name). e.1.variable) entry (first_mentions same_name (mentions_of q))

how_many : (q : Query) → length (firsts_after [] (mentions_of q)) ≡ length (variables_of q)
how_many q = sym (as_long (λ (e : List ℕ × Mention Name). e.1.variable) (firsts_after [] (mentions_of q))) ∙ ap length (names_are q)

few_variables : (q : Query) → limit q ≡ [] → length (variables_of q) ≤ 32
few_variables q h =
    let paths = beyond 8 (map (λ (p : PathPattern). p.at) q.paths) in
    let columns = beyond 32 (map (λ (c : ColumnItem). c.expr.at) q.columns) in
    let names = beyond 32 (map (λ (m : Name). m.at) (variables_of q)) in
    let rest = flat_map fourth_edge (parts_of q) ++ (flat_map (λ p. flat_map large (quants_in p)) q.paths ++ flat_map (λ p. place_if (nat_lt 1000 (length_number (outlines p))) p.at) q.paths) in
    let few = not_beyond 32 (map (λ (m : Name). m.at) (variables_of q)) (none_left names rest (none_right columns (names ++ rest) (none_right paths (columns ++ (names ++ rest)) h))) in
    subst (λ n. n ≤ 32) (as_long (λ (m : Name). m.at) (variables_of q)) few

pub fits_all : (d : Defined) (q : Query) → HasNoPlace d q → Fits (firsts_after [] (mentions_of q))
fits_all d q p = record { keys = entry_keys (mentions_of q); few = subst (λ n. n ≤ 32) (sym (how_many q)) (few_variables q p.limits) }

-- THE WHOLE

graph_is : (d : Defined) (q : Query) (g : GraphNo) → Some g ≡ option_map graph_number (graph_at d q.graph.text) → g ≡ graph_of d q
graph_is d q g h = go (graph_at d q.graph.text) h
  where
    go : (o : Option ℕ) → Some g ≡ option_map graph_number o → g ≡ graph_number (unwrap_or o 0)
    go None e = cc
    go (Some n) e = ap (λ o. unwrap_or o g) e

pub built_is : (d : Defined) (q : Query) (g : GraphNo) (known : Known) → HasNoPlace d q → Some g ≡ option_map graph_number (graph_at d q.graph.text) → known ≡ firsts_after [] (mentions_of q) → built d g known (names_of (graph_numbered d.1 g)) q ≡ checked_query d q
built_is d q g known p hg hk =
    let firsts = firsts_after [] (mentions_of q) in
    let here = graph_of d q in
    let names = names_of (entry_of d q) in
    let make : List Name → List CheckedColumn → ℕ → CheckedQuery = λ vs columns n. record { graph = graph_shape d here; paths = map (checked_path d here vs) q.paths; cond = checked_condition d here vs q.cond; columns = columns; vars = n } in
    ap (λ k. built d g k (names_of (graph_numbered d.1 g)) q) hk
    ∙ ap (λ h. built d h firsts (names_of (graph_numbered d.1 h)) q) (graph_is d q g hg)
    ∙ ap (λ vs. make vs (map (capped_column d here vs names) q.columns) (length firsts)) (names_are q)
    ∙ ap (λ n. make (variables_of q) (map (capped_column d here (variables_of q) names) q.columns) n) (how_many q)
    ∙ ap (λ columns. make (variables_of q) columns (length (variables_of q))) (exact_columns d here (variables_of q) (entry_of d q) q.columns (columns_narrow (entry_of d q) q p.widths))

-- a graph that does not exist is a fault
pub graph_there : (d : Defined) (q : Query) → HasNoPlace d q → None ≡ option_map graph_number (graph_at d q.graph.text) → ⊥
graph_there d q p h = go (graph_at d q.graph.text) h p.graph
  where
    go : (o : Option ℕ) → None ≡ option_map graph_number o → place_if (is_none o) q.graph.at ≡ [] → ⊥
    go None e f = cc
    go (Some n) e f = cc

pub fault_is : (o : Option QueryFault) (f : QueryFault) → Some f ≡ o → IsFault o f
fault_is o faults.Memory h = tt
fault_is o (faults.NoGraph at) h = sym h
fault_is o (faults.NoLabel at) h = sym h
fault_is o (faults.NoProperty at) h = sym h
fault_is o (faults.Unbounded at) h = sym h
fault_is o (faults.Bounds at) h = sym h
fault_is o (faults.BadVariable at) h = sym h
fault_is o (faults.GroupUse at) h = sym h
fault_is o (faults.Types at) h = sym h
fault_is o (faults.Wide at) h = sym h
fault_is o (faults.Limit at) h = sym h
