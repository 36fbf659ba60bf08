-- The places that the passes find are those of the rules.
use Rattle.std.proofs.Common.{◌≡◌, ℕ, refl, ap, sym, ◌∙◌, Bool, not, ◌&&◌, ◌||◌, List, [], ◌∷◌, ◌++◌, map, Option, Some, None, Bor, zero, suc, ◌==◌}
use Rattle.std.specs.Prelude.{slice_get, option_map, is_none}
use Rattle.std.specs.List.{flat_map}
use Rattle.std.proofs.lemmas.List.Folds.{flat_map-map}
use Rattle.pg_ast.specs.declared.expr.Name.{Name}
use Rattle.pg_ast.specs.declared.expr.Expr.{Expr}
use Rattle.pg_ast.specs.declared.pattern.Filler.{Filler}
use Rattle.pg_ast.specs.declared.pattern.Part.{Part}
use Rattle.pg_ast.specs.declared.pattern.PathPattern.{PathPattern}
use Rattle.pg_ast.specs.declared.pattern.Query.{Query}
use Rattle.pg_ast.specs.Trees.{ExprTree, tree_of}
use Rattle.pg_meaning.specs.Mentions.{Mention, clash, same_sort, leaves_part}
use Rattle.pg_rules.specs.declared.entry.GraphEntry.{GraphEntry}
use Rattle.std.specs.Option.{unwrap_or}
use Rattle.pg_value.specs.declared.shape.GraphNo.{GraphNo}
use Rattle.pg_rules.specs.Catalog.{Defined}
use Rattle.pg_rules.specs.Catalog.LookUps.{graph_at, graph_number}
use Rattle.pg_rules.specs.Catalog.GraphLookUps.{graph_numbered}
use Rattle.pg_rules.specs.declared.fault.QueryFault.TheVariants as faults
use Rattle.pg_rules.specs.Queries.{query_fault}
use Rattle.pg_check.specs.Judgement.{labels_fault}
use Rattle.pg_rules.specs.Places.{least, sooner, place_if, fault_at}
use Rattle.pg_rules.specs.Queries as rules
use Rattle.pg_rules.specs.Queries.{has_label, labels_of, is_strict, walks_on_in, later_of, is_among}
use Rattle.pg_rules.specs.Queries.Collections.{Inner, inner, outer, uses, fillers_of, parts_of, inner_conditions, same_name, mentions_of}
use Rattle.pg_catalog.specs.PropertyKinds.{AreLabelsOf}
use Rattle.pg_check.specs.declared.gather.InnerCondition.{InnerCondition}
use Rattle.pg_check.specs.Passes.{unlabelled, unlabelled_in, unlabelled_part, inner_view, path_walks}
use Rattle.pg_check.specs.UsePlaces.{stray, strays_in}
use Rattle.pg_check.specs.Clashes.{is_strict_in, is_yes, late_after}
use Rattle.pg_check.specs.Judgement.{AreOf, trees}
use Rattle.pg_check.proofs.Loops.{flat_same}
use Rattle.pg_check.proofs.Names.{least_of_two}
use Rattle.pg_check.proofs.QuantLaws.{walks_same}
use Rattle.pg_check.proofs.UseLaws.{one_expr}
use Rattle.pg_check.proofs.ClashLaws.{first_late}

-- LABELS

label_one : (g : GraphEntry) (names : List (List ℕ)) → AreLabelsOf g names → (n : Name) → unlabelled names n ≡ place_if (not (has_label g n.text)) n.at
label_one g names h n = ap (λ b. place_if (not b) n.at) (h n.text)

label_filler : (g : GraphEntry) (names : List (List ℕ)) → AreLabelsOf g names → (f : Filler) → unlabelled_in names f ≡ flat_map (λ n. place_if (not (has_label g n.text)) n.at) (labels_of f)
label_filler g names h f = flat_same (unlabelled names) (λ n. place_if (not (has_label g n.text)) n.at) (label_one g names h) (labels_of f)

label_part : (g : GraphEntry) (names : List (List ℕ)) → AreLabelsOf g names → (p : Part) → unlabelled_part names p ≡ flat_map (λ f. flat_map (λ n. place_if (not (has_label g n.text)) n.at) (labels_of f)) (fillers_of p)
label_part g names h p = flat_same (unlabelled_in names) (λ f. flat_map (λ n. place_if (not (has_label g n.text)) n.at) (labels_of f)) (label_filler g names h) (fillers_of p)

pub labels_same : (g : GraphEntry) (names : List (List ℕ)) (q : Query) → AreLabelsOf g names → flat_map (unlabelled_part names) (parts_of q) ≡ rules.no_label g q
labels_same g names q h = flat_same (unlabelled_part names) (λ part. flat_map (λ f. flat_map (λ n. place_if (not (has_label g n.text)) n.at) (labels_of f)) (fillers_of part)) (label_part g names h) (parts_of q)

-- EXPRESSIONS

pub over : (h : ExprTree → List ℕ) (es : List (Bor Expr)) (xs : List ExprTree) → trees es ≡ xs → flat_map (λ e. h (tree_of e.now)) es ≡ flat_map h xs
over h es xs e = sym (flat_map-map h (λ (b : Bor Expr). tree_of b.now) es) ∙ ap (flat_map h) e

pub over_both : (h : ExprTree → List ℕ) (q : Query) (is os : List (Bor Expr)) (v w r : Option ℕ) → AreOf q is os → v ≡ least (flat_map (λ e. h (tree_of e.now)) is) → w ≡ least (flat_map (λ e. h (tree_of e.now)) os) → r ≡ sooner v w → r ≡ least (flat_map h (inner q ++ outer q))
over_both h q is os v w r are hv hw hr =
    hr
    ∙ ap (λ o. sooner o w) (hv ∙ ap least (over h is (inner q) are.inner_are))
    ∙ ap (sooner (least (flat_map h (inner q)))) (hw ∙ ap least (over h os (outer q) are.outer_are))
    ∙ sym (least_of_two h (inner q) (outer q))

-- CONDITIONS

strays_one : (i : Inner) → strays_in i ≡ flat_map (λ u. place_if (not (is_among i.own u.variable)) u.variable.at) (uses (tree_of i.condition.expr))
strays_one i = one_expr (stray i.own) (λ u. place_if (not (is_among i.own u.variable)) u.variable.at) (λ u. refl) (tree_of i.condition.expr)

pub foreign_same : (q : Query) (cs : List InnerCondition) → map inner_view cs ≡ inner_conditions q → flat_map (λ i. strays_in (inner_view i)) cs ≡ rules.foreign q
foreign_same q cs h =
    sym (flat_map-map strays_in inner_view cs)
    ∙ ap (flat_map strays_in) h
    ∙ flat_same strays_in (λ i. flat_map (λ u. place_if (not (is_among i.own u.variable)) u.variable.at) (uses (tree_of i.condition.expr))) strays_one (inner_conditions q)

-- CLASHES

strict_at : (ps : List PathPattern) (i : ℕ) → is_yes (slice_get (map path_walks ps) i) ≡ walks_on_in (slice_get ps i)
strict_at [] i = refl
strict_at (p ∷ ps) zero = sym (walks_same p)
strict_at (p ∷ ps) (suc i) = strict_at ps i

later_same : (f g : ℕ → Bool) → ((i : ℕ) → f i ≡ g i) → (ms : List (Mention Name)) → later_of (clash same_name f) ms ≡ later_of (clash same_name g) ms
later_same f g h [] = refl
later_same f g h (m ∷ ms) =
    ap (λ l. l ++ later_of (clash same_name f) ms) (flat_same (λ n. place_if (clash same_name f m n) n.variable.at) (λ n. place_if (clash same_name g m n) n.variable.at) (λ n. ap (λ b. place_if (same_name m.variable n.variable && (not (same_sort m.edge n.edge) || (leaves_part m n || (b && ((m.path == n.path) && not (m.end && n.end)))))) n.variable.at) (h m.path)) ms)
    ∙ ap (λ l. flat_map (λ n. place_if (clash same_name g m n) n.variable.at) ms ++ l) (later_same f g h ms)

pub clash_same : (q : Query) (walks : List Bool) (ms : List (Mention Name)) → ms ≡ mentions_of q → walks ≡ map path_walks q.paths → least (late_after (is_strict_in walks) [] [] ms) ≡ least (later_of (clash same_name (is_strict q)) (mentions_of q))
clash_same q walks ms h g =
    first_late (is_strict_in walks) ms
    ∙ ap (λ l. least (later_of (clash same_name (is_strict_in walks)) l)) h
    ∙ ap least (later_same (is_strict_in walks) (is_strict q) (λ i. ap (λ w. is_yes (slice_get w i)) g ∙ strict_at q.paths i) (mentions_of q))

-- THE GRAPH

pub past_graph : (d : Defined) (q : Query) (g : GraphNo) → Some g ≡ option_map graph_number (graph_at d q.graph.text) → labels_fault (graph_numbered d.1 g) q ≡ query_fault d q
past_graph d q g h = go (graph_at d q.graph.text) h
  where
    go : (o : Option ℕ) → Some g ≡ option_map graph_number o → labels_fault (graph_numbered d.1 g) q ≡ fault_at faults.NoGraph (least (place_if (is_none o) q.graph.at)) (labels_fault (graph_numbered d.1 (graph_number (unwrap_or o 0))) q)
    go None e = cc
    go (Some n) e = ap (λ o. labels_fault (graph_numbered d.1 (unwrap_or o g)) q) e
