-- The names that one pass over the labels of a graph collects are those of its properties.
use Rattle.std.proofs.Common.{◌≡◌, ℕ, refl, ap, sym, ◌∙◌, Bool, true, false, cond, List, [], ◌∷◌, ◌++◌, ◌||◌, map, Option, Some, None, append_assoc, ◌+◌, ◌<◌, length, get_or, drop}
use Rattle.std.specs.Prelude.{is_some}
use Rattle.std.specs.List.{list_any, flat_map, find}
use Rattle.std.specs.Option.{option_map}
use Rattle.std.specs.Str.{bytes_eq}
use Rattle.std.proofs.lemmas.List.Folds.{list_any-append, flat_map-map}
use Rattle.pg_rules.specs.declared.entry.PropertyEntry.{PropertyEntry}
use Rattle.pg_rules.specs.declared.entry.LabelEntry.{LabelEntry}
use Rattle.pg_rules.specs.declared.entry.EdgeEntry.{EdgeEntry}
use Rattle.pg_rules.specs.declared.entry.ElementEntry.{ElementEntry}
use Rattle.pg_rules.specs.declared.entry.GraphEntry.{GraphEntry}
use Rattle.pg_rules.specs.Definitions.Tables.{member}
use Rattle.pg_rules.specs.Definitions.Graphs.{Row, rows, rows_of}
use Rattle.pg_rules.specs.Catalog.GraphLookUps.{elements_in, property_in}
use Rattle.pg_catalog.specs.NameSets.{add, add_all}
use Rattle.pg_catalog.specs.PropertyNames.{AreNamesOf, listed, under_label, of_element, of_edge}
use Rattle.pg_catalog.proofs.NameSets.{member_all}
use Rattle.pg_catalog.proofs.Loops.{drop_at}

pub added_more : (seen xs ys : List (List ℕ)) → add_all (add_all seen xs) ys ≡ add_all seen (xs ++ ys)
added_more seen [] ys = refl
added_more seen (x ∷ xs) ys = added_more (add seen x) xs ys

found_if : {X : Type 0} (b : Bool) (x : X) (o : Option X) (a : Bool) → is_some o ≡ a → is_some (cond b (Some x) o) ≡ (b || a)
found_if true x o a h = refl
found_if false x o a h = h

some_found : {X : Type 0} (test : X → Bool) (xs : List X) → is_some (find test xs) ≡ list_any test xs
some_found test [] = refl
some_found test (x ∷ xs) = found_if (test x) x (find test xs) (list_any test xs) (some_found test xs)

some_mapped : {X Y : Type 0} (f : X → Y) (o : Option X) → is_some (option_map f o) ≡ is_some o
some_mapped f None = refl
some_mapped f (Some x) = refl

abbrev named : List ℕ → Row → Bool
named name r = bytes_eq name r.property.name

in_list : (name label : List ℕ) (ps : List PropertyEntry) → member name (listed ps) ≡ list_any (named name) (map (λ p. record { label = label; property = p }) ps)
in_list name label [] = refl
in_list name label (p ∷ ps) = ap (λ b. bytes_eq name p.name || b) (in_list name label ps)

in_labels : (name : List ℕ) (ls : List LabelEntry) → member name (flat_map under_label ls) ≡ list_any (named name) (flat_map rows_of ls)
in_labels name [] = refl
in_labels name (l ∷ ls) =
    list_any-append (bytes_eq name) (under_label l) (flat_map under_label ls)
    ∙ ap (λ b. b || member name (flat_map under_label ls)) (in_list name l.name l.properties)
    ∙ ap (λ b. list_any (named name) (rows_of l) || b) (in_labels name ls)
    ∙ sym (list_any-append (named name) (rows_of l) (flat_map rows_of ls))

in_element : (name : List ℕ) (e : ElementEntry) → member name (of_element e) ≡ is_some (property_in (Some e) name)
in_element name e =
    in_labels name e.labels
    ∙ sym (some_found (named name) (rows e))
    ∙ sym (some_mapped (λ (r : Row). r.property.column) (find (named name) (rows e)))

in_elements : (name : List ℕ) (es : List ElementEntry) → member name (flat_map of_element es) ≡ list_any (λ e. is_some (property_in (Some e) name)) es
in_elements name [] = refl
in_elements name (e ∷ es) =
    list_any-append (bytes_eq name) (of_element e) (flat_map of_element es)
    ∙ ap (λ b. b || member name (flat_map of_element es)) (in_element name e)
    ∙ ap (λ b. is_some (property_in (Some e) name) || b) (in_elements name es)

of_both : (xs ys : List ElementEntry) → flat_map of_element (xs ++ ys) ≡ flat_map of_element xs ++ flat_map of_element ys
of_both [] ys = refl
of_both (x ∷ xs) ys = ap (λ l. of_element x ++ l) (of_both xs ys) ∙ sym (append_assoc (of_element x) (flat_map of_element xs) (flat_map of_element ys))

-- what two passes collect, over the vertex tables and then over the edge tables
pub collected : (g : GraphEntry) (vs all : List (List ℕ)) → vs ≡ add_all [] (flat_map of_element g.vertices) → all ≡ add_all vs (flat_map of_edge g.edges) → AreNamesOf g all
collected g vs all first second name =
    let edges = map (λ (e : EdgeEntry). e.element) g.edges in
    let own = flat_map of_element g.vertices in
    let joined : all ≡ add_all [] (flat_map of_element (elements_in g)) =
    second
    ∙ ap (λ s. add_all s (flat_map of_edge g.edges)) first
    ∙ added_more [] own (flat_map of_edge g.edges)
    ∙ ap (λ l. add_all [] (own ++ l)) (sym (flat_map-map of_element (λ (e : EdgeEntry). e.element) g.edges))
    ∙ ap (add_all []) (sym (of_both g.vertices edges)) in
    ap (member name) joined
    ∙ member_all name (flat_map of_element (elements_in g)) []
    ∙ in_elements name (elements_in g)

-- one turn of a loop that collects names
pub next_added : {X : Type 0} (f : X → List (List ℕ)) (seen next total : List (List ℕ)) (xs : List X) (i : ℕ) (x : X) → i < length xs → x ≡ get_or xs i x → next ≡ add_all seen (f x) → add_all seen (flat_map f (drop i xs)) ≡ total → add_all next (flat_map f (drop (i + 1) xs)) ≡ total
next_added f seen next total xs i x inside is n so_far =
    ap (λ s. add_all s (flat_map f (drop (i + 1) xs))) n
    ∙ added_more seen (f x) (flat_map f (drop (i + 1) xs))
    ∙ sym (ap (λ l. add_all seen (flat_map f l)) (drop_at xs i x inside is))
    ∙ so_far
