-- The kinds that one pass over the properties of a graph collects, and the names that one over its labels does.
use Rattle.std.proofs.Common.{◌≡◌, ℕ, refl, ap, sym, ◌∙◌, Bool, true, false, cond, List, [], ◌∷◌, ◌++◌, ◌||◌, map, Option, Some, None, append_assoc, ◌+◌, ◌<◌, length, get_or, drop, subst}
use Rattle.std.specs.Prelude.{is_some}
use Rattle.std.specs.List.{list_any, flat_map, find}
use Rattle.std.specs.Map.{lookup}
use Rattle.std.specs.Option.{option_map}
use Rattle.std.specs.Str.{bytes_eq}
use Rattle.std.specs.Cmp.Lexicographic.{bytes_decides}
use Rattle.std.proofs.lemmas.List.Folds.{list_any-append, flat_map-map}
use Rattle.pg_value.specs.declared.value.Kind.{Kind}
use Rattle.pg_rules.specs.declared.entry.PropertyEntry.{PropertyEntry}
use Rattle.pg_rules.specs.declared.entry.LabelEntry.{LabelEntry}
use Rattle.pg_rules.specs.declared.entry.EdgeEntry.{EdgeEntry}
use Rattle.pg_rules.specs.declared.entry.ElementEntry.{ElementEntry}
use Rattle.pg_rules.specs.declared.entry.GraphEntry.{GraphEntry}
use Rattle.pg_rules.specs.Definitions.Tables.{member}
use Rattle.pg_rules.specs.Definitions.Graphs.{Row, rows, rows_of, labels_in}
use Rattle.pg_rules.specs.Catalog.GraphLookUps.{elements_in}
use Rattle.pg_catalog.specs.NameSets.{add, add_all}
use Rattle.pg_catalog.specs.PropertyKinds.{AreLabelsOf, AreKindsOf, add_kind, add_last, kinds_after, edge_labels, under_label, of_element, of_edge}
use Rattle.pg_catalog.proofs.NameSets.{member_all}
use Rattle.pg_catalog.proofs.GraphNames.{added_more}
use Rattle.pg_catalog.proofs.Loops.{drop_at}

-- LABELS

members : (name : List ℕ) (es : List ElementEntry) → member name (flat_map labels_in es) ≡ list_any (λ e. member name (labels_in e)) es
members name [] = refl
members name (e ∷ es) =
    list_any-append (bytes_eq name) (labels_in e) (flat_map labels_in es)
    ∙ ap (λ b. member name (labels_in e) || b) (members name es)

labels_of_both : (xs ys : List ElementEntry) → flat_map labels_in (xs ++ ys) ≡ flat_map labels_in xs ++ flat_map labels_in ys
labels_of_both [] ys = refl
labels_of_both (x ∷ xs) ys = ap (λ l. labels_in x ++ l) (labels_of_both xs ys) ∙ sym (append_assoc (labels_in x) (flat_map labels_in xs) (flat_map labels_in ys))

pub labels_collected : (g : GraphEntry) (vs all : List (List ℕ)) → vs ≡ add_all [] (flat_map labels_in g.vertices) → all ≡ add_all vs (flat_map edge_labels g.edges) → AreLabelsOf g all
labels_collected g vs all first second name =
    let edges = map (λ (e : EdgeEntry). e.element) g.edges in
    let own = flat_map labels_in g.vertices in
    let joined : all ≡ add_all [] (flat_map labels_in (elements_in g)) =
    second
    ∙ ap (λ s. add_all s (flat_map edge_labels g.edges)) first
    ∙ added_more [] own (flat_map edge_labels g.edges)
    ∙ ap (λ l. add_all [] (own ++ l)) (sym (flat_map-map labels_in (λ (e : EdgeEntry). e.element) g.edges))
    ∙ ap (add_all []) (sym (labels_of_both g.vertices edges)) in
    ap (member name) joined
    ∙ member_all name (flat_map labels_in (elements_in g)) []
    ∙ members name (elements_in g)

-- KINDS

abbrev or_else : {X : Type 0} → Option X → Option X → Option X
or_else None o = o
or_else (Some x) o = Some x

or_none : {X : Type 0} (o : Option X) → or_else o None ≡ o
or_none None = refl
or_none (Some x) = refl

or_assoc : {X : Type 0} (a b c : Option X) → or_else (or_else a b) c ≡ or_else a (or_else b c)
or_assoc None b c = refl
or_assoc (Some x) b c = refl

or_some : {X : Type 0} (a b : Option X) → is_some a ≡ true → or_else a b ≡ a
or_some None b h = cc
or_some (Some x) b h = refl

or_if : {X : Type 0} (b : Bool) (x : X) (o p : Option X) → cond b (Some x) (or_else o p) ≡ or_else (cond b (Some x) o) p
or_if true x o p = refl
or_if false x o p = refl

lookup_last : (m n : List ℕ) (k : Kind) (seen : List (List ℕ × Kind)) → lookup (bytes_eq m) (add_last seen n k) ≡ or_else (lookup (bytes_eq m) seen) (cond (bytes_eq m n) (Some k) None)
lookup_last m n k [] = refl
lookup_last m n k (e ∷ es) = ap (λ o. cond (bytes_eq m e.0) (Some e.1) o) (lookup_last m n k es) ∙ or_if (bytes_eq m e.0) e.1 (lookup (bytes_eq m) es) (cond (bytes_eq m n) (Some k) None)

lookup_add : (m n : List ℕ) (k : Kind) (seen : List (List ℕ × Kind)) → lookup (bytes_eq m) (add_kind seen n k) ≡ or_else (lookup (bytes_eq m) seen) (cond (bytes_eq m n) (Some k) None)
lookup_add m n k seen = go (is_some (lookup (bytes_eq n) seen)) refl
  where
    same : (b : Bool) → bytes_eq m n ≡ b → is_some (lookup (bytes_eq n) seen) ≡ true → lookup (bytes_eq m) seen ≡ or_else (lookup (bytes_eq m) seen) (cond b (Some k) None)
    same false e h = sym (or_none (lookup (bytes_eq m) seen))
    same true e h = sym (or_some (lookup (bytes_eq m) seen) (Some k) (subst (λ x. is_some (lookup (bytes_eq x) seen) ≡ true) (sym ((bytes_decides m n).0 e)) h))

    go : (b : Bool) → is_some (lookup (bytes_eq n) seen) ≡ b → lookup (bytes_eq m) (cond b seen (add_last seen n k)) ≡ or_else (lookup (bytes_eq m) seen) (cond (bytes_eq m n) (Some k) None)
    go true h = same (bytes_eq m n) refl h
    go false h = lookup_last m n k seen

abbrev kind_in : List ℕ → List PropertyEntry → Option Kind
kind_in name ps = option_map (λ p. p.kind) (find (λ p. bytes_eq name p.name) ps)

first_or : (b : Bool) (p : PropertyEntry) (o : Option PropertyEntry) → or_else (cond b (Some p.kind) None) (option_map (λ p. p.kind) o) ≡ option_map (λ p. p.kind) (cond b (Some p) o)
first_or true p o = refl
first_or false p o = refl

lookup_after : (name : List ℕ) (ps : List PropertyEntry) (seen : List (List ℕ × Kind)) → lookup (bytes_eq name) (kinds_after seen ps) ≡ or_else (lookup (bytes_eq name) seen) (kind_in name ps)
lookup_after name [] seen = sym (or_none (lookup (bytes_eq name) seen))
lookup_after name (p ∷ ps) seen =
    lookup_after name ps (add_kind seen p.name p.kind)
    ∙ ap (λ o. or_else o (kind_in name ps)) (lookup_add name p.name p.kind seen)
    ∙ or_assoc (lookup (bytes_eq name) seen) (cond (bytes_eq name p.name) (Some p.kind) None) (kind_in name ps)
    ∙ ap (or_else (lookup (bytes_eq name) seen)) (first_or (bytes_eq name p.name) p (find (λ p. bytes_eq name p.name) ps))

abbrev row_kind : List ℕ → List Row → Option Kind
row_kind name rs = option_map (λ r. r.property.kind) (find (λ r. bytes_eq name r.property.name) rs)

abbrev property_of : Row → PropertyEntry
property_of r = r.property

found_if : (b : Bool) (r : Row) (o : Option PropertyEntry) (p : Option Row) → option_map (λ p. p.kind) o ≡ option_map (λ r. r.property.kind) p → option_map (λ p. p.kind) (cond b (Some r.property) o) ≡ option_map (λ r. r.property.kind) (cond b (Some r) p)
found_if true r o p h = refl
found_if false r o p h = h

kinds_mapped : (name : List ℕ) (rs : List Row) → kind_in name (map property_of rs) ≡ row_kind name rs
kinds_mapped name [] = refl
kinds_mapped name (r ∷ rs) = found_if (bytes_eq name r.property.name) r (find (λ p. bytes_eq name p.name) (map property_of rs)) (find (λ r. bytes_eq name r.property.name) rs) (kinds_mapped name rs)

map_both : {X Y : Type 0} (f : X → Y) (xs ys : List X) → map f (xs ++ ys) ≡ map f xs ++ map f ys
map_both f [] ys = refl
map_both f (x ∷ xs) ys = ap (λ l. f x ∷ l) (map_both f xs ys)

label_rows : (label : List ℕ) (ps : List PropertyEntry) → map property_of (map (λ p. record { label = label; property = p }) ps) ≡ ps
label_rows label [] = refl
label_rows label (p ∷ ps) = ap (λ l. p ∷ l) (label_rows label ps)

element_rows : (ls : List LabelEntry) → map property_of (flat_map rows_of ls) ≡ flat_map under_label ls
element_rows [] = refl
element_rows (l ∷ ls) = map_both property_of (rows_of l) (flat_map rows_of ls) ∙ ap (λ r. r ++ map property_of (flat_map rows_of ls)) (label_rows l.name l.properties) ∙ ap (λ r. l.properties ++ r) (element_rows ls)

all_rows : (es : List ElementEntry) → map property_of (flat_map rows es) ≡ flat_map of_element es
all_rows [] = refl
all_rows (e ∷ es) = map_both property_of (rows e) (flat_map rows es) ∙ ap (λ r. r ++ map property_of (flat_map rows es)) (element_rows e.labels) ∙ ap (λ r. of_element e ++ r) (all_rows es)

pub kinds_more : (seen : List (List ℕ × Kind)) (xs ys : List PropertyEntry) → kinds_after (kinds_after seen xs) ys ≡ kinds_after seen (xs ++ ys)
kinds_more seen [] ys = refl
kinds_more seen (x ∷ xs) ys = kinds_more (add_kind seen x.name x.kind) xs ys

elements_of_both : (xs ys : List ElementEntry) → flat_map of_element (xs ++ ys) ≡ flat_map of_element xs ++ flat_map of_element ys
elements_of_both [] ys = refl
elements_of_both (x ∷ xs) ys = ap (λ l. of_element x ++ l) (elements_of_both xs ys) ∙ sym (append_assoc (of_element x) (flat_map of_element xs) (flat_map of_element ys))

pub kinds_collected : (g : GraphEntry) (vs all : List (List ℕ × Kind)) → vs ≡ kinds_after [] (flat_map of_element g.vertices) → all ≡ kinds_after vs (flat_map of_edge g.edges) → AreKindsOf g all
kinds_collected g vs all first second name =
    let edges = map (λ (e : EdgeEntry). e.element) g.edges in
    let own = flat_map of_element g.vertices in
    let joined : all ≡ kinds_after [] (flat_map of_element (elements_in g)) =
    second
    ∙ ap (λ s. kinds_after s (flat_map of_edge g.edges)) first
    ∙ kinds_more [] own (flat_map of_edge g.edges)
    ∙ ap (λ l. kinds_after [] (own ++ l)) (sym (flat_map-map of_element (λ (e : EdgeEntry). e.element) g.edges))
    ∙ ap (kinds_after []) (sym (elements_of_both g.vertices edges)) in
    ap (lookup (bytes_eq name)) joined
    ∙ lookup_after name (flat_map of_element (elements_in g)) []
    ∙ ap (kind_in name) (sym (all_rows (elements_in g)))
    ∙ kinds_mapped name (flat_map rows (elements_in g))

-- one turn of a loop that collects kinds
pub next_kinds : {X : Type 0} (f : X → List PropertyEntry) (seen next total : List (List ℕ × Kind)) (xs : List X) (i : ℕ) (x : X) → i < length xs → x ≡ get_or xs i x → next ≡ kinds_after seen (f x) → kinds_after seen (flat_map f (drop i xs)) ≡ total → kinds_after next (flat_map f (drop (i + 1) xs)) ≡ total
next_kinds f seen next total xs i x inside is n so_far =
    ap (λ s. kinds_after s (flat_map f (drop (i + 1) xs))) n
    ∙ kinds_more seen (f x) (flat_map f (drop (i + 1) xs))
    ∙ sym (ap (λ l. kinds_after seen (flat_map f l)) (drop_at xs i x inside is))
    ∙ so_far
