-- One pass finds the first name that stands among those before it.
use Rattle.std.proofs.Common.{◌≡◌, ℕ, refl, ap, sym, ◌∙◌, arith, Bool, true, false, List, [], ◌∷◌, ◌++◌, ◌||◌, cond, subst, map, Option, Some, None, not, ◌&&◌}
use Rattle.std.specs.List.{list_any, flat_map}
use Rattle.std.specs.Prelude.{if◌then◌else◌, is_some}
use Rattle.indexmap.specs.IndexSet.{insert_key}
use Rattle.std.specs.Str.{bytes_eq}
use Rattle.std.specs.Cmp.Lexicographic.{bytes_decides}
use Rattle.std.proofs.lemmas.List.Folds.{list_any-append}
use Rattle.pg_ast.specs.declared.expr.Name.{Name}
use Rattle.pg_rules.specs.Places.{least, sooner, place_if, least_append}
use Rattle.pg_rules.specs.Definitions.Tables.{again, repeats, member, unknown}
use Rattle.std.specs.Map.{lookup}
use Rattle.indexmap.specs.IndexMap.{insert_entry}
use Rattle.pg_ast.specs.declared.define.EdgeDef.{EdgeDef}
use Rattle.pg_rules.specs.Catalog.{Tables}
use Rattle.pg_rules.specs.Catalog.LookUps.{table_in}
use Rattle.pg_rules.specs.Definitions.Graphs.{edge_without_table, no_such, no_vertex}
use Rattle.pg_catalog.specs.NameSets.{add, add_by, add_all, member_by, repeats_after, texts_by}

pub or_false : (a : Bool) → (a || false) ≡ a
or_false true = refl
or_false false = refl

pub and_true : (a b : Bool) → (a && b) ≡ true → (a ≡ true) × (b ≡ true)
and_true true b h = (refl, h)
and_true false b h = cc

pub member_add_by : {X : Type 0} (eq : X → X → Bool) → ((a b : X) → eq a b ≡ true → a ≡ b) → (m t : X) (seen : List X) → member_by eq m (add_by eq seen t) ≡ (member_by eq m seen || eq m t)
member_add_by eq exact m t seen = go (member_by eq t seen) refl
  where
    same : (b : Bool) → member_by eq t seen ≡ true → eq m t ≡ b → member_by eq m seen ≡ (member_by eq m seen || b)
    same false h e = sym (or_false (member_by eq m seen))
    same true h e = let s : member_by eq m seen ≡ true = subst (λ x. member_by eq x seen ≡ true) (sym (exact m t e)) h in rw s refl

    go : (b : Bool) → member_by eq t seen ≡ b → member_by eq m (add_by eq seen t) ≡ (member_by eq m seen || eq m t)
    go true h = rw h (same (eq m t) h refl)
    go false h = rw h (list_any-append (eq m) seen (t ∷ []) ∙ ap (λ b. member_by eq m seen || b) (or_false (eq m t)))

member_add : (m t : List ℕ) (seen : List (List ℕ)) → member m (add seen t) ≡ (member m seen || bytes_eq m t)
member_add m t seen = member_add_by bytes_eq (λ a b h. (bytes_decides a b).0 h) m t seen

sooner_swap : (a b c : Option ℕ) → sooner a (sooner b c) ≡ sooner b (sooner a c)
sooner_swap None None c = refl
sooner_swap None (Some y) c = refl
sooner_swap (Some x) None c = refl
sooner_swap (Some x) (Some y) None = ap Some (omega arith)
sooner_swap (Some x) (Some y) (Some z) = ap Some (omega arith)

assoc : (a b c : Option ℕ) → sooner (sooner a b) c ≡ sooner a (sooner b c)
assoc None b c = refl
assoc (Some x) None c = refl
assoc (Some x) (Some y) None = refl
assoc (Some x) (Some y) (Some z) = ap Some (omega arith)

place_or : (a b : Bool) (at : ℕ) (o : Option ℕ) → sooner (least (place_if (a || b) at)) o ≡ sooner (least (place_if a at)) (sooner (least (place_if b at)) o)
place_or true true at None = ap Some (omega arith)
place_or true true at (Some y) = ap Some (omega arith)
place_or true false at o = refl
place_or false b at o = refl

-- the names that were seen
abbrev pub old : List (List ℕ) → List Name → List ℕ
old seen ns = flat_map (λ n. place_if (member n.text seen) n.at) ns

old_add : (seen : List (List ℕ)) (t : List ℕ) (ns : List Name) → least (old (add seen t) ns) ≡ sooner (least (old seen ns)) (least (again t ns))
old_add seen t [] = refl
old_add seen t (n ∷ ns) =
    let p : Bool → Option ℕ = λ b. least (place_if b n.at) in
    least_append (place_if (member n.text (add seen t)) n.at) (old (add seen t) ns)
    ∙ ap (λ b. sooner (p b) (least (old (add seen t) ns))) (member_add n.text t seen)
    ∙ ap (λ o. sooner (p (member n.text seen || bytes_eq n.text t)) o) (old_add seen t ns)
    ∙ place_or (member n.text seen) (bytes_eq n.text t) n.at _
    ∙ ap (sooner (p (member n.text seen))) (sooner_swap (p (bytes_eq n.text t)) (least (old seen ns)) (least (again t ns)))
    ∙ sym (assoc (p (member n.text seen)) (least (old seen ns)) (sooner (p (bytes_eq n.text t)) (least (again t ns))))
    ∙ sym (ap (λ o. sooner o (sooner (p (bytes_eq n.text t)) (least (again t ns)))) (least_append (place_if (member n.text seen) n.at) (old seen ns)))
    ∙ sym (ap (sooner (least (old seen (n ∷ ns)))) (least_append (place_if (bytes_eq n.text t) n.at) (again t ns)))

regroup : (p o g r : Option ℕ) → sooner p (sooner (sooner o g) r) ≡ sooner (sooner p o) (sooner g r)
regroup p o g r = ap (sooner p) (assoc o g r) ∙ sym (assoc p o (sooner g r))

seen_so_far : (seen : List (List ℕ)) (ns : List Name) → least (repeats_after seen ns) ≡ sooner (least (old seen ns)) (least (repeats ns))
seen_so_far seen [] = refl
seen_so_far seen (n ∷ ns) =
    let p = least (place_if (member n.text seen) n.at) in
    least_append (place_if (member n.text seen) n.at) (repeats_after (add seen n.text) ns)
    ∙ ap (sooner p) (seen_so_far (add seen n.text) ns)
    ∙ ap (λ o. sooner p (sooner o (least (repeats ns)))) (old_add seen n.text ns)
    ∙ regroup p (least (old seen ns)) (least (again n.text ns)) (least (repeats ns))
    ∙ sym (ap (λ o. sooner o (sooner (least (again n.text ns)) (least (repeats ns)))) (least_append (place_if (member n.text seen) n.at) (old seen ns)))
    ∙ sym (ap (sooner (least (old seen (n ∷ ns)))) (least_append (again n.text ns) (repeats ns)))

none_old : (ns : List Name) → least (old [] ns) ≡ None
none_old [] = refl
none_old (n ∷ ns) = none_old ns

pub seen_all : (ns : List Name) → least (repeats_after [] ns) ≡ least (repeats ns)
seen_all ns = seen_so_far [] ns ∙ ap (λ o. sooner o (least (repeats ns))) (none_old ns)

pub any_mapped_by : {X Y : Type 0} (f : X → Y) (eq : Y → Y → Bool) (t : Y) (xs : List X) → list_any (λ x. eq t (f x)) xs ≡ list_any (eq t) (map f xs)
any_mapped_by f eq t [] = refl
any_mapped_by f eq t (x ∷ xs) = ap (λ b. eq t (f x) || b) (any_mapped_by f eq t xs)

pub any_mapped : {X : Type 0} (f : X → List ℕ) (t : List ℕ) (xs : List X) → list_any (λ x. bytes_eq t (f x)) xs ≡ list_any (bytes_eq t) (map f xs)
any_mapped f t xs = any_mapped_by f bytes_eq t xs

pub mapped_push : {X Y : Type 0} (f : X → Y) (xs : List X) (x : X) → map f (xs ++ x ∷ []) ≡ map f xs ++ f x ∷ []
mapped_push f [] x = refl
mapped_push f (y ∷ xs) x = ap (λ l. f y ∷ l) (mapped_push f xs x)

mapped_if : {X Y : Type 0} (f : X → Y) (b : Bool) (xs : List X) (x : X) → map f (if b then xs else xs ++ x ∷ []) ≡ cond b (map f xs) (map f xs ++ f x ∷ [])
mapped_if f true xs x = refl
mapped_if f false xs x = mapped_push f xs x

pub mapped_add_by : {X Y : Type 0} (f : X → Y) (eq : Y → Y → Bool) (xs : List X) (x : X) → map f (insert_key (λ a b. eq (f a) (f b)) xs x) ≡ add_by eq (map f xs) (f x)
mapped_add_by f eq xs x =
    mapped_if f (list_any (λ k. eq (f x) (f k)) xs) xs x
    ∙ ap (λ b. cond b (map f xs) (map f xs ++ f x ∷ [])) (any_mapped_by f eq (f x) xs)

pub mapped_add : {X : Type 0} (f : X → List ℕ) (xs : List X) (x : X) → map f (insert_key (λ a b. bytes_eq (f a) (f b)) xs x) ≡ add (map f xs) (f x)
mapped_add f xs x = mapped_add_by f bytes_eq xs x

pub none_of : {X : Type 0} (o : Option X) → is_some o ≡ false → o ≡ None
none_of None h = refl
none_of (Some x) h = cc

behind_if : {K V : Type 0} (b : Bool) (e : K × V) (v : V) (o : Option V) (es xs ys : List (K × V)) → cond b (Some e.1) o ≡ None → (o ≡ None → xs ≡ ys) → (if b then (e.0, v) ∷ es else e ∷ xs) ≡ e ∷ ys
behind_if true e v o es xs ys h f = cc
behind_if false e v o es xs ys h f = ap (λ l. e ∷ l) (f h)

-- a key that is not there goes behind the others
pub absent_behind : {K V : Type 0} (eq : K → K → Bool) (k : K) (v : V) (es : List (K × V)) → lookup (eq k) es ≡ None → insert_entry eq es k v ≡ es ++ (k, v) ∷ []
absent_behind eq k v [] h = refl
absent_behind eq k v (e ∷ es) h = behind_if (eq k e.0) e v (lookup (eq k) es) es (insert_entry eq es k v) (es ++ (k, v) ∷ []) h (absent_behind eq k v es)

pub lookup_mapped : {K V : Type 0} (f : K → List ℕ) (n : List ℕ) (es : List (K × V)) → lookup (bytes_eq n) (map (λ e. (f e.0, e.1)) es) ≡ lookup (λ k. bytes_eq n (f k)) es
lookup_mapped f n [] = refl
lookup_mapped f n (e ∷ es) = ap (λ o. cond (bytes_eq n (f e.0)) (Some e.1) o) (lookup_mapped f n es)

pub or_swap : (a b c : Bool) → ((a || b) || c) ≡ (a || (b || c))
or_swap true b c = refl
or_swap false b c = refl

-- a set of texts has the members of the list
pub member_all : (m : List ℕ) (ts seen : List (List ℕ)) → member m (add_all seen ts) ≡ (member m seen || member m ts)
member_all m [] seen = sym (or_false (member m seen))
member_all m (t ∷ ts) seen =
    member_all m ts (add seen t)
    ∙ ap (λ b. b || member m ts) (member_add m t seen)
    ∙ or_swap (member m seen) (bytes_eq m t) (member m ts)

unknown_same : (ts : List (List ℕ)) (ns : List Name) → unknown (add_all [] ts) ns ≡ unknown ts ns
unknown_same ts [] = refl
unknown_same ts (n ∷ ns) =
    ap (λ b. place_if (not b) n.at ++ unknown (add_all [] ts) ns) (member_all n.text ts [])
    ∙ ap (λ ps. place_if (not (member n.text ts)) n.at ++ ps) (unknown_same ts ns)

pub unknown_all : (ts : List (List ℕ)) (keys : List (List Name)) → flat_map (unknown (add_all [] ts)) keys ≡ flat_map (unknown ts) keys
unknown_all ts [] = refl
unknown_all ts (k ∷ ks) =
    ap (λ ps. ps ++ flat_map (unknown (add_all [] ts)) ks) (unknown_same ts k)
    ∙ ap (λ ps. unknown ts k ++ ps) (unknown_all ts ks)

edge_same : (tables : Tables) (ts : List (List ℕ)) (e : EdgeDef) → edge_without_table tables (add_all [] ts) e ≡ edge_without_table tables ts e
edge_same tables ts e =
    ap (λ b. no_such tables e.table ++ (place_if (not (is_some (table_in tables e.source.table.text)) || not b) e.source.table.at ++ no_vertex tables (add_all [] ts) e.dest.table)) (member_all e.source.table.text ts [])
    ∙ ap (λ b. no_such tables e.table ++ (no_vertex tables ts e.source.table ++ place_if (not (is_some (table_in tables e.dest.table.text)) || not b) e.dest.table.at)) (member_all e.dest.table.text ts [])

pub edges_same : (tables : Tables) (ts : List (List ℕ)) (es : List EdgeDef) → flat_map (edge_without_table tables (add_all [] ts)) es ≡ flat_map (edge_without_table tables ts) es
edges_same tables ts [] = refl
edges_same tables ts (e ∷ es) =
    ap (λ ps. ps ++ flat_map (edge_without_table tables (add_all [] ts)) es) (edge_same tables ts e)
    ∙ ap (λ ps. edge_without_table tables ts e ++ ps) (edges_same tables ts es)

after_first : {X : Type 0} (named : X → Name) (seen : List (List ℕ)) (xs : List X) (ys : List Name) → least (repeats_after seen (map named xs ++ ys)) ≡ sooner (least (repeats_after seen (map named xs))) (least (repeats_after (add_all seen (texts_by named xs)) ys))
after_first named seen [] ys = refl
after_first named seen (x ∷ xs) ys =
    let text = (named x).text in
    let p = place_if (member text seen) (named x).at in
    least_append p (repeats_after (add seen text) (map named xs ++ ys))
    ∙ ap (sooner (least p)) (after_first named (add seen text) xs ys)
    ∙ sym (assoc (least p) (least (repeats_after (add seen text) (map named xs))) (least (repeats_after (add_all (add seen text) (texts_by named xs)) ys)))
    ∙ sym (ap (λ o. sooner o (least (repeats_after (add_all (add seen text) (texts_by named xs)) ys))) (least_append p (repeats_after (add seen text) (map named xs))))

pub two_lists : {X : Type 0} (named : X → Name) (xs : List X) (ys : List Name) → sooner (least (repeats_after [] (map named xs))) (least (repeats_after (add_all [] (texts_by named xs)) ys)) ≡ least (repeats (map named xs ++ ys))
two_lists named xs ys = sym (after_first named [] xs ys) ∙ seen_all (map named xs ++ ys)
