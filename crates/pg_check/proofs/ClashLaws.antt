-- The later of two mentions that clash, as one pass finds it.
use Rattle.std.proofs.Common.{◌≡◌, ℕ, refl, ap, sym, ◌∙◌, subst, Bool, true, false, cond, not, ◌&&◌, ◌||◌, ◌==◌, List, [], ◌∷◌, ◌++◌, Option, Some, None, arith, map, ◌+◌, ◌<◌, ◌≤◌, length, get_or, drop}
use Rattle.std.specs.Prelude.{if◌then◌else◌, is_some}
use Rattle.std.specs.List.{list_any, flat_map}
use Rattle.std.specs.Map.{lookup}
use Rattle.std.specs.Str.{bytes_eq}
use Rattle.std.specs.Cmp.Lexicographic.{bytes_decides}
use Rattle.indexmap.specs.IndexMap.{insert_entry}
use Rattle.pg_ast.specs.declared.expr.Name.{Name}
use Rattle.pg_meaning.specs.Mentions.{Mention, same_sort, same_part, leaves_part, returns, clash}
use Rattle.std.proofs.Math.ListN.{drop_of_length-le}
use Rattle.pg_rules.specs.Places.{least, sooner, place_if, least_append, least_found, sooner_none}
use Rattle.pg_check.specs.declared.mentions.MentionOf.{MentionOf}
use Rattle.pg_check.specs.Gathered.{mention_view}
use Rattle.pg_check.proofs.Loops.{drop_at}
use Rattle.pg_rules.specs.Queries.{later_of}
use Rattle.pg_rules.specs.Queries.Collections.{same_name}
use Rattle.pg_check.specs.Clashes.{Met, are_kin, met_with, strays, inner_with, returns_to, Place, place_eq, place_of, Mets, Inners, note_met, note_inner, is_late, late_after}

-- PAIRS, BY THE LATER ONE

abbrev pub Test : Type 0
Test = Mention Name → Mention Name → Bool

-- each mention that clashes with one that was seen before it
abbrev pub after : Test → List (Mention Name) → List (Mention Name) → List ℕ
after test seen [] = []
after test seen (n ∷ ns) = place_if (list_any (λ m. test m n) seen) n.variable.at ++ after test (seen ++ n ∷ []) ns

abbrev row : Test → Mention Name → List (Mention Name) → List ℕ
row test m ns = flat_map (λ n. place_if (test m n) n.variable.at) ns

abbrev rows : Test → List (Mention Name) → List (Mention Name) → List ℕ
rows test seen ns = flat_map (λ m. row test m ns) seen

sooner_swap : (a b c : Option ℕ) → sooner a (sooner b c) ≡ sooner b (sooner a c)
sooner_swap None None c = refl
sooner_swap None (Some y) c = refl
sooner_swap (Some x) None c = refl
sooner_swap (Some x) (Some y) None = ap Some (omega arith)
sooner_swap (Some x) (Some y) (Some z) = ap Some (omega arith)

assoc : (a b c : Option ℕ) → sooner (sooner a b) c ≡ sooner a (sooner b c)
assoc None b c = refl
assoc (Some x) None c = refl
assoc (Some x) (Some y) None = refl
assoc (Some x) (Some y) (Some z) = ap Some (omega arith)

place_or : (a b : Bool) (at : ℕ) (o : Option ℕ) → sooner (least (place_if (a || b) at)) o ≡ sooner (least (place_if a at)) (sooner (least (place_if b at)) o)
place_or true true at None = ap Some (omega arith)
place_or true true at (Some y) = ap Some (omega arith)
place_or true false at o = refl
place_or false b at o = refl

no_rows : (test : Test) (seen : List (Mention Name)) → rows test seen [] ≡ []
no_rows test [] = refl
no_rows test (m ∷ seen) = no_rows test seen

-- the first place in the rows, the first column apart
rows_cons : (test : Test) (seen : List (Mention Name)) (n : Mention Name) (ns : List (Mention Name)) → least (rows test seen (n ∷ ns)) ≡ sooner (least (place_if (list_any (λ m. test m n) seen) n.variable.at)) (least (rows test seen ns))
rows_cons test [] n ns = refl
rows_cons test (m ∷ seen) n ns =
    let at = n.variable.at in
    let p = least (place_if (test m n) at) in
    let any = list_any (λ m. test m n) seen in
    least_append (place_if (test m n) at ++ row test m ns) (rows test seen (n ∷ ns))
    ∙ ap (λ o. sooner o (least (rows test seen (n ∷ ns)))) (least_append (place_if (test m n) at) (row test m ns))
    ∙ ap (sooner (sooner p (least (row test m ns)))) (rows_cons test seen n ns)
    ∙ assoc p (least (row test m ns)) (sooner (least (place_if any at)) (least (rows test seen ns)))
    ∙ ap (sooner p) (sooner_swap (least (row test m ns)) (least (place_if any at)) (least (rows test seen ns)))
    ∙ ap (λ o. sooner p (sooner (least (place_if any at)) o)) (sym (least_append (row test m ns) (rows test seen ns)))
    ∙ sym (place_or (test m n) any at (least (rows test (m ∷ seen) ns)))

rows_snoc : (test : Test) (seen : List (Mention Name)) (n : Mention Name) (ns : List (Mention Name)) → least (rows test (seen ++ n ∷ []) ns) ≡ sooner (least (rows test seen ns)) (least (row test n ns))
rows_snoc test [] n ns = least_append (row test n ns) [] ∙ sooner_none (least (row test n ns))
rows_snoc test (m ∷ seen) n ns =
    least_append (row test m ns) (rows test (seen ++ n ∷ []) ns)
    ∙ ap (sooner (least (row test m ns))) (rows_snoc test seen n ns)
    ∙ sym (assoc (least (row test m ns)) (least (rows test seen ns)) (least (row test n ns)))
    ∙ ap (λ o. sooner o (least (row test n ns))) (sym (least_append (row test m ns) (rows test seen ns)))

after_is : (test : Test) (seen ns : List (Mention Name)) → least (after test seen ns) ≡ sooner (least (rows test seen ns)) (least (later_of test ns))
after_is test seen [] = sym (ap (λ l. sooner (least l) None) (no_rows test seen))
after_is test seen (n ∷ ns) =
    let p = least (place_if (list_any (λ m. test m n) seen) n.variable.at) in
    let r = least (rows test seen ns) in
    let q = least (row test n ns) in
    let l = least (later_of test ns) in
    least_append (place_if (list_any (λ m. test m n) seen) n.variable.at) (after test (seen ++ n ∷ []) ns)
    ∙ ap (sooner p) (after_is test (seen ++ n ∷ []) ns)
    ∙ ap (λ o. sooner p (sooner o l)) (rows_snoc test seen n ns)
    ∙ ap (sooner p) (assoc r q l)
    ∙ sym (assoc p r (sooner q l))
    ∙ ap (λ o. sooner o (sooner q l)) (sym (rows_cons test seen n ns))
    ∙ ap (sooner (least (rows test seen (n ∷ ns)))) (sym (least_append (row test n ns) (later_of test ns)))

pub later_found : (test : Test) (ns : List (Mention Name)) → least (after test [] ns) ≡ least (later_of test ns)
later_found test ns = after_is test [] ns

-- WHAT WAS MET UNDER A KEY

module _ {K : Type 0} (eq : K → K → Bool) (exact : (a b : K) → eq a b ≡ true → a ≡ b) (same : (a : K) → eq a a ≡ true) where
  twisted : (a b : K) → eq a b ≡ eq b a
  twisted a b = go (eq a b) (eq b a) refl refl
    where
      go : (x y : Bool) → eq a b ≡ x → eq b a ≡ y → x ≡ y
      go true true h g = refl
      go false false h g = refl
      go true false h g = sym (subst (λ z. eq z a ≡ true) (exact a b h) (same a)) ∙ g
      go false true h g = sym h ∙ subst (λ z. eq z b ≡ true) (exact b a g) (same b)

module _ {K V : Type 0} (eq : K → K → Bool) (exact : (a b : K) → eq a b ≡ true → a ≡ b) (same : (a : K) → eq a a ≡ true) where
  -- a look-up after something is put under a key
  pub lookup_put : (k t : K) (v : V) (es : List (K × V)) → lookup (eq k) (insert_entry eq es t v) ≡ cond (eq k t) (Some v) (lookup (eq k) es)
  lookup_put k t v [] = refl
  lookup_put k t v (e ∷ es) = go (lookup_put k t v es) (eq t e.0) refl
    where
      cond_same : (b : Bool) (o : Option V) → cond b (Some v) (cond b (Some e.1) o) ≡ cond b (Some v) o
      cond_same true o = refl
      cond_same false o = refl

      past : (b c : Bool) → eq k t ≡ c → eq k e.0 ≡ b → eq t e.0 ≡ false → cond b (Some e.1) (cond c (Some v) (lookup (eq k) es)) ≡ cond c (Some v) (cond b (Some e.1) (lookup (eq k) es))
      past true true h g n = absurd (apart (sym n ∙ subst (λ z. eq z e.0 ≡ true) (exact k t h) g))
        where
          apart : false ≡ true → ⊥
          apart p = cc
      past true false h g n = refl
      past false c h g n = refl

      go : lookup (eq k) (insert_entry eq es t v) ≡ cond (eq k t) (Some v) (lookup (eq k) es) → (b : Bool) → eq t e.0 ≡ b → lookup (eq k) (if b then (e.0, v) ∷ es else e ∷ insert_entry eq es t v) ≡ cond (eq k t) (Some v) (cond (eq k e.0) (Some e.1) (lookup (eq k) es))
      go put true h =
          ap (λ z. cond (eq k z) (Some v) (lookup (eq k) es)) (sym (exact t e.0 h))
          ∙ sym (cond_same (eq k t) (lookup (eq k) es))
          ∙ ap (λ z. cond (eq k t) (Some v) (cond (eq k z) (Some e.1) (lookup (eq k) es))) (exact t e.0 h)
      go put false h =
          ap (λ o. cond (eq k e.0) (Some e.1) o) put
          ∙ past (eq k e.0) (eq k t) refl refl h

or_false : (a : Bool) → (a || false) ≡ a
or_false true = refl
or_false false = refl

or_assoc : (a b c : Bool) → ((a || b) || c) ≡ (a || (b || c))
or_assoc true b c = refl
or_assoc false b c = refl

module _ {K V : Type 0} (eq : K → K → Bool) (exact : (a b : K) → eq a b ≡ true → a ≡ b) (same : (a : K) → eq a a ≡ true) (key : Mention Name → K) (note : Option V → Mention Name → V) (meets : Option V → Mention Name → Bool) (bad : Test) (none : (n : Mention Name) → meets None n ≡ false) (more : (acc : Option V) (m n : Mention Name) → meets (Some (note acc m)) n ≡ (meets acc n || bad m n)) where
  abbrev gather : K → Option V → List (Mention Name) → Option V
  gather k acc [] = acc
  gather k acc (m ∷ ms) = gather k (cond (eq k (key m)) (Some (note acc m)) acc) ms

  abbrev found : Mention Name → Mention Name → Bool
  found n m = eq (key n) (key m) && bad m n

  meets_gathered : (n : Mention Name) (acc : Option V) (seen : List (Mention Name)) → meets (gather (key n) acc seen) n ≡ (meets acc n || list_any (found n) seen)
  meets_gathered n acc [] = sym (or_false (meets acc n))
  meets_gathered n acc (m ∷ seen) = meets_gathered n (cond (eq (key n) (key m)) (Some (note acc m)) acc) seen ∙ go (eq (key n) (key m))
    where
      go : (b : Bool) → (meets (cond b (Some (note acc m)) acc) n || list_any (found n) seen) ≡ (meets acc n || ((b && bad m n) || list_any (found n) seen))
      go true = ap (λ c. c || list_any (found n) seen) (more acc m n) ∙ or_assoc (meets acc n) (bad m n) (list_any (found n) seen)
      go false = refl

  gathered_more : (k : K) (acc : Option V) (seen : List (Mention Name)) (n : Mention Name) → gather k acc (seen ++ n ∷ []) ≡ cond (eq k (key n)) (Some (note (gather k acc seen) n)) (gather k acc seen)
  gathered_more k acc [] n = refl
  gathered_more k acc (m ∷ seen) n = gathered_more k (cond (eq k (key m)) (Some (note acc m)) acc) seen n

  -- the entries say what was met under each key
  abbrev pub Holds : List (K × V) → List (Mention Name) → Type 0
  Holds known seen = (k : K) → lookup (eq k) known ≡ gather k None seen

  pub holds_next : (known : List (K × V)) (seen : List (Mention Name)) (n : Mention Name) → Holds known seen → Holds (insert_entry eq known (key n) (note (lookup (eq (key n)) known) n)) (seen ++ n ∷ [])
  holds_next known seen n h k =
      lookup_put eq exact same k (key n) (note (lookup (eq (key n)) known) n) known
      ∙ go (eq k (key n)) refl
      ∙ sym (gathered_more k None seen n)
    where
      go : (b : Bool) → eq k (key n) ≡ b → cond b (Some (note (lookup (eq (key n)) known) n)) (lookup (eq k) known) ≡ cond b (Some (note (gather k None seen) n)) (gather k None seen)
      go true e = ap (λ o. Some (note o n)) (ap (λ z. lookup (eq z) known) (sym (exact k (key n) e)) ∙ h k)
      go false e = h k

  pub met_is : (known : List (K × V)) (seen : List (Mention Name)) (n : Mention Name) → Holds known seen → meets (lookup (eq (key n)) known) n ≡ list_any (found n) seen
  met_is known seen n h = ap (λ o. meets o n) (h (key n)) ∙ meets_gathered n None seen ∙ ap (λ b. b || list_any (found n) seen) (none n)

-- KIN

sort_third : (f m n : Bool) → same_sort f n ≡ true → same_sort f m ≡ same_sort m n
sort_third true true n h = sym h
sort_third true false true h = refl
sort_third true false false h = cc
sort_third false true true h = cc
sort_third false true false h = refl
sort_third false false n h = sym h

abbrev leaves : ℕ → Option ℕ → ℕ → Option ℕ → Bool
leaves i p j q = (is_some p || is_some q) && not ((i == j) && same_part p q)

part_third : (i j k : ℕ) (p q r : Option ℕ) → not (leaves i p k r) ≡ true → not (leaves i p j q) ≡ not (leaves j q k r)
part_third i j k None None None h = refl
part_third i j k None (Some q) None h = grind arith
part_third i j k None None (Some r) h = grind arith
part_third i j k None (Some q) (Some r) h = grind arith
part_third i j k (Some p) None None h = grind arith
part_third i j k (Some p) (Some q) None h = grind arith
part_third i j k (Some p) None (Some r) h = grind arith
part_third i j k (Some p) (Some q) (Some r) h = grind arith

and_both : (a b : Bool) → (a && b) ≡ true → (a ≡ true) × (b ≡ true)
and_both true b h = (refl, h)
and_both false b h = cc

kin_third : (f m n : Mention Name) → are_kin f n ≡ true → are_kin f m ≡ are_kin m n
kin_third f m n h =
    let both = and_both (same_sort f.edge n.edge) (not (leaves_part f n)) h in
    ap (λ b. b && not (leaves_part f m)) (sort_third f.edge m.edge n.edge both.0)
    ∙ ap (λ b. same_sort m.edge n.edge && b) (part_third f.path m.path n.path f.part m.part n.part both.1)

mixed_more : (mixed a b c : Bool) → (b ≡ true → a ≡ c) → ((mixed || not a) || not b) ≡ ((mixed || not b) || not c)
mixed_more true a b c h = refl
mixed_more false a true c h = ap (λ x. not x || false) (h refl) ∙ or_false (not c)
mixed_more false true false c h = refl
mixed_more false false false c h = refl

abbrev not_kin : Test
not_kin m n = not (are_kin m n)

kin_more : (acc : Option Met) (m n : Mention Name) → strays (Some (met_with acc m)) n ≡ (strays acc n || not_kin m n)
kin_more None m n = refl
kin_more (Some s) m n = mixed_more s.mixed (are_kin s.first m) (are_kin s.first n) (are_kin m n) (kin_third s.first m n)

-- RETURNS

abbrev returning : (ℕ → Bool) → Test
returning strict m n = strict n.path && not (m.end && n.end)

ends_none : (s d e : Bool) → (s && (not e || not d)) ≡ (s && not (d && e))
ends_none s true true = refl
ends_none s true false = refl
ends_none s false true = refl
ends_none s false false = refl

ends_some : (s i d e : Bool) → (s && (not e || (i || not d))) ≡ ((s && (not e || i)) || (s && not (d && e)))
ends_some false i d e = refl
ends_some true true true true = refl
ends_some true true true false = refl
ends_some true true false true = refl
ends_some true true false false = refl
ends_some true false true true = refl
ends_some true false true false = refl
ends_some true false false true = refl
ends_some true false false false = refl

inner_more : (strict : ℕ → Bool) (acc : Option Bool) (m n : Mention Name) → returns_to strict (Some (inner_with acc m)) n ≡ (returns_to strict acc n || returning strict m n)
inner_more strict None m n = ends_none (strict n.path) m.end n.end
inner_more strict (Some i) m n = ends_some (strict n.path) i m.end n.end

-- BOTH

text_same : (a : List ℕ) → bytes_eq a a ≡ true
text_same a = (bytes_decides a a).1 refl

text_exact : (a b : List ℕ) → bytes_eq a b ≡ true → a ≡ b
text_exact a b h = (bytes_decides a b).0 h

number_exact : (i j : ℕ) → (i == j) ≡ true → i ≡ j
number_exact i j h = grind arith

number_same : (i : ℕ) → (i == i) ≡ true
number_same i = grind arith

place_exact : (a b : Place) → place_eq a b ≡ true → a ≡ b
place_exact a b h =
    let both = and_both (bytes_eq a.0 b.0) (a.1 == b.1) h in
    ap (λ t. (t, a.1)) (text_exact a.0 b.0 both.0) ∙ ap (λ i. (b.0, i)) (number_exact a.1 b.1 both.1)

place_same : (a : Place) → place_eq a a ≡ true
place_same a = ap (λ b. b && (a.1 == a.1)) (text_same a.0) ∙ number_same a.1

abbrev text_of : Mention Name → List ℕ
text_of m = m.variable.text

any_or : {X : Type 0} (p q : X → Bool) (xs : List X) → (list_any p xs || list_any q xs) ≡ list_any (λ x. p x || q x) xs
any_or p q [] = refl
any_or p q (x ∷ xs) = swap (p x) (list_any p xs) (q x) (list_any q xs) ∙ ap (λ b. (p x || q x) || b) (any_or p q xs)
  where
    swap : (a b c d : Bool) → ((a || b) || (c || d)) ≡ ((a || c) || (b || d))
    swap true b c d = refl
    swap false true true d = refl
    swap false true false d = refl
    swap false false c d = refl

any_same : {X : Type 0} (p q : X → Bool) → ((x : X) → p x ≡ q x) → (xs : List X) → list_any p xs ≡ list_any q xs
any_same p q h [] = refl
any_same p q h (x ∷ xs) = ap (λ b. b || list_any p xs) (h x) ∙ ap (λ b. q x || b) (any_same p q h xs)

de_morgan : (s l r : Bool) → (not (s && not l) || r) ≡ (not s || (l || r))
de_morgan true true r = refl
de_morgan true false r = refl
de_morgan false l r = refl

same_path : (strict : ℕ → Bool) (i j : ℕ) (e : Bool) (b : Bool) → (j == i) ≡ b → (b && (strict j && e)) ≡ (strict i && ((i == j) && e))
same_path strict i j e true h = ap (λ k. strict k && e) (number_exact j i h) ∙ ap (λ c. strict i && (c && e)) (sym (subst (λ k. (k == j) ≡ true) (number_exact j i h) (number_same j)))
same_path strict i j e false h = sym (ap (λ c. strict i && (c && e)) (twisted (λ (a : ℕ) (b : ℕ). a == b) number_exact number_same i j ∙ h) ∙ and_false (strict i))
  where
    and_false : (a : Bool) → (a && false) ≡ false
    and_false true = refl
    and_false false = refl

clash_is : (strict : ℕ → Bool) (n m : Mention Name) → ((bytes_eq (text_of n) (text_of m) && not_kin m n) || (place_eq (place_of n) (place_of m) && returning strict m n)) ≡ clash same_name strict m n
clash_is strict n m = go (bytes_eq (text_of n) (text_of m)) refl
  where
    go : (b : Bool) → bytes_eq (text_of n) (text_of m) ≡ b → ((b && not_kin m n) || ((b && (n.path == m.path)) && returning strict m n)) ≡ clash same_name strict m n
    go true h =
        ap (λ r. not_kin m n || r) (same_path strict m.path n.path (not (m.end && n.end)) (n.path == m.path) refl)
        ∙ de_morgan (same_sort m.edge n.edge) (leaves_part m n) (returns strict m n)
        ∙ ap (λ b. b && (not (same_sort m.edge n.edge) || (leaves_part m n || returns strict m n))) (sym (twisted bytes_eq text_exact text_same (text_of m) (text_of n) ∙ h))
    go false h = ap (λ b. b && (not (same_sort m.edge n.edge) || (leaves_part m n || returns strict m n))) (sym (twisted bytes_eq text_exact text_same (text_of m) (text_of n) ∙ h))

abbrev HoldMets : Mets → List (Mention Name) → Type 0
HoldMets mets seen = Holds bytes_eq text_exact text_same text_of met_with strays not_kin (λ n. refl) kin_more mets seen

abbrev HoldInners : (ℕ → Bool) → Inners → List (Mention Name) → Type 0
HoldInners strict inners seen = Holds place_eq place_exact place_same place_of inner_with (returns_to strict) (returning strict) (λ n. refl) (inner_more strict) inners seen

late_is : (strict : ℕ → Bool) (mets : Mets) (inners : Inners) (seen : List (Mention Name)) (n : Mention Name) → HoldMets mets seen → HoldInners strict inners seen → is_late strict mets inners n ≡ list_any (λ m. clash same_name strict m n) seen
late_is strict mets inners seen n h g =
    let p : Mention Name → Bool = λ m. bytes_eq (text_of n) (text_of m) && not_kin m n in
    let q : Mention Name → Bool = λ m. place_eq (place_of n) (place_of m) && returning strict m n in
    ap (λ b. b || returns_to strict (lookup (place_eq (place_of n)) inners) n) (met_is bytes_eq text_exact text_same text_of met_with strays not_kin (λ n. refl) kin_more mets seen n h)
    ∙ ap (λ b. list_any p seen || b) (met_is place_eq place_exact place_same place_of inner_with (returns_to strict) (returning strict) (λ n. refl) (inner_more strict) inners seen n g)
    ∙ any_or p q seen
    ∙ any_same (λ m. p m || q m) (λ m. clash same_name strict m n) (clash_is strict n) seen

late_from : (strict : ℕ → Bool) (mets : Mets) (inners : Inners) (seen ns : List (Mention Name)) → HoldMets mets seen → HoldInners strict inners seen → late_after strict mets inners ns ≡ after (clash same_name strict) seen ns
late_from strict mets inners seen [] h g = refl
late_from strict mets inners seen (n ∷ ns) h g =
    ap (λ b. place_if b n.variable.at ++ late_after strict (note_met mets n) (note_inner inners n) ns) (late_is strict mets inners seen n h g)
    ∙ ap (λ l. place_if (list_any (λ m. clash same_name strict m n) seen) n.variable.at ++ l)
    (late_from strict (note_met mets n) (note_inner inners n) (seen ++ n ∷ []) ns
    (holds_next bytes_eq text_exact text_same text_of met_with strays not_kin (λ n. refl) kin_more mets seen n h)
    (holds_next place_eq place_exact place_same place_of inner_with (returns_to strict) (returning strict) (λ n. refl) (inner_more strict) inners seen n g))

-- the first of the later ones of two mentions that clash
pub first_late : (strict : ℕ → Bool) (ms : List (Mention Name)) → least (late_after strict [] [] ms) ≡ least (later_of (clash same_name strict) ms)
first_late strict ms = ap least (late_from strict [] [] [] ms (λ k. refl) (λ k. refl)) ∙ later_found (clash same_name strict) ms

-- one turn of the pass
pub late_next : (strict : ℕ → Bool) (mets mets' : Mets) (inners inners' : Inners) (found place next total : Option ℕ) (ms : List MentionOf) (i : ℕ) (m : MentionOf) → i < length ms → m ≡ get_or ms i m → place ≡ least (place_if (is_late strict mets inners (mention_view m)) (mention_view m).variable.at) → mets' ≡ note_met mets (mention_view m) → inners' ≡ note_inner inners (mention_view m) → next ≡ sooner found place → sooner found (least (late_after strict mets inners (map mention_view (drop i ms)))) ≡ total → sooner next (least (late_after strict mets' inners' (map mention_view (drop (i + 1) ms)))) ≡ total
late_next strict mets mets' inners inners' found place next total ms i m inside is p hm hi n so_far =
    let rest = map mention_view (drop (i + 1) ms) in
    let own = place_if (is_late strict mets inners (mention_view m)) (mention_view m).variable.at in
    ap (λ o. sooner o (least (late_after strict mets' inners' rest))) (n ∙ ap (sooner found) p)
    ∙ ap (λ k. sooner (sooner found (least own)) (least (late_after strict k inners' rest))) hm
    ∙ ap (λ k. sooner (sooner found (least own)) (least (late_after strict (note_met mets (mention_view m)) k rest))) hi
    ∙ least_found found own (late_after strict (note_met mets (mention_view m)) (note_inner inners (mention_view m)) rest)
    ∙ sym (ap (λ l. sooner found (least (late_after strict mets inners (map mention_view l)))) (drop_at ms i m inside is))
    ∙ so_far

pub late_end : (strict : ℕ → Bool) (mets : Mets) (inners : Inners) (found total : Option ℕ) (ms : List MentionOf) (i : ℕ) → length ms ≤ i → sooner found (least (late_after strict mets inners (map mention_view (drop i ms)))) ≡ total → found ≡ total
late_end strict mets inners found total ms i le h = sym (sooner_none found) ∙ sym (ap (λ l. sooner found (least (late_after strict mets inners (map mention_view l)))) (drop_of_length-le ms le)) ∙ h
