-- The variables of a query, as one pass over its mentions collects them.
use Rattle.std.proofs.Common.{◌≡◌, ℕ, refl, ap, sym, ◌∙◌, subst, Bool, true, false, cond, not, ◌&&◌, ◌||◌, List, [], ◌∷◌, ◌++◌, map, Option, Some, None, append_assoc, zero, suc, length}
use Rattle.std.specs.Prelude.{is_some, filter, find, option_map, slice_get}
use Rattle.std.proofs.lemmas.List.{append-nil}
use Rattle.std.specs.Map.{lookup}
use Rattle.std.specs.Str.{bytes_eq}
use Rattle.std.specs.Cmp.Lexicographic.{bytes_decides}
use Rattle.pg_ast.specs.declared.expr.Name.{Name}
use Rattle.pg_ast.specs.declared.pattern.Query.{Query}
use Rattle.pg_meaning.specs.Mentions.{Mention, first_mentions, degree_of, degree_in, Grouped, Singleton}
use Rattle.pg_rules.specs.Queries.{is_among, is_grouped, is_singleton}
use Rattle.pg_rules.specs.Queries.Collections.{same_name, mentions_of, variables_of}
use Rattle.pg_check.specs.Gathered.{add_last, add_mention, firsts_after}
use Rattle.pg_check.specs.UsePlaces.{Known, rounds, is_yes, is_no}

abbrev or_else : {X : Type 0} → Option X → Option X → Option X
or_else None o = o
or_else (Some x) o = Some x

or_none : {X : Type 0} (o : Option X) → or_else o None ≡ o
or_none None = refl
or_none (Some x) = refl

or_assoc : {X : Type 0} (a b c : Option X) → or_else (or_else a b) c ≡ or_else a (or_else b c)
or_assoc None b c = refl
or_assoc (Some x) b c = refl

or_some : {X : Type 0} (a b : Option X) → is_some a ≡ true → or_else a b ≡ a
or_some None b h = cc
or_some (Some x) b h = refl

or_if : {X : Type 0} (b : Bool) (x : X) (o p : Option X) → cond b (Some x) (or_else o p) ≡ or_else (cond b (Some x) o) p
or_if true x o p = refl
or_if false x o p = refl

if_or : {X : Type 0} (b : Bool) (x : X) (o : Option X) → or_else (cond b (Some x) None) o ≡ cond b (Some x) o
if_or true x o = refl
if_or false x o = refl

abbrev text_of : Mention Name → List ℕ
text_of m = m.variable.text

abbrev pub entry : Mention Name → List ℕ × Mention Name
entry m = (m.variable.text, m)

lookup_last : (t : List ℕ) (m : Mention Name) (seen : Known) → lookup (bytes_eq t) (add_last seen m) ≡ or_else (lookup (bytes_eq t) seen) (cond (bytes_eq t (text_of m)) (Some m) None)
lookup_last t m [] = refl
lookup_last t m (e ∷ es) = ap (λ o. cond (bytes_eq t e.0) (Some e.1) o) (lookup_last t m es) ∙ or_if (bytes_eq t e.0) e.1 (lookup (bytes_eq t) es) (cond (bytes_eq t (text_of m)) (Some m) None)

lookup_add : (t : List ℕ) (m : Mention Name) (seen : Known) → lookup (bytes_eq t) (add_mention seen m) ≡ or_else (lookup (bytes_eq t) seen) (cond (bytes_eq t (text_of m)) (Some m) None)
lookup_add t m seen = go (is_some (lookup (bytes_eq (text_of m)) seen)) refl
  where
    same : (b : Bool) → bytes_eq t (text_of m) ≡ b → is_some (lookup (bytes_eq (text_of m)) seen) ≡ true → lookup (bytes_eq t) seen ≡ or_else (lookup (bytes_eq t) seen) (cond b (Some m) None)
    same false e h = sym (or_none (lookup (bytes_eq t) seen))
    same true e h = sym (or_some (lookup (bytes_eq t) seen) (Some m) (subst (λ x. is_some (lookup (bytes_eq x) seen) ≡ true) (sym ((bytes_decides t (text_of m)).0 e)) h))

    go : (b : Bool) → is_some (lookup (bytes_eq (text_of m)) seen) ≡ b → lookup (bytes_eq t) (cond b seen (add_last seen m)) ≡ or_else (lookup (bytes_eq t) seen) (cond (bytes_eq t (text_of m)) (Some m) None)
    go true h = same (bytes_eq t (text_of m)) refl h
    go false h = lookup_last t m seen

lookup_after : (t : List ℕ) (ms : List (Mention Name)) (seen : Known) → lookup (bytes_eq t) (firsts_after seen ms) ≡ or_else (lookup (bytes_eq t) seen) (find (λ m. bytes_eq t (text_of m)) ms)
lookup_after t [] seen = sym (or_none (lookup (bytes_eq t) seen))
lookup_after t (m ∷ ms) seen =
    lookup_after t ms (add_mention seen m)
    ∙ ap (λ o. or_else o (find (λ m. bytes_eq t (text_of m)) ms)) (lookup_add t m seen)
    ∙ or_assoc (lookup (bytes_eq t) seen) (cond (bytes_eq t (text_of m)) (Some m) None) (find (λ m. bytes_eq t (text_of m)) ms)
    ∙ ap (or_else (lookup (bytes_eq t) seen)) (if_or (bytes_eq t (text_of m)) m (find (λ m. bytes_eq t (text_of m)) ms))

-- THE ORDER OF FIRST MENTIONS

abbrev is_new : Known → Mention Name → Bool
is_new seen m = not (is_some (lookup (bytes_eq (text_of m)) seen))

abbrev differs : Mention Name → Mention Name → Bool
differs m n = not (same_name m.variable n.variable)

filter_same : {X : Type 0} (p q : X → Bool) → ((x : X) → p x ≡ q x) → (xs : List X) → filter p xs ≡ filter q xs
filter_same p q h [] = refl
filter_same p q h (x ∷ xs) = rw (h x) (ap (λ l. cond (q x) (x ∷ l) l) (filter_same p q h xs))

filter_both : {X : Type 0} (p q : X → Bool) (xs : List X) → filter p (filter q xs) ≡ filter (λ x. p x && q x) xs
filter_both p q [] = refl
filter_both {X = X} p q (x ∷ xs) = go (q x) (p x) refl refl (filter_both p q xs)
  where
    go : (b c : Bool) → q x ≡ b → p x ≡ c → filter p (filter q xs) ≡ filter (λ y. p y && q y) xs → filter p (filter q (x ∷ xs)) ≡ filter (λ y. p y && q y) (x ∷ xs)
    go true true h g r = rw (h, g) (ap (λ l. x ∷ l) r)
    go true false h g r = rw (h, g) r
    go false true h g r = rw (h, g) r
    go false false h g r = rw (h, g) r

twisted : (a b : List ℕ) → bytes_eq a b ≡ bytes_eq b a
twisted a b = go (bytes_eq a b) (bytes_eq b a) refl refl
  where
    go : (x y : Bool) → bytes_eq a b ≡ x → bytes_eq b a ≡ y → x ≡ y
    go true true h g = refl
    go false false h g = refl
    go true false h g = sym ((bytes_decides b a).1 (sym ((bytes_decides a b).0 h))) ∙ g
    go false true h g = sym h ∙ (bytes_decides a b).1 (sym ((bytes_decides b a).0 g))

and_true : (a : Bool) → (a && true) ≡ a
and_true true = refl
and_true false = refl

and_false : (a : Bool) → (a && false) ≡ false
and_false true = refl
and_false false = refl

-- a mention of a variable that was seen is not new, so to leave out those of the variable changes nothing
seen_already : (seen : Known) (m n : Mention Name) → is_some (lookup (bytes_eq (text_of m)) seen) ≡ true → (is_new seen n && differs m n) ≡ is_new seen n
seen_already seen m n h = go (bytes_eq (text_of m) (text_of n)) refl
  where
    go : (b : Bool) → bytes_eq (text_of m) (text_of n) ≡ b → (is_new seen n && not b) ≡ is_new seen n
    go false e = and_true (is_new seen n)
    go true e = and_false (is_new seen n) ∙ sym (ap not (subst (λ t. is_some (lookup (bytes_eq t) seen) ≡ true) ((bytes_decides (text_of m) (text_of n)).0 e) h))

new_or : (o : Option (Mention Name)) (b : Bool) (m : Mention Name) → not (is_some (or_else o (cond b (Some m) None))) ≡ (not (is_some o) && not b)
new_or None true m = refl
new_or None false m = refl
new_or (Some x) b m = refl

seen_now : (seen : Known) (m n : Mention Name) → is_new (add_last seen m) n ≡ (is_new seen n && differs m n)
seen_now seen m n =
    ap (λ o. not (is_some o)) (lookup_last (text_of n) m seen)
    ∙ new_or (lookup (bytes_eq (text_of n)) seen) (bytes_eq (text_of n) (text_of m)) m
    ∙ ap (λ b. is_new seen n && not b) (twisted (text_of n) (text_of m))

order : (ms : List (Mention Name)) (seen : Known) → firsts_after seen ms ≡ seen ++ map entry (filter (is_new seen) (first_mentions same_name ms))
order [] seen = sym (append-nil seen)
order (m ∷ ms) seen = order ms (add_mention seen m) ∙ go (is_some (lookup (bytes_eq (text_of m)) seen)) refl
  where
    go : (b : Bool) → is_some (lookup (bytes_eq (text_of m)) seen) ≡ b → cond b seen (add_last seen m) ++ map entry (filter (is_new (cond b seen (add_last seen m))) (first_mentions same_name ms)) ≡ seen ++ map entry (cond (not b) (m ∷ filter (is_new seen) (filter (differs m) (first_mentions same_name ms))) (filter (is_new seen) (filter (differs m) (first_mentions same_name ms))))
    go true h =
        ap (λ l. seen ++ map entry l) (sym (filter_both (is_new seen) (differs m) (first_mentions same_name ms) ∙ filter_same (λ n. is_new seen n && differs m n) (is_new seen) (λ n. seen_already seen m n h) (first_mentions same_name ms)))
    go false h =
        append_assoc seen (entry m ∷ []) (map entry (filter (is_new (add_last seen m)) (first_mentions same_name ms)))
        ∙ ap (λ l. seen ++ (entry m ∷ map entry l)) (filter_same (is_new (add_last seen m)) (λ n. is_new seen n && differs m n) (seen_now seen m) (first_mentions same_name ms) ∙ sym (filter_both (is_new seen) (differs m) (first_mentions same_name ms)))

all_new : (ms : List (Mention Name)) → filter (is_new []) ms ≡ ms
all_new [] = refl
all_new (m ∷ ms) = ap (λ l. m ∷ l) (all_new ms)

-- the entries are the first mentions, in their order
pub known_is : (q : Query) → firsts_after [] (mentions_of q) ≡ map entry (first_mentions same_name (mentions_of q))
known_is q = order (mentions_of q) [] ∙ ap (map entry) (all_new (first_mentions same_name (mentions_of q)))

-- WHAT LOOK-UPS GIVE

some_if : (b : Bool) (m : Mention Name) (o : Option (Mention Name)) (a : Bool) → is_some o ≡ a → is_some (cond b (Some m) o) ≡ (b || a)
some_if true m o a h = refl
some_if false m o a h = h

among_entries : (n : Name) (ms : List (Mention Name)) → is_some (lookup (bytes_eq n.text) (map entry ms)) ≡ is_among (map (λ m. m.variable) ms) n
among_entries n [] = refl
among_entries n (m ∷ ms) = some_if (bytes_eq n.text (text_of m)) m (lookup (bytes_eq n.text) (map entry ms)) (is_among (map (λ m. m.variable) ms) n) (among_entries n ms)

pub among_known : (q : Query) (n : Name) → is_some (lookup (bytes_eq n.text) (firsts_after [] (mentions_of q))) ≡ is_among (variables_of q) n
among_known q n = ap (λ k. is_some (lookup (bytes_eq n.text) k)) (known_is q) ∙ among_entries n (first_mentions same_name (mentions_of q))

rounds_found : (q : Query) (n : Name) → rounds (firsts_after [] (mentions_of q)) n ≡ option_map (λ m. is_some m.part) (find (λ m. same_name n m.variable) (mentions_of q))
rounds_found q n = ap (option_map (λ m. is_some m.part)) (lookup_after n.text (mentions_of q) [])

grouped_if : (m : Mention Name) (b : Bool) → is_some m.part ≡ b → b ≡ is_grouped (Some (cond b Grouped Singleton))
grouped_if m true h = refl
grouped_if m false h = refl

single_if : (m : Mention Name) (b : Bool) → is_some m.part ≡ b → not b ≡ is_singleton (Some (cond b Grouped Singleton))
single_if m true h = refl
single_if m false h = refl

is_grouped_found : (o : Option (Mention Name)) → is_yes (option_map (λ m. is_some m.part) o) ≡ is_grouped (option_map degree_of o)
is_grouped_found None = refl
is_grouped_found (Some m) = grouped_if m (is_some m.part) refl

is_single_found : (o : Option (Mention Name)) → is_no (option_map (λ m. is_some m.part) o) ≡ is_singleton (option_map degree_of o)
is_single_found None = refl
is_single_found (Some m) = single_if m (is_some m.part) refl

pub grouped_known : (q : Query) (n : Name) → is_yes (rounds (firsts_after [] (mentions_of q)) n) ≡ is_grouped (degree_in same_name (mentions_of q) n)
grouped_known q n = ap is_yes (rounds_found q n) ∙ is_grouped_found (find (λ m. same_name n m.variable) (mentions_of q))

pub single_known : (q : Query) (n : Name) → is_no (rounds (firsts_after [] (mentions_of q)) n) ≡ is_singleton (degree_in same_name (mentions_of q) n)
single_known q n = ap is_no (rounds_found q n) ∙ is_single_found (find (λ m. same_name n m.variable) (mentions_of q))

-- the places of first mentions, by their numbers
place_entries : (ms : List (Mention Name)) (i : ℕ) → option_map (λ e. e.1.variable.at) (slice_get (map entry ms) i) ≡ slice_get (map (λ n. n.at) (map (λ m. m.variable) ms)) i
place_entries [] i = refl
place_entries (m ∷ ms) zero = refl
place_entries (m ∷ ms) (suc i) = place_entries ms i

pub place_known : (q : Query) (i : ℕ) → option_map (λ e. e.1.variable.at) (slice_get (firsts_after [] (mentions_of q)) i) ≡ slice_get (map (λ n. n.at) (variables_of q)) i
place_known q i = ap (λ k. option_map (λ e. e.1.variable.at) (slice_get k i)) (known_is q) ∙ place_entries (first_mentions same_name (mentions_of q)) i

-- the entries of any mentions are the first ones, in their order
pub known_of : (ms : List (Mention Name)) → firsts_after [] ms ≡ map entry (first_mentions same_name ms)
known_of ms = order ms [] ∙ ap (map entry) (all_new (first_mentions same_name ms))

pub map_twice : {X Y Z : Type 0} (f : Y → Z) (g : X → Y) (xs : List X) → map f (map g xs) ≡ map (λ x. f (g x)) xs
map_twice f g [] = refl
map_twice f g (x ∷ xs) = ap (λ l. f (g x) ∷ l) (map_twice f g xs)

-- what a function gives of the variables of entries
pub entry_variables : {Z : Type 0} (f : Name → Z) (ms : List (Mention Name)) → map (λ e. f e.1.variable) (firsts_after [] ms) ≡ map f (map (λ m. m.variable) (first_mentions same_name ms))
entry_variables f ms =
    ap (map (λ e. f e.1.variable)) (known_of ms)
    ∙ map_twice (λ (e : List ℕ × Mention Name). f e.1.variable) entry (first_mentions same_name ms)
    ∙ sym (map_twice f (λ (m : Mention Name). m.variable) (first_mentions same_name ms))

pub entry_keys : (ms : List (Mention Name)) → map (λ e. e.0) (firsts_after [] ms) ≡ map (λ e. e.1.variable.text) (firsts_after [] ms)
entry_keys ms =
    ap (map (λ e. e.0)) (known_of ms)
    ∙ map_twice (λ (e : List ℕ × Mention Name). e.0) entry (first_mentions same_name ms)
    ∙ sym (map_twice (λ (e : List ℕ × Mention Name). e.1.variable.text) entry (first_mentions same_name ms))
    ∙ sym (ap (map (λ e. e.1.variable.text)) (known_of ms))

pub as_long : {X Y : Type 0} (f : X → Y) (xs : List X) → length (map f xs) ≡ length xs
as_long f [] = refl
as_long f (x ∷ xs) = ap suc (as_long f xs)
