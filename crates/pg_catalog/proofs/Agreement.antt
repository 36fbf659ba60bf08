-- Element tables are compared kind by kind, and by the first column of each name.
use Rattle.std.proofs.Common.{◌≡◌, ℕ, refl, ap, sym, ◌∙◌, Bool, true, false, not, List, [], ◌∷◌, ◌++◌, ◌||◌, ◌&&◌, cond, Option, Some, None, subst, is_some}
use Rattle.std.specs.List.{list_any, find}
use Rattle.std.specs.Map.{lookup}
use Rattle.std.specs.Option.{option_or, option_map}
use Rattle.std.specs.Str.{bytes_eq}
use Rattle.std.specs.Cmp.Lexicographic.{bytes_decides}
use Rattle.pg_value.specs.declared.value.Kind.{Kind}
use Rattle.pg_value.specs.declared.value.Kind.TheVariants as kinds
use Rattle.pg_rules.specs.declared.entry.ElementEntry.{ElementEntry}
use Rattle.pg_rules.specs.Definitions.Graphs.{Row, rows, has_row, is_row, has_other_kind, labels_in, lacks, clash, two_columns, first_column, is_place}
use Rattle.pg_value.specs.Kinds.{same_kind}
use Rattle.pg_rules.specs.Definitions.Tables.{member}
use Rattle.pg_catalog.specs.NameSets.{add, add_by, add_all, member_by}
use Rattle.pg_catalog.specs.PropertyRows.{of_kind, names_after, clash_with, pair_eq, pairs_after, lacks_of, lacks_by_kind, clash_by_kind, add_first, firsts_after, other_column}
use Rattle.pg_catalog.proofs.NameSets.{member_add_by, member_all, or_false, or_swap, and_true}

-- SOME ITEM

any_same : {X : Type 0} (f g : X → Bool) → ((x : X) → f x ≡ g x) → (xs : List X) → list_any f xs ≡ list_any g xs
any_same f g h [] = refl
any_same f g h (x ∷ xs) = ap (λ b. b || list_any f xs) (h x) ∙ ap (λ b. g x || b) (any_same f g h xs)

or_four : (a b c d : Bool) → ((a || b) || (c || d)) ≡ ((a || c) || (b || d))
or_four true b c d = refl
or_four false true true d = refl
or_four false true false d = refl
or_four false false true d = refl
or_four false false false d = refl

any_or : {X : Type 0} (f g : X → Bool) (xs : List X) → list_any (λ x. f x || g x) xs ≡ (list_any f xs || list_any g xs)
any_or f g [] = refl
any_or f g (x ∷ xs) = ap (λ b. (f x || g x) || b) (any_or f g xs) ∙ or_four (f x) (g x) (list_any f xs) (list_any g xs)

any_none : {X : Type 0} (xs : List X) → list_any (λ x. false) xs ≡ false
any_none [] = refl
any_none (x ∷ xs) = any_none xs

any_and : {X : Type 0} (c : Bool) (f : X → Bool) (xs : List X) → list_any (λ x. c && f x) xs ≡ (c && list_any f xs)
any_and true f xs = refl
any_and false f xs = any_none xs

any_three : {X : Type 0} (f g h : X → Bool) (xs : List X) → list_any (λ x. f x || (g x || h x)) xs ≡ (list_any f xs || (list_any g xs || list_any h xs))
any_three f g h xs = any_or f (λ x. g x || h x) xs ∙ ap (λ b. list_any f xs || b) (any_or g h xs)

-- NAMES AND PAIRS OF ONE KIND

bytes_exact : (a b : List ℕ) → bytes_eq a b ≡ true → a ≡ b
bytes_exact a b h = (bytes_decides a b).0 h

pair_exact : (a b : List ℕ × List ℕ) → pair_eq a b ≡ true → a ≡ b
pair_exact (a, c) (b, d) h = let s = and_true (bytes_eq a b) (bytes_eq c d) h in ap (λ x. (x, c)) (bytes_exact a b s.0) ∙ ap (λ y. (b, y)) (bytes_exact c d s.1)

added_if : {X : Type 0} (eq : X → X → Bool) → ((a b : X) → eq a b ≡ true → a ≡ b) → (b : Bool) (m t : X) (seen : List X) → member_by eq m (cond b (add_by eq seen t) seen) ≡ (member_by eq m seen || (b && eq m t))
added_if eq exact true m t seen = member_add_by eq exact m t seen
added_if eq exact false m t seen = sym (or_false (member_by eq m seen))

names_from : (kind : Kind) (m : List ℕ) (seen : List (List ℕ)) (rs : List Row) → member m (names_after kind seen rs) ≡ (member m seen || list_any (λ r. of_kind kind r && bytes_eq m r.property.name) rs)
names_from kind m seen [] = sym (or_false (member m seen))
names_from kind m seen (r ∷ rs) =
    names_from kind m (cond (of_kind kind r) (add seen r.property.name) seen) rs
    ∙ ap (λ b. b || list_any (λ (q : Row). of_kind kind q && bytes_eq m q.property.name) rs) (added_if bytes_eq bytes_exact (of_kind kind r) m r.property.name seen)
    ∙ or_swap (member m seen) (of_kind kind r && bytes_eq m r.property.name) (list_any (λ (q : Row). of_kind kind q && bytes_eq m q.property.name) rs)

pairs_from : (kind : Kind) (m : List ℕ × List ℕ) (seen : List (List ℕ × List ℕ)) (rs : List Row) → member_by pair_eq m (pairs_after kind seen rs) ≡ (member_by pair_eq m seen || list_any (λ r. of_kind kind r && pair_eq m (r.label, r.property.name)) rs)
pairs_from kind m seen [] = sym (or_false (member_by pair_eq m seen))
pairs_from kind m seen (r ∷ rs) =
    pairs_from kind m (cond (of_kind kind r) (add_by pair_eq seen (r.label, r.property.name)) seen) rs
    ∙ ap (λ b. b || list_any (λ (q : Row). of_kind kind q && pair_eq m (q.label, q.property.name)) rs) (added_if pair_eq pair_exact (of_kind kind r) m (r.label, r.property.name) seen)
    ∙ or_swap (member_by pair_eq m seen) (of_kind kind r && pair_eq m (r.label, r.property.name)) (list_any (λ (q : Row). of_kind kind q && pair_eq m (q.label, q.property.name)) rs)

-- ANOTHER KIND

split_other : (b : Bool) (a k : Kind) → (b && not (same_kind a k)) ≡ ((not (same_kind kinds.Int a) && (same_kind kinds.Int k && b)) || ((not (same_kind kinds.Text a) && (same_kind kinds.Text k && b)) || (not (same_kind kinds.Bool a) && (same_kind kinds.Bool k && b))))
split_other true kinds.Int kinds.Int = refl
split_other true kinds.Int kinds.Text = refl
split_other true kinds.Int kinds.Bool = refl
split_other true kinds.Text kinds.Int = refl
split_other true kinds.Text kinds.Text = refl
split_other true kinds.Text kinds.Bool = refl
split_other true kinds.Bool kinds.Int = refl
split_other true kinds.Bool kinds.Text = refl
split_other true kinds.Bool kinds.Bool = refl
split_other false kinds.Int kinds.Int = refl
split_other false kinds.Int kinds.Text = refl
split_other false kinds.Int kinds.Bool = refl
split_other false kinds.Text kinds.Int = refl
split_other false kinds.Text kinds.Text = refl
split_other false kinds.Text kinds.Bool = refl
split_other false kinds.Bool kinds.Int = refl
split_other false kinds.Bool kinds.Text = refl
split_other false kinds.Bool kinds.Bool = refl

clash_row : (qs : List Row) (r : Row) → has_other_kind qs r ≡ ((not (of_kind kinds.Int r) && member r.property.name (names_after kinds.Int [] qs)) || ((not (of_kind kinds.Text r) && member r.property.name (names_after kinds.Text [] qs)) || (not (of_kind kinds.Bool r) && member r.property.name (names_after kinds.Bool [] qs))))
clash_row qs r =
    let part : Kind → Row → Bool = λ k q. of_kind k q && bytes_eq r.property.name q.property.name in
    let is : Kind → Bool = λ k. not (of_kind k r) in
    any_same (λ (q : Row). bytes_eq r.property.name q.property.name && not (same_kind r.property.kind q.property.kind)) (λ q. (is kinds.Int && part kinds.Int q) || ((is kinds.Text && part kinds.Text q) || (is kinds.Bool && part kinds.Bool q))) (λ q. split_other (bytes_eq r.property.name q.property.name) r.property.kind q.property.kind) qs
    ∙ any_three (λ q. is kinds.Int && part kinds.Int q) (λ q. is kinds.Text && part kinds.Text q) (λ q. is kinds.Bool && part kinds.Bool q) qs
    ∙ ap (λ b. b || (list_any (λ q. is kinds.Text && part kinds.Text q) qs || list_any (λ q. is kinds.Bool && part kinds.Bool q) qs)) (any_and (is kinds.Int) (part kinds.Int) qs ∙ ap (λ b. is kinds.Int && b) (sym (names_from kinds.Int r.property.name [] qs)))
    ∙ ap (λ b. (is kinds.Int && member r.property.name (names_after kinds.Int [] qs)) || (b || list_any (λ q. is kinds.Bool && part kinds.Bool q) qs)) (any_and (is kinds.Text) (part kinds.Text) qs ∙ ap (λ b. is kinds.Text && b) (sym (names_from kinds.Text r.property.name [] qs)))
    ∙ ap (λ b. (is kinds.Int && member r.property.name (names_after kinds.Int [] qs)) || ((is kinds.Text && member r.property.name (names_after kinds.Text [] qs)) || b)) (any_and (is kinds.Bool) (part kinds.Bool) qs ∙ ap (λ b. is kinds.Bool && b) (sym (names_from kinds.Bool r.property.name [] qs)))

pub clash_by_kinds : (qs rs : List Row) → list_any (has_other_kind qs) rs ≡ (clash_with kinds.Int (names_after kinds.Int [] qs) rs || (clash_with kinds.Text (names_after kinds.Text [] qs) rs || clash_with kinds.Bool (names_after kinds.Bool [] qs) rs))
clash_by_kinds qs rs =
    let part : Kind → Row → Bool = λ k r. not (of_kind k r) && member r.property.name (names_after k [] qs) in
    any_same (has_other_kind qs) (λ r. part kinds.Int r || (part kinds.Text r || part kinds.Bool r)) (clash_row qs) rs
    ∙ any_three (part kinds.Int) (part kinds.Text) (part kinds.Bool) rs

-- A PROPERTY THAT A LABEL OF ANOTHER TABLE HAS NOT

choose : (kind : Kind) (p : Kind → Bool) → p kind ≡ ((same_kind kinds.Int kind && p kinds.Int) || ((same_kind kinds.Text kind && p kinds.Text) || (same_kind kinds.Bool kind && p kinds.Bool)))
choose kinds.Int p = sym (or_false (p kinds.Int))
choose kinds.Text p = sym (or_false (p kinds.Text))
choose kinds.Bool p = refl

turned : (a b c : Bool) → (a && (b && c)) ≡ (b && (c && a))
turned true true true = refl
turned true true false = refl
turned true false c = refl
turned false true true = refl
turned false true false = refl
turned false false c = refl

row_there : (qs : List Row) (r : Row) → list_any (λ q. of_kind r.property.kind q && pair_eq (r.label, r.property.name) (q.label, q.property.name)) qs ≡ has_row qs r
row_there qs r = any_same (λ (q : Row). of_kind r.property.kind q && pair_eq (r.label, r.property.name) (q.label, q.property.name)) (is_row r) (λ q. turned (of_kind r.property.kind q) (bytes_eq r.label q.label) (bytes_eq r.property.name q.property.name)) qs

lacks_row : (ls : List (List ℕ)) (qs : List Row) (r : Row) (kind : Kind) → (of_kind kind r && (member r.label (add_all [] ls) && not (member_by pair_eq (r.label, r.property.name) (pairs_after kind [] qs)))) ≡ (of_kind kind r && (member r.label ls && not (list_any (λ q. of_kind kind q && pair_eq (r.label, r.property.name) (q.label, q.property.name)) qs)))
lacks_row ls qs r kind =
    ap (λ b. of_kind kind r && (b && not (member_by pair_eq (r.label, r.property.name) (pairs_after kind [] qs)))) (member_all r.label ls [])
    ∙ ap (λ b. of_kind kind r && (member r.label ls && not b)) (pairs_from kind (r.label, r.property.name) [] qs)

pub lacks_by_kinds : (ls : List (List ℕ)) (qs rs : List Row) → list_any (λ r. member r.label ls && not (has_row qs r)) rs ≡ (lacks_of kinds.Int (add_all [] ls) (pairs_after kinds.Int [] qs) rs || (lacks_of kinds.Text (add_all [] ls) (pairs_after kinds.Text [] qs) rs || lacks_of kinds.Bool (add_all [] ls) (pairs_after kinds.Bool [] qs) rs))
lacks_by_kinds ls qs rs =
    let inner : Row → Kind → Bool = λ r k. member r.label ls && not (list_any (λ (q : Row). of_kind k q && pair_eq (r.label, r.property.name) (q.label, q.property.name)) qs) in
    let part : Kind → Row → Bool = λ k r. of_kind k r && (member r.label (add_all [] ls) && not (member_by pair_eq (r.label, r.property.name) (pairs_after k [] qs))) in
    let each : (r : Row) → (member r.label ls && not (has_row qs r)) ≡ (part kinds.Int r || (part kinds.Text r || part kinds.Bool r)) = λ r.
    ap (λ b. member r.label ls && not b) (sym (row_there qs r))
    ∙ choose r.property.kind (inner r)
    ∙ ap (λ b. b || ((of_kind kinds.Text r && inner r kinds.Text) || (of_kind kinds.Bool r && inner r kinds.Bool))) (sym (lacks_row ls qs r kinds.Int))
    ∙ ap (λ b. part kinds.Int r || (b || (of_kind kinds.Bool r && inner r kinds.Bool))) (sym (lacks_row ls qs r kinds.Text))
    ∙ ap (λ b. part kinds.Int r || (part kinds.Text r || b)) (sym (lacks_row ls qs r kinds.Bool)) in
    any_same (λ (r : Row). member r.label ls && not (has_row qs r)) (λ r. part kinds.Int r || (part kinds.Text r || part kinds.Bool r)) each rs
    ∙ any_three (part kinds.Int) (part kinds.Text) (part kinds.Bool) rs

-- THE FIRST COLUMN OF EACH NAME

or_none : {X : Type 0} (o : Option X) → option_or o None ≡ o
or_none None = refl
or_none (Some x) = refl

or_assoc : {X : Type 0} (a b c : Option X) → option_or (option_or a b) c ≡ option_or a (option_or b c)
or_assoc None b c = refl
or_assoc (Some x) b c = refl

end_if : (b : Bool) (v : ℕ) (o p q : Option ℕ) → o ≡ option_or p q → cond b (Some v) o ≡ option_or (cond b (Some v) p) q
end_if true v o p q h = refl
end_if false v o p q h = h

lookup_end : (n m : List ℕ) (c : ℕ) (seen : List (List ℕ × ℕ)) → lookup (bytes_eq n) (seen ++ (m, c) ∷ []) ≡ option_or (lookup (bytes_eq n) seen) (cond (bytes_eq n m) (Some c) None)
lookup_end n m c [] = refl
lookup_end n m c (e ∷ es) = end_if (bytes_eq n e.0) e.1 (lookup (bytes_eq n) (es ++ (m, c) ∷ [])) (lookup (bytes_eq n) es) (cond (bytes_eq n m) (Some c) None) (lookup_end n m c es)

there : {X : Type 0} (o p : Option X) → is_some o ≡ true → o ≡ option_or o p
there None p h = cc
there (Some x) p h = refl

lookup_first : (n m : List ℕ) (c : ℕ) (seen : List (List ℕ × ℕ)) → lookup (bytes_eq n) (add_first seen m c) ≡ option_or (lookup (bytes_eq n) seen) (cond (bytes_eq n m) (Some c) None)
lookup_first n m c seen = go (is_some (lookup (bytes_eq m) seen)) refl
  where
    same : (b : Bool) → is_some (lookup (bytes_eq m) seen) ≡ true → bytes_eq n m ≡ b → lookup (bytes_eq n) seen ≡ option_or (lookup (bytes_eq n) seen) (cond b (Some c) None)
    same false h e = sym (or_none (lookup (bytes_eq n) seen))
    same true h e = there (lookup (bytes_eq n) seen) (Some c) (subst (λ x. is_some (lookup (bytes_eq x) seen) ≡ true) (sym (bytes_exact n m e)) h)

    go : (b : Bool) → is_some (lookup (bytes_eq m) seen) ≡ b → lookup (bytes_eq n) (add_first seen m c) ≡ option_or (lookup (bytes_eq n) seen) (cond (bytes_eq n m) (Some c) None)
    go true h = rw h (same (bytes_eq n m) h refl)
    go false h = rw h (lookup_end n m c seen)

first_next : (b : Bool) (r : Row) (o : Option Row) → option_or (cond b (Some r.property.column) None) (option_map (λ (q : Row). q.property.column) o) ≡ option_map (λ (q : Row). q.property.column) (cond b (Some r) o)
first_next true r o = refl
first_next false r o = refl

firsts_from : (n : List ℕ) (seen : List (List ℕ × ℕ)) (rs : List Row) → lookup (bytes_eq n) (firsts_after seen rs) ≡ option_or (lookup (bytes_eq n) seen) (first_column rs n)
firsts_from n seen [] = sym (or_none (lookup (bytes_eq n) seen))
firsts_from n seen (r ∷ rs) =
    firsts_from n (add_first seen r.property.name r.property.column) rs
    ∙ ap (λ o. option_or o (first_column rs n)) (lookup_first n r.property.name r.property.column seen)
    ∙ or_assoc (lookup (bytes_eq n) seen) (cond (bytes_eq n r.property.name) (Some r.property.column) None) (first_column rs n)
    ∙ ap (option_or (lookup (bytes_eq n) seen)) (first_next (bytes_eq n r.property.name) r (find (λ (q : Row). bytes_eq n q.property.name) rs))

pub columns_by_firsts : (rs : List Row) → two_columns rs ≡ other_column (firsts_after [] rs) rs
columns_by_firsts rs = any_same (λ (r : Row). not (is_place (first_column rs r.property.name) r.property.column)) (λ r. not (is_place (lookup (bytes_eq r.property.name) (firsts_after [] rs)) r.property.column)) (λ r. ap (λ o. not (is_place o r.property.column)) (sym (firsts_from r.property.name [] rs))) rs

-- WHAT THE CODE FINDS

-- the rows that the code finds are those of the element tables
pub lacks_found : (ls : List (List ℕ)) (e f : ElementEntry) (qs rs : List Row) → qs ≡ rows e → rs ≡ rows f → lacks_by_kind ls qs rs ≡ lacks_by_kind ls (rows e) (rows f)
lacks_found ls e f qs rs hq hr = λ i. lacks_by_kind ls (hq i) (hr i)

pub lacks_is : (e f : ElementEntry) (ls : List (List ℕ)) → ls ≡ add_all [] (labels_in e) → lacks_by_kind ls (rows e) (rows f) ≡ lacks e f
lacks_is e f ls hl = ap (λ l. lacks_by_kind l (rows e) (rows f)) hl ∙ sym (lacks_by_kinds (labels_in e) (rows e) (rows f))

pub clash_is : (e f : ElementEntry) (qs rs : List Row) → qs ≡ rows e → rs ≡ rows f → clash_by_kind qs rs ≡ clash e f
clash_is e f qs rs hq hr = (λ i. clash_by_kind (hq i) (hr i)) ∙ sym (clash_by_kinds (rows e) (rows f))

pub columns_is : (e : ElementEntry) (rs : List Row) → rs ≡ rows e → other_column (firsts_after [] rs) rs ≡ two_columns (rows e)
columns_is e rs hr = (λ i. other_column (firsts_after [] (hr i)) (hr i)) ∙ sym (columns_by_firsts (rows e))
