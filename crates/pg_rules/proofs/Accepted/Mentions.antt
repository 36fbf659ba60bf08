-- What the mentions of a query say of its path patterns one by one, and of the checked query.
use Rattle.std.proofs.Common.{◌≡◌, ◌+◌, ◌==◌, ◌||◌, ◌&&◌, ℕ, suc, Bool, true, false, cond, not, is_some, refl, ap, sym, ◌∙◌, subst, arith, eq-eqb, List, [], ◌∷◌, ◌++◌, map, Contains, inl, inr, Option, Some, None, find}
use Rattle.std.specs.Prelude.{option_map, slice_get, filter_map, filter}
use Rattle.std.specs.List.{flat_map, cons_option}
use Rattle.pg_keyed.specs.Lists.{Each, each_map}
use Rattle.pg_ast.specs.declared.expr.Name.{Name}
use Rattle.pg_ast.specs.declared.pattern.PathPattern.{PathPattern}
use Rattle.pg_ast.specs.declared.pattern.Query.{Query}
use Rattle.pg_meaning.specs.Members.{in_nil, in_cons, in_here, in_there, from_any, from_map, in_filter}
use Rattle.pg_meaning.specs.Outlines.{Outline, Spot, spots, walks_on}
use Rattle.pg_meaning.specs.Mentions.{Mention, Degree, mention_at, mentions_in, mentions_from, first_mentions, degree_of, degree_in, same_part, same_sort, clash}
use Rattle.pg_meaning.specs.Sound.Patterns.{NoPair, same_number}
use Rattle.pg_rules.specs.Places.{place_if}
use Rattle.pg_rules.specs.Queries.{is_among, is_strict, walks_on_in, later_of}
use Rattle.pg_rules.specs.Queries.Collections.{same_name, outlines}
use Rattle.pg_rules.specs.Queries.CheckedQueries.{number_of, numbered}
use Rattle.pg_rules.proofs.KeptSound.EmptyPlaces.{left_nil, right_nil, each_nil, no_place}
use Rattle.pg_rules.proofs.Accepted.Lists.{each_left, each_right, each_unmap, each_over}
use Rattle.pg_rules.proofs.Accepted.Properties.{item_found}
use Rattle.pg_rules.proofs.Accepted.Numbers.{Knows, variable, decides}

-- PAIRS

pub no_pair_left : {X : Type 0} (test : X → X → Bool) (xs ys : List X) → NoPair test (xs ++ ys) → NoPair test xs
no_pair_left test [] ys h = tt
no_pair_left test (x ∷ xs) ys h = (each_left (λ y. test x y ≡ false) xs ys h.0, no_pair_left test xs ys h.1)

pub no_pair_right : {X : Type 0} (test : X → X → Bool) (xs ys : List X) → NoPair test (xs ++ ys) → NoPair test ys
no_pair_right test [] ys h = h
no_pair_right test (x ∷ xs) ys h = no_pair_right test xs ys h.1

-- a test of an image that says of these items what another says
each_agrees : {X : Type 0} (P : X → Type 0) (a b : X → Bool) → ((x : X) → P x → a x ≡ b x) → (xs : List X) → Each P xs → Each (λ x. a x ≡ false) xs → Each (λ x. b x ≡ false) xs
each_agrees P a b f [] p h = tt
each_agrees P a b f (x ∷ xs) p h = (sym (f x p.0) ∙ h.0, each_agrees P a b f xs p.1 h.1)

pub no_pair_agrees : {X : Type 0} (P : X → Type 0) (a b : X → X → Bool) → ((x y : X) → P x → P y → a x y ≡ b x y) → (xs : List X) → Each P xs → NoPair a xs → NoPair b xs
no_pair_agrees P a b f [] p h = tt
no_pair_agrees P a b f (x ∷ xs) p h = (each_agrees P (a x) (b x) (λ y q. f x y p.0 q) xs p.1 h.0, no_pair_agrees P a b f xs p.1 h.1)

pub no_pair_over : {X Y : Type 0} (f : X → Y) (test : Y → Y → Bool) (xs : List X) → NoPair (λ x y. test (f x) (f y)) xs → NoPair test (map f xs)
no_pair_over f test [] h = tt
no_pair_over f test (x ∷ xs) h = (each_over (λ y. test (f x) y ≡ false) f xs h.0, no_pair_over f test xs h.1)

pub no_pair_under : {X Y : Type 0} (f : X → Y) (test : Y → Y → Bool) (xs : List X) → NoPair test (map f xs) → NoPair (λ x y. test (f x) (f y)) xs
no_pair_under f test [] h = tt
no_pair_under f test (x ∷ xs) h = (each_unmap (λ y. test (f x) y ≡ false) f xs h.0, no_pair_under f test xs h.1)

pub none_later : (test : Mention Name → Mention Name → Bool) (ms : List (Mention Name)) → later_of test ms ≡ [] → NoPair test ms
none_later test [] h = tt
none_later test (m ∷ ms) h =
    let place : Mention Name → List ℕ = λ (n : Mention Name). place_if (test m n) n.variable.at in (
      each_map (λ (n : Mention Name). place n ≡ []) (λ (n : Mention Name). test m n ≡ false) (λ n e. no_place (test m n) n.variable.at e) ms
          (each_nil place ms (left_nil (flat_map place ms) (later_of test ms) h)),
      none_later test ms (right_nil (flat_map place ms) (later_of test ms) h),
    )

-- THE NUMBER OF A PATH PATTERN

abbrev at_path : ℕ → Mention Name → Mention Name
at_path n m = record { variable = m.variable; edge = m.edge; path = n; part = m.part; end = m.end }

mention_moved : (n : ℕ) (s : Spot Name) → mention_at n s ≡ option_map (at_path n) (mention_at 0 s)
mention_moved n s = go s.variable
  where
    go : (o : Option Name)
        → option_map (λ (v : Name). record { variable = v; edge = s.edge; path = n; part = s.part; end = s.end }) o ≡ option_map (at_path n) (option_map (λ (v : Name). record { variable = v; edge = s.edge; path = 0; part = s.part; end = s.end }) o)
    go None = refl
    go (Some v) = refl

cons_moved : (n : ℕ) (o : Option (Mention Name)) (ms : List (Mention Name)) → cons_option (option_map (at_path n) o) (map (at_path n) ms) ≡ map (at_path n) (cons_option o ms)
cons_moved n None ms = refl
cons_moved n (Some m) ms = refl

spots_moved : (n : ℕ) (ss : List (Spot Name)) → filter_map (mention_at n) ss ≡ map (at_path n) (filter_map (mention_at 0) ss)
spots_moved n [] = refl
spots_moved n (s ∷ ss) = (λ i. cons_option (mention_moved n s i) (spots_moved n ss i)) ∙ cons_moved n (mention_at 0 s) (filter_map (mention_at 0) ss)

-- the mentions of a path pattern, but for its number
mentions_moved : (n : ℕ) (os : List (Outline Name)) → mentions_in n os ≡ map (at_path n) (mentions_in 0 os)
mentions_moved n os = spots_moved n (spots os)

spots_first : (ss : List (Spot Name)) → Each (λ (m : Mention Name). m.path ≡ 0) (filter_map (mention_at 0) ss)
spots_first [] = tt
spots_first (s ∷ ss) = go s.variable (spots_first ss)
  where
    go : (o : Option Name) → Each (λ (m : Mention Name). m.path ≡ 0) (filter_map (mention_at 0) ss)
        → Each (λ (m : Mention Name). m.path ≡ 0) (cons_option (option_map (λ (v : Name). record { variable = v; edge = s.edge; path = 0; part = s.part; end = s.end }) o) (filter_map (mention_at 0) ss))
    go None r = r
    go (Some v) r = (refl, r)

-- PATH PATTERNS ONE BY ONE

pub paths_known : (vs : List Name) (n : ℕ) (ps : List PathPattern) → Knows vs (mentions_from n (map outlines ps)) → Each (λ p. Knows vs (mentions_in 0 (outlines p))) ps
paths_known vs n [] h = tt
paths_known vs n (p ∷ ps) h = (
  each_unmap (λ (m : Mention Name). is_among vs m.variable ≡ true) (at_path n) (mentions_in 0 (outlines p))
      (subst (Knows vs) (mentions_moved n (outlines p)) (each_left (λ (m : Mention Name). is_among vs m.variable ≡ true) (mentions_in n (outlines p)) (mentions_from (n + 1) (map outlines ps)) h)),
  paths_known vs (n + 1) ps (each_right (λ (m : Mention Name). is_among vs m.variable ≡ true) (mentions_in n (outlines p)) (mentions_from (n + 1) (map outlines ps)) h),
)

-- a mention whose variable is among the variables, in a path pattern of number 0
pub record IsOwn (vs : List Name) (m : Mention Name) : Type 0 where
  pub known : is_among vs m.variable ≡ true
  pub first : m.path ≡ 0

-- whether two mentions clash, by their names and the number of their path pattern, or by their numbers
clash_moved : (vs : List Name) (strict : ℕ → Bool) (n : ℕ) (walks : Bool) → strict n ≡ walks → (a b : Mention Name) → IsOwn vs a → IsOwn vs b
    → clash same_name strict (at_path n a) (at_path n b) ≡ clash same_number (λ path. walks) (numbered vs a) (numbered vs b)
clash_moved vs strict n walks h a b x y =
    let zero_path : (a.path == b.path) ≡ true = (λ i. x.first i == y.first i) ∙ eq-eqb 0 0 refl in
    let same_path : (n == n) ≡ (a.path == b.path) = eq-eqb n n refl ∙ sym zero_path in
    λ i. sym (decides vs a.variable b.variable x.known y.known) i
    && (not (same_sort a.edge b.edge) || (((is_some a.part || is_some b.part) && not (same_path i && same_part a.part b.part)) || (h i && (same_path i && not (a.end && b.end)))))

both_own : (vs : List Name) (ms : List (Mention Name)) → Knows vs ms → Each (λ (m : Mention Name). m.path ≡ 0) ms → Each (IsOwn vs) ms
both_own vs [] h k = tt
both_own vs (m ∷ ms) h k = (record { known = h.0; first = k.0 }, both_own vs ms h.1 k.1)

abbrev pub IsApart : List Name → PathPattern → Type 0
IsApart vs p = NoPair (λ (m n : Mention Name). clash same_number (λ path. walks_on p.mode (outlines p)) (numbered vs m) (numbered vs n)) (mentions_in 0 (outlines p))

pub paths_apart : (vs : List Name) (q : Query) (n : ℕ) (ps : List PathPattern) → ((k : ℕ) → slice_get ps k ≡ slice_get q.paths (n + k)) → Each (λ p. Knows vs (mentions_in 0 (outlines p))) ps
    → NoPair (clash same_name (is_strict q)) (mentions_from n (map outlines ps)) → Each (IsApart vs) ps
paths_apart vs q n [] at known h = tt
paths_apart vs q n (p ∷ ps) at known h = (own, paths_apart vs q (n + 1) ps (λ k. let next : n + suc k ≡ (n + 1) + k = omega arith in at (suc k) ∙ ap (slice_get q.paths) next) known.1 rest)
  where
    test : Mention Name → Mention Name → Bool
    test = clash same_name (is_strict q)

    rest : NoPair test (mentions_from (n + 1) (map outlines ps))
    rest = no_pair_right test (mentions_in n (outlines p)) (mentions_from (n + 1) (map outlines ps)) h

    here : NoPair test (map (at_path n) (mentions_in 0 (outlines p)))
    here = subst (NoPair test) (mentions_moved n (outlines p)) (no_pair_left test (mentions_in n (outlines p)) (mentions_from (n + 1) (map outlines ps)) h)

    strict : is_strict q n ≡ walks_on p.mode (outlines p)
    strict = let first : n ≡ n + 0 = omega arith in ap walks_on_in (ap (slice_get q.paths) first ∙ sym (at 0))

    own : IsApart vs p
    own = no_pair_agrees (IsOwn vs) (λ x y. test (at_path n x) (at_path n y)) (λ x y. clash same_number (λ path. walks_on p.mode (outlines p)) (numbered vs x) (numbered vs y))
        (λ x y a b. clash_moved vs (is_strict q) n (walks_on p.mode (outlines p)) strict x y a b) (mentions_in 0 (outlines p))
        (both_own vs (mentions_in 0 (outlines p)) known.0 (spots_first (spots (outlines p)))) (no_pair_under (at_path n) test (mentions_in 0 (outlines p)) here)

-- THE CHECKED QUERY

pub clash_numbered : (vs : List Name) (strict other : ℕ → Bool) → ((path : ℕ) → other path ≡ strict path) → (a b : Mention Name) → is_among vs a.variable ≡ true → is_among vs b.variable ≡ true
    → clash same_name strict a b ≡ clash same_number other (numbered vs a) (numbered vs b)
clash_numbered vs strict other h a b x y =
    λ i. sym (decides vs a.variable b.variable x y) i
    && (not (same_sort a.edge b.edge)
    || (((is_some a.part || is_some b.part) && not ((a.path == b.path) && same_part a.part b.part)) || (sym (h a.path) i && ((a.path == b.path) && not (a.end && b.end)))))

found_numbered : (vs : List Name) (v : Name) → is_among vs v ≡ true → (ms : List (Mention Name)) → Knows vs ms
    → find (λ (m : Mention ℕ). same_number (number_of vs v) m.variable) (map (numbered vs) ms) ≡ option_map (numbered vs) (find (λ (m : Mention Name). same_name v m.variable) ms)
found_numbered vs v h [] k = refl
found_numbered vs v h (m ∷ ms) k = go (same_name v m.variable) (number_of vs v == number_of vs m.variable) (decides vs v m.variable h k.0) (found_numbered vs v h ms k.1)
  where
    left : Option (Mention ℕ)
    left = find (λ (n : Mention ℕ). same_number (number_of vs v) n.variable) (map (numbered vs) ms)

    right : Option (Mention Name)
    right = find (λ (n : Mention Name). same_name v n.variable) ms

    go : (a b : Bool) → b ≡ a → left ≡ option_map (numbered vs) right → cond b (Some (numbered vs m)) left ≡ option_map (numbered vs) (cond a (Some m) right)
    go true true e r = refl
    go false false e r = r
    go true false e r = absurd (cc)
    go false true e r = absurd (cc)

-- a variable's degree, by its number
pub degree_numbered : (vs : List Name) (v : Name) → is_among vs v ≡ true → (ms : List (Mention Name)) → Knows vs ms → degree_in same_number (map (numbered vs) ms) (number_of vs v) ≡ degree_in same_name ms v
degree_numbered vs v h ms k = ap (option_map degree_of) (found_numbered vs v h ms k) ∙ go (find (λ (m : Mention Name). same_name v m.variable) ms)
  where
    go : (o : Option (Mention Name)) → option_map degree_of (option_map (numbered vs) o) ≡ option_map degree_of o
    go None = refl
    go (Some m) = refl

first_in : (ms : List (Mention Name)) (m : Mention Name) → Contains (first_mentions same_name ms) m → Contains ms m
first_in [] m c = absurd (in_nil m c)
first_in (x ∷ ms) m c = elim (in_cons x (filter (λ (n : Mention Name). not (same_name x.variable n.variable)) (first_mentions same_name ms)) m c) [
  | inl e ↦ in_here x ms m e
  | inr r ↦ in_there x ms m (first_in ms m (in_filter (λ (n : Mention Name). not (same_name x.variable n.variable)) (first_mentions same_name ms) m r).0)
]

-- a variable has a degree
pub has_degree : (ms : List (Mention Name)) (v : Name) → is_among (map variable (first_mentions same_name ms)) v ≡ true → (x : Degree) × (degree_in same_name ms v ≡ Some x)
has_degree ms v h =
    let n = from_any (same_name v) (map variable (first_mentions same_name ms)) h in
    let m = from_map variable (first_mentions same_name ms) n.0 n.1 in
    let f = item_found (λ (k : Mention Name). same_name v k.variable) ms m.0 (first_in ms m.0 m.1) (ap (same_name v) m.2 ∙ n.2) in
    (degree_of f.0, ap (option_map degree_of) f.1)
