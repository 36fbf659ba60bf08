-- The slots of a joined tuple are those of the tuple's lists, by the degrees of the query's variables.
use Rattle.std.proofs.Common.{◌≡◌, ◌≤◌, ◌<◌, ◌+◌, ◌^◌, ◌==◌, ◌||◌, ℕ, zero, suc, Bool, true, false, cond, not, is_some, List, [], ◌∷◌, ◌++◌, map, length, Contains, ◌⊎◌, inl, inr, refl, ap, sym, ◌∙◌, subst, eqb-true, arith, lit<}
use Rattle.std.specs.Prelude.{Option, Some, None, IfSome, filter, filter_map, option_map, find, slice_get}
use Rattle.std.specs.List.{list_any, range_with_len, cons_option}
use Rattle.std.specs.Option.{unwrap_or}
use Rattle.pg_keyed.specs.Lists.{Each}
use Rattle.pg_value.specs.declared.shape.ElemId.{ElemId}
use Rattle.pg_value.specs.declared.shape.Shapes.{Shapes}
use Rattle.pg_value.specs.Tables.{Tables, IsInOrder}
use Rattle.pg_meaning.specs.declared.checked.CFiller.{CFiller}
use Rattle.pg_meaning.specs.declared.checked.CPart.{CPart}
use Rattle.pg_meaning.specs.declared.checked.CPart.TheVariants.{Node, Edge, Group}
use Rattle.pg_meaning.specs.declared.checked.CheckedPath.{CheckedPath}
use Rattle.pg_meaning.specs.declared.checked.CheckedQuery.{CheckedQuery}
use Rattle.pg_meaning.specs.declared.checked.PathBinding.{PathBinding}
use Rattle.pg_meaning.specs.declared.checked.Bound.{Bound}
use Rattle.pg_meaning.specs.Meaning.{OfVars, value_of}
use Rattle.pg_meaning.specs.Walks.{Hop, edges_of}
use Rattle.pg_meaning.specs.Rounds.{quant_of}
use Rattle.pg_meaning.specs.Bindings.{Binding, path_binding}
use Rattle.pg_meaning.specs.Answers.{VarList, lists_with, lists_in, elems_found, assigned}
use Rattle.pg_meaning.specs.Outlines.{Outline, Spot, in_turn, spot, part_if, spots_in, spots_from, as_end, first_as_end, last_as_end, spots}
use Rattle.pg_meaning.specs.Mentions.{Mention, mention_at, mentions_in, mentions_from, first_mentions, Degree, Singleton, Grouped, degree_of}
use Rattle.pg_meaning.specs.Members.{in_nil, in_here, in_there, in_cons, in_map, from_map}
use Rattle.pg_meaning.specs.Sound.Patterns.{outline_of, outlines, same_number, variables_of}
use Rattle.pg_meaning.specs.Sound.Queries.{IsSoundQuery, mentions_of, degrees_of}
use Rattle.pg_meaning.specs.Sound.Bindings.{FitsDegree, slot_for, IsBoundOf, TuplesFit, BoundTuplesFit}
use Rattle.pg_join.specs.Joining.{list_in, first_of, list_of, lists_of}
use Rattle.pg_join.specs.Rows.{IsTuple, IsBoundTo, names, part_names, grouped_in, first_so, grouped, groups_of, slot_with, slots_of}

true_false : true ≡ false → ⊥
true_false h = cc

some_is : {X : Type 0} (x y : X) → Some x ≡ Some y → x ≡ y
some_is x y h = cc

none_some : {X : Type 0} (x : X) → None ≡ Some x → ⊥
none_some x h = cc

-- GROUP VARIABLES

-- whether the first spot that names a variable is quantified
abbrev at_spot : ℕ → Spot ℕ → Bool
at_spot x s = elim s.variable [ None ↦ false | Some y ↦ x == y ]

abbrev look : ℕ → List (Spot ℕ) → Option Bool
look x [] = None
look x (s ∷ ss) = cond (at_spot x s) (Some (is_some s.part)) (look x ss)

abbrev part_found : Option (Mention ℕ) → Option Bool
part_found o = option_map (λ m. is_some m.part) o

abbrev mention : ℕ → Spot ℕ → ℕ → Mention ℕ
mention path s v = record { variable = v; edge = s.edge; path = path; part = s.part; end = s.end }

look_is : (x path : ℕ) (ss : List (Spot ℕ)) → part_found (find (λ m. same_number x m.variable) (filter_map (mention_at path) ss)) ≡ look x ss
look_is x path [] = refl
look_is x path (s ∷ ss) = go s.variable (look_is x path ss)
  where
    found : (v : ℕ) (b : Bool) → part_found (find (λ m. same_number x m.variable) (filter_map (mention_at path) ss)) ≡ look x ss
        → part_found (cond b (Some (mention path s v)) (find (λ m. same_number x m.variable) (filter_map (mention_at path) ss))) ≡ cond b (Some (is_some s.part)) (look x ss)
    found v true r = refl
    found v false r = r

    go : (o : Option ℕ) → part_found (find (λ m. same_number x m.variable) (filter_map (mention_at path) ss)) ≡ look x ss
        → part_found (find (λ m. same_number x m.variable) (cons_option (option_map (mention path s) o) (filter_map (mention_at path) ss))) ≡ cond (elim o [ None ↦ false | Some y ↦ x == y ]) (Some (is_some s.part)) (look x ss)
    go None r = r
    go (Some v) r = found v (x == v) r

look_end : (x : ℕ) (s : Spot ℕ) (ss : List (Spot ℕ)) → look x (as_end s ∷ ss) ≡ look x (s ∷ ss)
look_end x s ss = refl

look_first : (x : ℕ) (ss : List (Spot ℕ)) → look x (first_as_end ss) ≡ look x ss
look_first x [] = refl
look_first x (s ∷ ss) = refl

look_last : (x : ℕ) (ss : List (Spot ℕ)) → look x (last_as_end ss) ≡ look x ss
look_last x [] = refl
look_last x (s ∷ []) = refl
look_last x (s ∷ t ∷ ss) = ap (λ o. cond (at_spot x s) (Some (is_some s.part)) o) (look_last x (t ∷ ss))

look_append : (x : ℕ) (ss ts : List (Spot ℕ)) → look x (ss ++ ts) ≡ first_so (look x ss) (look x ts)
look_append x [] ts = refl
look_append x (s ∷ ss) ts = go (at_spot x s) (look_append x ss ts)
  where
    go : (b : Bool) → look x (ss ++ ts) ≡ first_so (look x ss) (look x ts) → cond b (Some (is_some s.part)) (look x (ss ++ ts)) ≡ first_so (cond b (Some (is_some s.part)) (look x ss)) (look x ts)
    go true r = refl
    go false r = r

-- spots of one part
look_same : (x : ℕ) (q : Bool) (ss : List (Spot ℕ)) → Each (λ s. is_some s.part ≡ q) ss → look x ss ≡ cond (list_any (at_spot x) ss) (Some q) None
look_same x q [] e = refl
look_same x q (s ∷ ss) e = go (at_spot x s) (look_same x q ss e.1)
  where
    go : (b : Bool) → look x ss ≡ cond (list_any (at_spot x) ss) (Some q) None → cond b (Some (is_some s.part)) (look x ss) ≡ cond (b || list_any (at_spot x) ss) (Some q) None
    go true r = ap Some e.0
    go false r = r

each_turn : (P : Spot ℕ → Type 0) (ns es : List (Spot ℕ)) → Each P ns → Each P es → Each P (in_turn ns es)
each_turn P [] es n e = e
each_turn P (n ∷ ns) [] h e = h
each_turn P (n ∷ ns) (f ∷ es) h e = (h.0, (e.0, each_turn P ns es h.1 e.1))

or_false : (b : Bool) → (b || false) ≡ b
or_false true = refl
or_false false = refl

or_turn : (a b c d : Bool) → (a || (b || (c || d))) ≡ ((a || c) || (b || d))
or_turn true b c d = refl
or_turn false true true d = refl
or_turn false true false d = refl
or_turn false false c d = refl

any_turn : (x : ℕ) (ns es : List (Spot ℕ)) → list_any (at_spot x) (in_turn ns es) ≡ (list_any (at_spot x) ns || list_any (at_spot x) es)
any_turn x [] es = refl
any_turn x (n ∷ ns) [] = sym (or_false (list_any (at_spot x) (n ∷ ns)))
any_turn x (n ∷ ns) (e ∷ es) =
    ap (λ b. at_spot x n || (at_spot x e || b)) (any_turn x ns es) ∙ or_turn (at_spot x n) (at_spot x e) (list_any (at_spot x) ns) (list_any (at_spot x) es)

some_if : (b : Bool) (n : ℕ) → is_some (part_if b n) ≡ b
some_if true n = refl
some_if false n = refl

each_spot : (edge b : Bool) (n : ℕ) (vs : List (Option ℕ)) → Each (λ (s : Spot ℕ). is_some s.part ≡ b) (map (spot edge (part_if b n)) vs)
each_spot edge b n [] = tt
each_spot edge b n (v ∷ vs) = (some_if b n, each_spot edge b n vs)

any_spot : (x : ℕ) (edge : Bool) (part : Option ℕ) (fs : List CFiller) → list_any (at_spot x) (map (spot edge part) (map (λ f. f.var) fs)) ≡ list_any (names x) fs
any_spot x edge part [] = refl
any_spot x edge part (f ∷ fs) = ap (λ b. names x f || b) (any_spot x edge part fs)

look_in : (x n : ℕ) (o : Outline ℕ) → look x (spots_in n o) ≡ cond (list_any (at_spot x) (map (spot false (part_if (is_some o.quant) n)) o.nodes) || list_any (at_spot x) (map (spot true (part_if (is_some o.quant) n)) o.edges)) (Some (is_some o.quant)) None
look_in x n o =
    let b = is_some o.quant in
    let ns = map (spot false (part_if b n)) o.nodes in
    let es = map (spot true (part_if b n)) o.edges in
    look_same x b (in_turn ns es) (each_turn (λ (s : Spot ℕ). is_some s.part ≡ b) ns es (each_spot false b n o.nodes) (each_spot true b n o.edges))
    ∙ ap (λ a. cond a (Some b) None) (any_turn x ns es)

look_part : (x n : ℕ) (part : CPart) → look x (spots_in n (outline_of part)) ≡ cond (part_names x part) (Some (is_some (quant_of part))) None
look_part x n (Node f) = refl
look_part x n (Edge arrow f quant) = look_in x n (outline_of (Edge arrow f quant)) ∙ ap (λ a. cond a (Some (is_some quant)) None) (or_false (names x f))
look_part x n (Group nodes arrows edges condition quant) =
    look_in x n (outline_of (Group nodes arrows edges condition quant))
    ∙ (λ i. cond (any_spot x false (part_if (is_some quant) n) nodes i || any_spot x true (part_if (is_some quant) n) edges i) (Some (is_some quant)) None)

first_cond : (b q : Bool) (o : Option Bool) → first_so (cond b (Some q) None) o ≡ cond b (Some q) o
first_cond true q o = refl
first_cond false q o = refl

look_parts : (x n : ℕ) (parts : List CPart) → look x (spots_from n (map outline_of parts)) ≡ grouped_in x parts
look_parts x n [] = refl
look_parts x n (part ∷ parts) =
    look_append x (spots_in n (outline_of part)) (spots_from (n + 1) (map outline_of parts))
    ∙ (λ i. first_so (look_part x n part i) (look_parts x (n + 1) parts i))
    ∙ first_cond (part_names x part) (is_some (quant_of part)) (grouped_in x parts)

in_path : (x path : ℕ) (p : CheckedPath) → part_found (find (λ m. same_number x m.variable) (mentions_in path (outlines p))) ≡ grouped_in x p.parts
in_path x path p =
    look_is x path (spots (outlines p)) ∙ look_last x (first_as_end (spots_from 0 (outlines p))) ∙ look_first x (spots_from 0 (outlines p)) ∙ look_parts x 0 p.parts

find_append : (test : Mention ℕ → Bool) (ms ns : List (Mention ℕ)) → part_found (find test (ms ++ ns)) ≡ first_so (part_found (find test ms)) (part_found (find test ns))
find_append test [] ns = refl
find_append test (m ∷ ms) ns = go (test m) (find_append test ms ns)
  where
    go : (b : Bool) → part_found (find test (ms ++ ns)) ≡ first_so (part_found (find test ms)) (part_found (find test ns)) → part_found (cond b (Some m) (find test (ms ++ ns))) ≡ first_so (part_found (cond b (Some m) (find test ms))) (part_found (find test ns))
    go true r = refl
    go false r = r

in_paths : (x path : ℕ) (paths : List CheckedPath) → part_found (find (λ m. same_number x m.variable) (mentions_from path (map outlines paths))) ≡ grouped x paths
in_paths x path [] = refl
in_paths x path (p ∷ paths) =
    find_append (λ m. same_number x m.variable) (mentions_in path (outlines p)) (mentions_from (path + 1) (map outlines paths))
    ∙ (λ i. first_so (in_path x path p i) (in_paths x (path + 1) paths i))

abbrev is_grouped : Degree → Bool
is_grouped Singleton = false
is_grouped Grouped = true

grouped_by : (b : Bool) → is_grouped (cond b Grouped Singleton) ≡ b
grouped_by true = refl
grouped_by false = refl

pub group_of : (q : CheckedQuery) (x : ℕ) (d : Degree) → degrees_of q x ≡ Some d → grouped x q.paths ≡ Some (is_grouped d)
group_of q x d h = sym (in_paths x 0 q.paths) ∙ go (find (λ m. same_number x m.variable) (mentions_of q)) h
  where
    go : (o : Option (Mention ℕ)) → option_map degree_of o ≡ Some d → part_found o ≡ Some (is_grouped d)
    go None e = absurd (none_some d e)
    go (Some m) e = ap Some (sym (grouped_by (is_some m.part)) ∙ ap is_grouped (some_is (degree_of m) d e))

-- THE VARIABLES OF A QUERY

found_there : (x : ℕ) (ms : List (Mention ℕ)) (m : Mention ℕ) → find (λ n. same_number x n.variable) ms ≡ Some m → Contains ms m × (x ≡ m.variable)
found_there x [] m h = absurd (none_some m h)
found_there x (n ∷ ms) m h = go (x == n.variable) refl h (λ k. found_there x ms m k)
  where
    go : (b : Bool) → (x == n.variable) ≡ b → cond b (Some n) (find (λ k. same_number x k.variable) ms) ≡ Some m → (find (λ k. same_number x k.variable) ms ≡ Some m → Contains ms m × (x ≡ m.variable)) → Contains (n ∷ ms) m × (x ≡ m.variable)
    go true e k again = let s = some_is n m k in (in_here n ms m s, eqb-true x n.variable e ∙ ap (λ (z : Mention ℕ). z.variable) s)
    go false e k again = let r = again k in (in_there n ms m r.0, r.1)

kept_first : (test : Mention ℕ → Bool) (ms : List (Mention ℕ)) (m : Mention ℕ) → Contains ms m → test m ≡ true → Contains (filter test ms) m
kept_first test [] m c t = absurd (in_nil m c)
kept_first test (n ∷ ms) m c t = go (test n) refl (in_cons n ms m c) (λ r. kept_first test ms m r t)
  where
    go : (b : Bool) → test n ≡ b → (n ≡ m) ⊎ Contains ms m → (Contains ms m → Contains (filter test ms) m) → Contains (cond b (n ∷ filter test ms) (filter test ms)) m
    go true e (inl s) again = in_here n (filter test ms) m s
    go true e (inr r) again = in_there n (filter test ms) m (again r)
    go false e (inl s) again = absurd (true_false (sym t ∙ ap test (sym s) ∙ e))
    go false e (inr r) again = again r

abbrev others : Mention ℕ → List (Mention ℕ) → List (Mention ℕ)
others m ms = filter (λ n. not (same_number m.variable n.variable)) (first_mentions same_number ms)

first_or_other : (m : Mention ℕ) (ms : List (Mention ℕ)) (n : Mention ℕ) (x : ℕ) → Contains (first_mentions same_number ms) n → n.variable ≡ x → (b : Bool) → (m.variable == n.variable) ≡ b → Contains (variables_of (m ∷ ms)) x
first_or_other m ms n x c s true f = in_here m.variable (map (λ (o : Mention ℕ). o.variable) (others m ms)) x (eqb-true m.variable n.variable f ∙ s)
first_or_other m ms n x c s false f = in_there m.variable (map (λ (o : Mention ℕ). o.variable) (others m ms)) x
    (subst (λ y. Contains (map (λ (o : Mention ℕ). o.variable) (others m ms)) y) s (in_map (λ (o : Mention ℕ). o.variable) (others m ms) n (kept_first (λ o. not (same_number m.variable o.variable)) (first_mentions same_number ms) n c (ap not f))))

first_there : (ms : List (Mention ℕ)) (x : ℕ) → Contains (map (λ m. m.variable) ms) x → Contains (variables_of ms) x
first_there [] x c = c
first_there (m ∷ ms) x c = elim (in_cons m.variable (map (λ n. n.variable) ms) x c) [
  | inl e ↦ in_here m.variable (map (λ (n : Mention ℕ). n.variable) (others m ms)) x e
  | inr r ↦ (let k = from_map (λ (n : Mention ℕ). n.variable) (first_mentions same_number ms) x (first_there ms x r) in first_or_other m ms k.0 x k.1 k.2 (m.variable == k.0.variable) refl)
]

below : (a n x : ℕ) → Contains (range_with_len a n) x → x < a + n
below a zero x c = absurd (in_nil x c)
below a (suc n) x c = elim (in_cons a (range_with_len (a + 1) n) x c) [ inl e ↦ omega arith | inr r ↦ (let l = below (a + 1) n x r in omega arith) ]

at_range : {X : Type 0} (f : ℕ → X) (a n i : ℕ) → i < n → slice_get (map f (range_with_len a n)) i ≡ Some (f (a + i))
at_range f a zero i l = absurd (omega arith)
at_range f a (suc n) zero l = ap (λ k. Some (f k)) (omega arith)
at_range f a (suc n) (suc i) l = at_range f (a + 1) n i (omega arith) ∙ ap (λ k. Some (f k)) (omega arith)

pub is_variable : (shapes : Shapes) (q : CheckedQuery) (x : ℕ) (d : Degree) → IsSoundQuery shapes q → degrees_of q x ≡ Some d → x < q.vars
is_variable shapes q x d sound h = go (find (λ m. same_number x m.variable) (mentions_of q)) refl h
  where
    go : (o : Option (Mention ℕ)) → find (λ m. same_number x m.variable) (mentions_of q) ≡ o → option_map degree_of o ≡ Some d → x < q.vars
    go None e k = absurd (none_some d k)
    go (Some m) e k =
        let f = found_there x (mentions_of q) m e in
        let c = first_there (mentions_of q) x (subst (λ y. Contains (map (λ (n : Mention ℕ). n.variable) (mentions_of q)) y) (sym f.1) (in_map (λ (n : Mention ℕ). n.variable) (mentions_of q) m f.0)) in
        let l = below 0 q.vars x (subst (λ vs. Contains vs x) sound.numbered c) in
        omega arith

-- THE LISTS OF A TUPLE

pub lists_are : (paths : List CheckedPath) (bs : List Binding) → lists_of paths (map path_binding bs) ≡ lists_in paths bs
lists_are [] [] = refl
lists_are [] (b ∷ bs) = refl
lists_are (p ∷ paths) [] = refl
lists_are (p ∷ paths) (b ∷ bs) = ap (λ ls. lists_with p.vars b.vars ++ ls) (lists_are paths bs)

abbrev given_list : Option VarList → Option (List ElemId)
given_list o = option_map (λ l. l.elems) o

find_in : (vars : List ℕ) (lists : List (List ElemId)) (x : ℕ) → given_list (find (λ l. l.var == x) (lists_with vars lists)) ≡ list_in vars lists x
find_in [] lists x = refl
find_in (y ∷ vars) [] x = refl
find_in (y ∷ vars) (m ∷ lists) x = go (y == x) (find_in vars lists x)
  where
    go : (b : Bool) → given_list (find (λ l. l.var == x) (lists_with vars lists)) ≡ list_in vars lists x → given_list (cond b (Some (record { var = y; elems = m })) (find (λ l. l.var == x) (lists_with vars lists))) ≡ cond b (Some m) (list_in vars lists x)
    go true r = refl
    go false r = r

find_both : (test : VarList → Bool) (ls ms : List VarList) → given_list (find test (ls ++ ms)) ≡ first_of (given_list (find test ls)) (given_list (find test ms))
find_both test [] ms = refl
find_both test (l ∷ ls) ms = go (test l) (find_both test ls ms)
  where
    go : (b : Bool) → given_list (find test (ls ++ ms)) ≡ first_of (given_list (find test ls)) (given_list (find test ms)) → given_list (cond b (Some l) (find test (ls ++ ms))) ≡ first_of (given_list (cond b (Some l) (find test ls))) (given_list (find test ms))
    go true r = refl
    go false r = r

find_of : (paths : List CheckedPath) (t : List PathBinding) (x : ℕ) → given_list (find (λ l. l.var == x) (lists_of paths t)) ≡ list_of paths t x
find_of [] t x = refl
find_of (p ∷ paths) [] x = refl
find_of (p ∷ paths) (b ∷ t) x =
    find_both (λ l. l.var == x) (lists_with p.vars b.vars) (lists_of paths t) ∙ (λ i. first_of (find_in p.vars b.vars x i) (find_of paths t x i))

found_is : (o : Option VarList) → elems_found o ≡ unwrap_or (given_list o) []
found_is None = refl
found_is (Some l) = refl

pub assigned_is : (paths : List CheckedPath) (t : List PathBinding) (x : ℕ) → assigned (lists_of paths t) x ≡ unwrap_or (list_of paths t x) []
assigned_is paths t x = found_is (find (λ l. l.var == x) (lists_of paths t)) ∙ ap (λ o. unwrap_or o []) (find_of paths t x)

-- SLOTS

slot_is : (tables : Tables) (hops : ℕ) (d : Degree) (elems : List ElemId) → FitsDegree tables hops d elems → Some (slot_with (is_grouped d) elems) ≡ slot_for d elems
slot_is tables hops Grouped elems f = refl
slot_is tables hops Singleton [] f = absurd (no f.1)
  where
    no : {e : ElemId} → [] ≡ e ∷ [] → ⊥
    no h = cc
slot_is tables hops Singleton (e ∷ []) f = refl
slot_is tables hops Singleton (e ∷ g ∷ elems) f = absurd (no f.1)
  where
    no : {h : ElemId} → e ∷ g ∷ elems ≡ h ∷ [] → ⊥
    no k = cc

all_hops : (n : ℕ) (bs : List Binding) → Each (λ (b : PathBinding). length b.edges ≤ n) (map path_binding bs) → Each (λ b. length b.hops ≤ n) bs
all_hops n [] e = tt
all_hops n (b ∷ bs) e = (let l = e.0 in let m = long b.hops in omega arith, all_hops n bs e.1)
  where
    long : (hops : List Hop) → length (edges_of hops) ≡ length hops
    long [] = refl
    long (h ∷ hops) = ap suc (long hops)

pub bound_fits : (shapes : Shapes) (tables : Tables) (q : CheckedQuery) (tuple : List PathBinding) (groups : List Bool) (bound : Bound) → TuplesFit → BoundTuplesFit → IsSoundQuery shapes q → IsInOrder tables
    → IsTuple shapes tables q tuple → Each (λ (b : PathBinding). length b.edges ≤ 2 ^ 47) tuple → groups ≡ groups_of q → bound.vars ≡ slots_of q groups tuple → IsBoundTo shapes tables q tuple bound
bound_fits shapes tables q tuple groups bound fits slots sound order t short g v =
    let bs = t.bindings in
    let few = all_hops (2 ^ 47) bs (subst (λ ts. Each (λ (b : PathBinding). length b.edges ≤ 2 ^ 47) ts) t.given short) in
    let all = slots shapes tables q bs (2 ^ 47) bound sound order t.fits few (lit< tt) (is_bound bs t.given (fits shapes tables q bs (2 ^ 47) sound order t.fits few)) in
    record {
      slots = all.slots;
      value = λ x s. all.value x s ∙ ap (λ ls. value_of x (OfVars tables (assigned ls))) (sym (ap (lists_of q.paths) t.given ∙ lists_are q.paths bs));
    }
  where
    is_bound : (bs : List Binding) → tuple ≡ map path_binding bs → ((x : ℕ) → IfSome (degrees_of q x) (λ d. FitsDegree tables (2 ^ 47) d (assigned (lists_in q.paths bs) x))) → IsBoundOf q bs bound
    is_bound bs same f = λ x. one x (degrees_of q x) refl (f x)
      where
        one : (x : ℕ) (o : Option Degree) → degrees_of q x ≡ o → IfSome o (λ d. FitsDegree tables (2 ^ 47) d (assigned (lists_in q.paths bs) x)) → IfSome o (λ d. slice_get bound.vars x ≡ slot_for d (assigned (lists_in q.paths bs) x))
        one x None e h = tt
        one x (Some d) e h =
            let l = is_variable shapes q x d sound e in
            let elems : unwrap_or (list_of q.paths tuple x) [] ≡ assigned (lists_in q.paths bs) x =
            sym (assigned_is q.paths tuple x) ∙ ap (λ ts. assigned (lists_of q.paths ts) x) same ∙ ap (λ ls. assigned ls x) (lists_are q.paths bs) in
            let group : unwrap_or (slice_get groups x) false ≡ is_grouped d =
            ap (λ gs. unwrap_or (slice_get gs x) false) g ∙ ap (λ o. unwrap_or o false) (at_range (λ y. unwrap_or (grouped y q.paths) false) 0 q.vars x l)
            ∙ ap (λ y. unwrap_or (grouped y q.paths) false) (omega arith) ∙ ap (λ o. unwrap_or o false) (group_of q x d e) in
            ap (λ vs. slice_get vs x) v ∙ at_range (λ y. slot_with (unwrap_or (slice_get groups y) false) (unwrap_or (list_of q.paths tuple y) [])) 0 q.vars x l
            ∙ ap (λ y. Some (slot_with (unwrap_or (slice_get groups y) false) (unwrap_or (list_of q.paths tuple y) []))) (omega arith)
            ∙ (λ i. Some (slot_with (group i) (elems i))) ∙ slot_is tables (2 ^ 47) d (assigned (lists_in q.paths bs) x) h
