-- The answers of a query without ANY and ANY SHORTEST are one, up to order; in value order they are equal.
use Rattle.std.proofs.Common.{◌≡◌, ◌<◌, ℕ, suc, Bool, true, false, ◌&&◌, cond, List, [], ◌∷◌, map, Contains, refl, ap, sym, ◌∙◌, subst, arith, inl, inr, sum_by, is_lt, add-one}
use Rattle.std.specs.Prelude.{IsPermutation, IsSorted}
use Rattle.std.specs.List.{AllZip, list_all}
use Rattle.std.specs.declared.cmp.Ordering.{Ordering}
use Rattle.std.specs.declared.cmp.Ordering.TheVariants.{Less, Equal, Greater}
use Rattle.std.specs.Ordering.{is_eq}
use Rattle.std.proofs.lemmas.List.Sorted.{IsPermutation-refl, IsPermutation-sym, IsPermutation-trans, IsPermutation-cons, IsPermutation-middle, IsPermutation-map, Contains-permutation, sum_by-IsPermutation, ranks_by, sorted_far}
use Rattle.std.proofs.lemmas.List.Sums.{sum_by-cons}
use Rattle.pg_keyed.specs.Orders.{Exact, same, turn, is_equal}
use Rattle.pg_value.specs.declared.value.Value.{Value}
use Rattle.pg_value.specs.declared.row.Row.{Row}
use Rattle.pg_value.specs.declared.shape.Shapes.{Shapes}
use Rattle.pg_value.specs.Orders.{row_order, row_total, keys}
use Rattle.pg_value.specs.Tables.{Tables}
use Rattle.pg_ast.specs.declared.pattern.Selector.{Selector}
use Rattle.pg_ast.specs.declared.pattern.Selector.TheVariants.{Every, Any, AnyShortest, AllShortest}
use Rattle.pg_meaning.specs.declared.checked.CheckedPath.{CheckedPath}
use Rattle.pg_meaning.specs.declared.checked.CheckedQuery.{CheckedQuery}
use Rattle.pg_meaning.specs.Walks.{Graph, graph_of}
use Rattle.pg_meaning.specs.Bindings.{Binding, Distinct, IsSelected, Selected}
use Rattle.pg_meaning.specs.Answers.{Answer, row_of}
use Rattle.pg_meaning.specs.Members.{in_nil, in_here, in_there, in_cons}
use Rattle.pg_meaning.specs.OneAnswer.{takes_all, has_one_answer, AnswersAreOne}

false_true : false ≡ true → ⊥
false_true h = cc

true_not : {X : Type 0} → false ≡ true → X
true_not h = absurd (false_true h)

and_parts : (a b : Bool) → a && b ≡ true → (a ≡ true) × (b ≡ true)
and_parts true b h = (refl, h)
and_parts false b h = true_not h

-- LISTS WITHOUT DOUBLES

module _ {X : Type 0} where
  -- an item taken out of a list without doubles
  record Taken (x : X) (ys : List X) : Type 0 where
    rest : List X
    moved : IsPermutation ys (x ∷ rest)
    distinct : Distinct (x ∷ rest)

  taken : (x : X) (ys : List X) → Distinct ys → Contains ys x → Taken x ys
  taken x [] d c = absurd (in_nil x c)
  taken x (y ∷ ys) d c = elim (in_cons y ys x c) [
    | inl e ↦ subst (λ z. Taken z (y ∷ ys)) e (record { rest = ys; moved = IsPermutation-refl (y ∷ ys); distinct = d })
    | inr m ↦ behind y ys x d m (taken x ys d.1 m)
  ] where
    behind : (y : X) (ys : List X) (x : X) → Distinct (y ∷ ys) → Contains ys x → Taken x ys → Taken x (y ∷ ys)
    behind y ys x d m t = record {
      rest = y ∷ t.rest;
      moved = IsPermutation-trans (y ∷ ys) (y ∷ x ∷ t.rest) (x ∷ y ∷ t.rest) (IsPermutation-cons y ys (x ∷ t.rest) t.moved) (IsPermutation-middle (y ∷ []) x t.rest);
      distinct = (
        λ k. elim (in_cons y t.rest x k) [ inl e ↦ d.0 (subst (Contains ys) (sym e) m) | inr r ↦ t.distinct.0 r ],
        (λ k. d.0 (Contains-permutation (x ∷ t.rest) ys y (IsPermutation-sym ys (x ∷ t.rest) t.moved) (in_there x t.rest y k)), t.distinct.1),
      );
    }

  -- two such lists with the same members
  pub same_members : (xs ys : List X) → Distinct xs → Distinct ys → ((x : X) → Contains xs x → Contains ys x) → ((x : X) → Contains ys x → Contains xs x) → IsPermutation xs ys
  same_members [] [] d e to from = IsPermutation-refl []
  same_members [] (y ∷ ys) d e to from = absurd (in_nil y (from y (in_here y ys y refl)))
  same_members (x ∷ xs) ys d e to from =
      let t = taken x ys e (to x (in_here x xs x refl)) in
      let into : (z : X) → Contains xs z → Contains t.rest z = λ z c. elim (in_cons x t.rest z (Contains-permutation ys (x ∷ t.rest) z t.moved (to z (in_there x xs z c)))) [
        | inl s ↦ absurd (d.0 (subst (Contains xs) (sym s) c))
        | inr r ↦ r
      ] in
      let back : (z : X) → Contains t.rest z → Contains xs z = λ z c. elim (in_cons x xs z (from z (Contains-permutation (x ∷ t.rest) ys z (IsPermutation-sym ys (x ∷ t.rest) t.moved) (in_there x t.rest z c)))) [
        | inl s ↦ absurd (t.distinct.0 (subst (Contains t.rest) (sym s) c))
        | inr r ↦ r
      ] in
      IsPermutation-trans (x ∷ xs) (x ∷ t.rest) ys (IsPermutation-cons x xs t.rest (same_members xs t.rest d.1 t.distinct.1 into back)) (IsPermutation-sym ys (x ∷ t.rest) t.moved)

-- LISTS IN ORDER

module _ {X : Type 0} (cmp : X → X → Ordering) (o : Exact cmp) where
  sorted_tail : (x : X) (xs : List X) → IsSorted cmp (x ∷ xs) → IsSorted cmp xs
  sorted_tail x xs sorted = λ k d p q. rw add-one (rw add-one at (sorted (suc k) d (omega arith) (omega arith)))

  -- no member is less than the first
  first_least : (x : X) (xs : List X) (y : X) → IsSorted cmp (x ∷ xs) → Contains (x ∷ xs) y → is_lt (cmp y x) ≡ false
  first_least x xs y sorted (k, l, e) =
      subst (λ z. is_lt (cmp z x) ≡ false) e (sorted_far (λ a b. is_lt (cmp a b)) (ranks_by o.total (λ a. a)) (x ∷ xs) sorted 0 k y (omega arith) l)

  neither : (x y : X) (r : Ordering) → cmp x y ≡ r → is_lt (cmp x y) ≡ false → is_lt (cmp y x) ≡ false → x ≡ y
  neither x y Less h p q = absurd (false_true (sym p ∙ ap is_lt h))
  neither x y Equal h p q = o.exact x y h
  neither x y Greater h p q = absurd (false_true (sym q ∙ ap is_lt (turn o x y Greater h)))

  -- one where an item is x
  abbrev marks : X → X → ℕ
  marks x z = cond (is_eq (cmp z x)) 1 0

  marked : (x : X) (ys : List X) → 0 < sum_by (marks x) ys → Contains ys x
  marked x [] h = absurd (omega (arith, h))
  marked x (y ∷ ys) h = go (is_eq (cmp y x)) refl (marked x ys)
    where
      go : (b : Bool) → is_eq (cmp y x) ≡ b → (0 < sum_by (marks x) ys → Contains ys x) → Contains (y ∷ ys) x
      go true e rest = in_here y ys x (o.exact y x (is_equal (cmp y x) e))
      go false e rest =
          let none_here : marks x y ≡ 0 = ap (λ b. cond b 1 0) e in
          in_there y ys x (rest (omega (arith, h, sum_by-cons (marks x) y ys, none_here)))

  -- every sum over the one is that over the other
  abbrev SumsAgree : List X → List X → Type 0
  SumsAgree xs ys = (f : X → ℕ) → sum_by f xs ≡ sum_by f ys

  first_in : (x : X) (xs ys : List X) → SumsAgree (x ∷ xs) ys → Contains ys x
  first_in x xs ys s =
      let here : marks x x ≡ 1 = ap (λ r. cond (is_eq r) 1 0) (same o x) in
      marked x ys (omega (arith, s (marks x), sum_by-cons (marks x) x xs, here))

  sums_same : (xs ys : List X) → IsSorted cmp xs → IsSorted cmp ys → SumsAgree xs ys → xs ≡ ys
  sums_same [] [] s t u = refl
  sums_same [] (y ∷ ys) s t u = absurd (omega (arith, u (λ z. 1), sum_by-cons (λ z. 1) y ys))
  sums_same (x ∷ xs) [] s t u = absurd (omega (arith, u (λ z. 1), sum_by-cons (λ z. 1) x xs))
  sums_same (x ∷ xs) (y ∷ ys) s t u =
      let e : x ≡ y = neither x y (cmp x y) refl (first_least y ys x t (first_in x xs (y ∷ ys) u)) (first_least x xs y s (first_in y ys (x ∷ xs) (λ f. sym (u f)))) in
      let rest : xs ≡ ys = sums_same xs ys (sorted_tail x xs s) (sorted_tail y ys t) (λ f. omega (arith, u f, sum_by-cons f x xs, sum_by-cons f y ys, ap f e)) in
      λ i. e i ∷ rest i

  -- of the orders of a list one is sorted
  pub sorted_same : (xs ys : List X) → IsSorted cmp xs → IsSorted cmp ys → IsPermutation xs ys → xs ≡ ys
  sorted_same xs ys s t p = sums_same xs ys s t (λ f. sym (sum_by-IsPermutation f xs ys p))

row_exact : Exact row_order
row_exact = record { total = row_total; exact = λ a b h. ap (λ (v : List Value). record { values = v }) (keys.exact a.values b.values h) }

-- WHAT IS KEPT

kept_by : (selector : Selector) (Allowed : Binding → Type 0) (kept more : List Binding) → takes_all selector ≡ true → IsSelected selector Allowed kept → IsSelected selector Allowed more
    → (b : Binding) → Contains kept b → Contains more b
kept_by Every Allowed kept more h s t b c = t.complete b (s.allowed b c)
kept_by Any Allowed kept more h s t b c = true_not h
kept_by AnyShortest Allowed kept more h s t b c = true_not h
kept_by AllShortest Allowed kept more h s t b c = let a = s.allowed b c in (t.complete b a).1 ((s.complete b a).0 c)

module _ (g : Graph) where
  abbrev Kept : CheckedPath → List Binding → Type 0
  Kept p bindings = Selected g p bindings

  -- what is kept of each path pattern has the same members
  members_kept : (paths : List CheckedPath) (kept more : List (List Binding)) (tuple : List Binding) → list_all (λ p. takes_all p.selector) paths ≡ true
      → AllZip Kept paths kept → AllZip Kept paths more → AllZip (λ bindings b. Contains bindings b) kept tuple → AllZip (λ bindings b. Contains bindings b) more tuple
  members_kept [] [] [] tuple h s t m = m
  members_kept [] [] (l ∷ more) tuple h s t m = absurd t
  members_kept [] (k ∷ kept) more tuple h s t m = absurd s
  members_kept (p ∷ paths) [] more tuple h s t m = absurd s
  members_kept (p ∷ paths) (k ∷ kept) [] tuple h s t m = absurd t
  members_kept (p ∷ paths) (k ∷ kept) (l ∷ more) [] h s t m = absurd m
  members_kept (p ∷ paths) (k ∷ kept) (l ∷ more) (b ∷ tuple) h s t m =
      let a = and_parts (takes_all p.selector) (list_all (λ p. takes_all p.selector) paths) h in
      (kept_by p.selector _ k l a.0 s.0 t.0 b m.0, members_kept paths kept more tuple a.1 s.1 t.1 m.1)

module _ (shapes : Shapes) (tables : Tables) (q : CheckedQuery) (one : has_one_answer q ≡ true) where
  joins_kept : (rows more : List Row) (a : Answer shapes tables q rows) (b : Answer shapes tables q more) (tuple : List Binding) → Contains a.joined tuple → Contains b.joined tuple
  joins_kept rows more a b tuple c =
      let j = (a.exactly tuple).0 c in
      (b.exactly tuple).1 (record {
        members = members_kept (graph_of shapes q.graph tables) q.paths a.kept b.kept tuple one a.selected b.selected j.members;
        agree = j.agree;
        where_true = j.where_true;
      })

  pub rows_are_one : (rows more : List Row) → Answer shapes tables q rows → Answer shapes tables q more → IsPermutation rows more
  rows_are_one rows more a b =
      let tuples = same_members a.joined b.joined a.distinct b.distinct (joins_kept rows more a b) (joins_kept more rows b a) in
      let listed : IsPermutation (map (row_of tables q) a.joined) more = IsPermutation-trans (map (row_of tables q) a.joined) (map (row_of tables q) b.joined) more (IsPermutation-map (row_of tables q) a.joined b.joined tuples) b.listed in
      IsPermutation-trans rows (map (row_of tables q) a.joined) more (IsPermutation-sym (map (row_of tables q) a.joined) rows a.listed) listed

pub answers_are_one : AnswersAreOne
answers_are_one = record {
  rows = λ shapes tables q rows more one a b. rows_are_one shapes tables q one rows more a b;
  in_order = λ shapes tables q rows more one a s b t. sorted_same row_order row_exact rows more s t (rows_are_one shapes tables q one rows more a b);
}
