-- A query with two answers: MATCH ANY SHORTEST (x WHERE x.id = 1)-[e]->+(y WHERE y.id = 3) WHERE SUM(e.w) > 5
-- COLUMNS (SUM(e.w) AS s). Of the two shortest walks the selector takes either. The sum is 3 over the one, which the final
-- WHERE then drops, and 6 over the other.
use Rattle.std.proofs.Common.{◌≡◌, ◌≤◌, ℕ, pos, zero, suc, List, [], ◌∷◌, map, length, Contains, ◌⊎◌, inl, inr, ◌↔◌, refl, ap, sym, ◌∙◌, subst, lit<, lit≤, arith}
use Rattle.std.specs.Prelude.{codes, Some, None, IsPermutation}
use Rattle.std.specs.List.{AllZip, swap}
use Rattle.std.specs.List.Sorted.{apply_swaps}
use Rattle.std.proofs.lemmas.List.Sorted.{IsPermutation-refl}
use Rattle.pg_value.specs.declared.value.Kind.TheVariants as kinds
use Rattle.pg_value.specs.declared.value.Value.TheVariants.{Int}
use Rattle.pg_value.specs.declared.value.Truth.TheVariants.{True, False}
use Rattle.pg_value.specs.declared.row.Row.{Row}
use Rattle.pg_value.specs.declared.shape.ElemId.{ElemId}
use Rattle.pg_value.specs.Graph.{Edge}
use Rattle.pg_ast.specs.declared.expr.BinOp.TheVariants.{Eq, Gt}
use Rattle.pg_ast.specs.declared.expr.Agg.TheVariants.{Sum}
use Rattle.pg_ast.specs.declared.pattern.Arrow.TheVariants.{Right}
use Rattle.pg_ast.specs.declared.pattern.Selector.TheVariants.{AnyShortest}
use Rattle.pg_meaning.specs.declared.checked.CExpr.{CExpr}
use Rattle.pg_meaning.specs.declared.checked.CExpr.TheVariants.{Lit, Property, Binary, Agg}
use Rattle.pg_meaning.specs.declared.checked.CheckedPath.{CheckedPath}
use Rattle.pg_meaning.specs.declared.checked.CheckedQuery.{CheckedQuery}
use Rattle.pg_meaning.specs.CExprs.{CTree, Literal, PropertyOf, Two, Group, ctree_of, tree_binary, tree_agg}
use Rattle.pg_meaning.specs.Meaning.{Scope, OfVars, truth_of, value_of}
use Rattle.pg_meaning.specs.Walks.{Hop, graph_of, last_vertex}
use Rattle.pg_meaning.specs.Fits.{scope_of, mention}
use Rattle.pg_meaning.specs.Bindings.{Binding, IsAllowed, IsSelected, Selected, Distinct}
use Rattle.pg_meaning.specs.Answers.{Answer, Joins, ListsAgree, assigned, lists_in, row_of}
use Rattle.pg_meaning.specs.Members.{in_nil, in_here, in_cons, in_one, nothing_in, only_item, same_item, zip_one, not_in_cons}
use Rattle.pg_meaning.specs.Cuts.{Follows}
use Rattle.pg_meaning.proofs.Social.{g, shapes, social, tables, person, edge}
use Rattle.pg_meaning.proofs.Patterns.{five}
use Rattle.pg_meaning.proofs.Shortest.{asked, plus, first, second, IsWalk, MeetsAt, is_walk, walk_by, first_binds, second_binds, any_shortest, one_of, same_pair}

-- THE QUERY

-- x.id = n
abbrev id_is : ℕ → ℕ → CExpr
id_is x n = Binary Eq (Property x (Some 0 ∷ None ∷ [])) (Lit (Int (pos n)))

abbrev id_tree : ℕ → ℕ → CTree
id_tree x n = Two Eq (PropertyOf x (Some 0 ∷ None ∷ [])) (Literal (Int (pos n)))

id_means : (x n : ℕ) → ctree_of (id_is x n) ≡ id_tree x n
id_means x n = tree_binary Eq (Property x (Some 0 ∷ None ∷ [])) (Lit (Int (pos n)))

abbrev chosen : CheckedPath
chosen = plus AnyShortest (Some (id_is 0 1)) (Some (id_is 2 3))

-- SUM(e.w), and SUM(e.w) > 5
abbrev sum : CExpr
sum = Agg Sum (Property 1 (None ∷ Some 3 ∷ []))

abbrev sum_tree : CTree
sum_tree = Group Sum (PropertyOf 1 (None ∷ Some 3 ∷ []))

sum_means : ctree_of sum ≡ sum_tree
sum_means = tree_agg Sum (Property 1 (None ∷ Some 3 ∷ []))

abbrev above_5 : CExpr
above_5 = Binary Gt sum (Lit (Int (pos 5)))

above_means : ctree_of above_5 ≡ Two Gt sum_tree (Literal (Int (pos 5)))
above_means = tree_binary Gt sum (Lit (Int (pos 5))) ∙ ap (λ t. Two Gt t (Literal (Int (pos 5)))) sum_means

abbrev query : CheckedQuery
query = record {
  graph = social;
  paths = chosen ∷ [];
  cond = Some above_5;
  columns = record { expr = sum; name = codes "S"; kind = Some kinds.Int; width = 79 } ∷ [];
  vars = 3;
}

-- THE CONDITIONS INSIDE THE PATTERN

abbrev at : ℕ → CExpr → ElemId → Scope
at x c v = scope_of g (mention (asked x (Some c)) v)

meets_1 : MeetsAt 0 (Some (id_is 0 1)) (person 1)
meets_1 = ap (λ t. truth_of t (at 0 (id_is 0 1) (person 1))) (id_means 0 1)

meets_3 : MeetsAt 2 (Some (id_is 2 3)) (person 3)
meets_3 = ap (λ t. truth_of t (at 2 (id_is 2 3) (person 3))) (id_means 2 3)

false_true : False ≡ True → ⊥
false_true h = cc

four : {X : Type 0} {P : Type 0} (a b c d x : X) → Contains (a ∷ b ∷ c ∷ d ∷ []) x → (a ≡ x → P) → (b ≡ x → P) → (c ≡ x → P) → (d ≡ x → P) → P
four a b c d x m fa fb fc fd = elim (in_cons a (b ∷ c ∷ d ∷ []) x m) [
  | inl h ↦ fa h
  | inr m ↦ elim (in_cons b (c ∷ d ∷ []) x m) [
    | inl h ↦ fb h
    | inr m ↦ elim (in_cons c (d ∷ []) x m) [ inl h ↦ fc h | inr m ↦ fd (in_one d x m) ]
  ]
]

only_1 : (v : ElemId) → Contains g.vertices v → MeetsAt 0 (Some (id_is 0 1)) v → v ≡ person 1
only_1 v c m =
    let t : truth_of (id_tree 0 1) (at 0 (id_is 0 1) v) ≡ True = sym (ap (λ t. truth_of t (at 0 (id_is 0 1) v)) (id_means 0 1)) ∙ m in
    four (person 1) (person 2) (person 3) (person 4) v c
    (λ h. sym h)
    (λ h. absurd (false_true (subst (λ z. truth_of (id_tree 0 1) (at 0 (id_is 0 1) z) ≡ True) (sym h) t)))
    (λ h. absurd (false_true (subst (λ z. truth_of (id_tree 0 1) (at 0 (id_is 0 1) z) ≡ True) (sym h) t)))
    (λ h. absurd (false_true (subst (λ z. truth_of (id_tree 0 1) (at 0 (id_is 0 1) z) ≡ True) (sym h) t)))

only_3 : (v : ElemId) → Contains g.vertices v → MeetsAt 2 (Some (id_is 2 3)) v → v ≡ person 3
only_3 v c m =
    let t : truth_of (id_tree 2 3) (at 2 (id_is 2 3) v) ≡ True = sym (ap (λ t. truth_of t (at 2 (id_is 2 3) v)) (id_means 2 3)) ∙ m in
    four (person 1) (person 2) (person 3) (person 4) v c
    (λ h. absurd (false_true (subst (λ z. truth_of (id_tree 2 3) (at 2 (id_is 2 3) z) ≡ True) (sym h) t)))
    (λ h. absurd (false_true (subst (λ z. truth_of (id_tree 2 3) (at 2 (id_is 2 3) z) ≡ True) (sym h) t)))
    (λ h. sym h)
    (λ h. absurd (false_true (subst (λ z. truth_of (id_tree 2 3) (at 2 (id_is 2 3) z) ≡ True) (sym h) t)))

end_in : (x : Edge) → Contains g.edges x → Contains g.vertices x.dest
end_in x m = five (edge 1 1 2) (edge 2 2 3) (edge 3 3 1) (edge 4 1 2) (edge 5 4 4) x m
    (λ h. subst (λ z. Contains g.vertices z.dest) h (1, lit< tt, refl))
    (λ h. subst (λ z. Contains g.vertices z.dest) h (2, lit< tt, refl))
    (λ h. subst (λ z. Contains g.vertices z.dest) h (0, lit< tt, refl))
    (λ h. subst (λ z. Contains g.vertices z.dest) h (1, lit< tt, refl))
    (λ h. subst (λ z. Contains g.vertices z.dest) h (3, lit< tt, refl))

last_in : (v : ElemId) (hops : List Hop) → Contains g.vertices v → Follows g Right v hops → Contains g.vertices (last_vertex v hops)
last_in v [] c f = c
last_in v (h ∷ hops) c f = last_in h.to hops (end_in (record { elem = h.edge; source = v; dest = h.to }) f.0) f.1

abbrev Allowed : Binding → Type 0
Allowed = IsAllowed g chosen

walk_of : (b : Binding) → Allowed b → IsWalk b
walk_of b a =
    let w = walk_by (Some (id_is 0 1)) (Some (id_is 2 3)) b.start b.hops b.vars a.binding.cuts a.binding.hops a.binding.fits a.binding.vars in
    is_walk (Some (id_is 0 1)) (Some (id_is 2 3)) b w (only_1 b.start a.binding.start w.at_x) (only_3 (last_vertex b.start b.hops) (last_in b.start b.hops a.binding.start w.follows) w.at_y)

first_allowed : Allowed first
first_allowed = first_binds AnyShortest (Some (id_is 0 1)) (Some (id_is 2 3)) meets_1 meets_3

second_allowed : Allowed second
second_allowed = second_binds AnyShortest (Some (id_is 0 1)) (Some (id_is 2 3)) meets_1 meets_3

-- THE TUPLES

abbrev alone : Binding → List Binding
alone b = b ∷ []

abbrev under : Binding → Scope
under b = OfVars tables (assigned (lists_in query.paths (alone b)))

-- 1 + 2 is not above 5
first_dropped : truth_of (ctree_of above_5) (under first) ≡ True → ⊥
first_dropped h = false_true (sym (ap (λ t. truth_of t (under first)) above_means) ∙ h)

-- 4 + 2 is
second_kept : truth_of (ctree_of above_5) (under second) ≡ True
second_kept = ap (λ t. truth_of t (under second)) above_means

abbrev six : Row
six = record { values = Int (pos 6) ∷ [] }

second_row : row_of tables query (alone second) ≡ six
second_row = λ i. record { values = value_of (sum_means i) (under second) ∷ [] }

lists_agree : ListsAgree (lists_in query.paths (alone second))
lists_agree a b p q h = ap (λ z. z.elems) (same_item (λ l. l.var) (lists_in query.paths (alone second)) a b (
  not_in_cons 1 (2 ∷ []) 0 (λ e. omega arith) (not_in_cons 2 [] 0 (λ e. omega arith) (in_nil 0)),
  (not_in_cons 2 [] 1 (λ e. omega arith) (in_nil 1), (in_nil 2, tt)),
) p q h)

second_joins : (k : List Binding) → Contains k second → Joins tables query (k ∷ []) (alone second)
second_joins k c = record { members = (c, tt); agree = lists_agree; where_true = second_kept }

-- BOTH ARE ANSWERS

no_row : Answer shapes tables query []
no_row = record {
  kept = (first ∷ []) ∷ [];
  selected = (any_shortest Allowed walk_of first first_allowed (lit≤ tt), tt);
  joined = [];
  distinct = tt;
  exactly = λ tuple. (
    λ c. absurd (in_nil tuple c),
    λ j. let m = zip_one (first ∷ []) tuple j.members in
        let same : tuple ≡ alone first = m.2 ∙ ap alone (sym (in_one first m.0 m.1)) in
        absurd (first_dropped (subst (λ z. truth_of (ctree_of above_5) (OfVars tables (assigned (lists_in query.paths z))) ≡ True) same j.where_true)),
  );
  listed = IsPermutation-refl [];
}

one_row : Answer shapes tables query (six ∷ [])
one_row = record {
  kept = (second ∷ []) ∷ [];
  selected = (any_shortest Allowed walk_of second second_allowed (lit≤ tt), tt);
  joined = alone second ∷ [];
  distinct = (in_nil (alone second), tt);
  exactly = λ tuple. (
    λ c. subst (λ z. Joins tables query ((second ∷ []) ∷ []) z) (in_one (alone second) tuple c) (second_joins (second ∷ []) (in_here second [] second refl)),
    λ j. let m = zip_one (second ∷ []) tuple j.members in in_here (alone second) [] tuple (sym (m.2 ∙ ap alone (sym (in_one second m.0 m.1)))),
  );
  listed = subst (λ z. IsPermutation (row_of tables query (alone second) ∷ []) (z ∷ [])) second_row (IsPermutation-refl (row_of tables query (alone second) ∷ []));
}

-- AND THERE IS NO OTHER

zip_single : {A B : Type 0} (R : A → B → Type 0) (a : A) (bs : List B) → AllZip R (a ∷ []) bs → (b : B) × (bs ≡ b ∷ []) × R a b
zip_single R a [] h = absurd h
zip_single R a (b ∷ []) h = (b, refl, h.0)
zip_single R a (b ∷ c ∷ bs) h = absurd h.1

swaps_none : {X : Type 0} (moves : List (ℕ × ℕ)) → apply_swaps {X = X} [] moves ≡ []
swaps_none [] = refl
swaps_none (m ∷ moves) = ap (λ z. swap z m.0 m.1) (swaps_none moves)

swap_one : {X : Type 0} (x : X) (i j : ℕ) → swap (x ∷ []) i j ≡ x ∷ []
swap_one x zero zero = refl
swap_one x zero (suc j) = refl
swap_one x (suc i) zero = refl
swap_one x (suc i) (suc j) = refl

swaps_one : {X : Type 0} (x : X) (moves : List (ℕ × ℕ)) → apply_swaps (x ∷ []) moves ≡ x ∷ []
swaps_one x [] = refl
swaps_one x (m ∷ moves) = ap (λ z. swap z m.0 m.1) (swaps_one x moves) ∙ swap_one x m.0 m.1

by_selected : (rows : List Row) (k : List Binding) (joined : List (List Binding)) → IsSelected AnyShortest Allowed k → Distinct joined
    → ((tuple : List Binding) → Contains joined tuple ↔ Joins tables query (k ∷ []) tuple) → IsPermutation (map (row_of tables query) joined) rows → (rows ≡ []) ⊎ (rows ≡ six ∷ [])
by_selected rows k joined sel d exactly listed =
    let c = sel.complete.0.some first first_allowed in
    let allowed : Allowed c.0 = sel.allowed c.0 c.1 in
    let short : length c.0.hops ≤ 2 = sel.complete.1 c.0 c.1 first first_allowed (same_pair Allowed walk_of c.0 first allowed first_allowed) in
    let each : (b : Binding) → Contains k b → b ≡ c.0 = λ b m. sel.complete.0.once b c.0 m c.1 (same_pair Allowed walk_of b c.0 (sel.allowed b m) allowed) in
    let tuples : (tuple : List Binding) → Contains joined tuple → tuple ≡ alone c.0 = λ tuple m.
    let j = (exactly tuple).0 m in
    let z = zip_one k tuple j.members in
    z.2 ∙ ap alone (each z.0 z.1) in
    elim (one_of Allowed walk_of c.0 allowed short) [
      | inl e ↦ (
          let none : joined ≡ [] = nothing_in joined (λ tuple m.
          first_dropped (subst (λ z. truth_of (ctree_of above_5) (OfVars tables (assigned (lists_in query.paths z))) ≡ True) (tuples tuple m ∙ ap alone e) ((exactly tuple).0 m).where_true)) in
          inl (listed.is ∙ ap (λ z. apply_swaps (map (row_of tables query) z) listed.moves) none ∙ swaps_none listed.moves))
      | inr e ↦ (
          let there : Contains joined (alone second) = (exactly (alone second)).1 (second_joins k (subst (λ z. Contains k z) e c.1)) in
          let one : joined ≡ alone second ∷ [] = only_item (alone second) joined d there (λ tuple m. tuples tuple m ∙ ap alone e) in
          inr (listed.is ∙ ap (λ z. apply_swaps (map (row_of tables query) z) listed.moves) one ∙ swaps_one (row_of tables query (alone second)) listed.moves ∙ ap (λ z. z ∷ []) second_row))
    ]

no_other : (rows : List Row) → Answer shapes tables query rows → (rows ≡ []) ⊎ (rows ≡ six ∷ [])
no_other rows a =
    let z = zip_single (λ p bindings. Selected (graph_of shapes social tables) p bindings) chosen a.kept a.selected in
    by_selected rows z.0 a.joined z.2 a.distinct (λ tuple. subst (λ ks. Contains a.joined tuple ↔ Joins tables query ks tuple) z.1 (a.exactly tuple)) a.listed
