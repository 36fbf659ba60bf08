-- Two path patterns in one query, and a selector over several pairs.
use Rattle.std.proofs.Common.{◌≡◌, ◌==◌, ◌||◌, ℕ, cond, List, [], ◌∷◌, get_or, Contains, inl, inr, refl, ap, sym, ◌∙◌, subst, lit<, arith, map}
use Rattle.std.specs.Prelude.{None}
use Rattle.pg_keyed.specs.Lists.{Each}
use Rattle.pg_value.specs.declared.shape.ElemId.{ElemId}
use Rattle.pg_ast.specs.declared.pattern.Mode.TheVariants.{Walk, Trail}
use Rattle.pg_ast.specs.declared.pattern.Selector.TheVariants.{Every, Any}
use Rattle.pg_meaning.specs.declared.checked.CPart.TheVariants.{Node}
use Rattle.pg_meaning.specs.declared.checked.CheckedQuery.{CheckedQuery}
use Rattle.pg_meaning.specs.Bindings.{Binding, IsAllowed, Permits, SamePair, Distinct, Selected}
use Rattle.pg_meaning.specs.HopQuery.{bind, one_hop_parts, one_hop_path}
use Rattle.pg_meaning.specs.OneHop.{one_hop_selected}
use Rattle.pg_value.specs.Graph.{Edge}
use Rattle.std.specs.Int.{bit_at}
use Rattle.pg_meaning.specs.declared.checked.CheckedPath.{CheckedPath}
use Rattle.pg_meaning.specs.Answers.{Joins, VarList, ListsAgree, lists_in}
use Rattle.pg_meaning.specs.Members.{in_nil, in_cons, in_one, in_map, from_map, not_in_cons, same_item, distinct_under}
use Rattle.pg_meaning.proofs.Social.{g, shapes, social, tables, in_order, person_table, knows_table, person, knows, hop, edge}
use Rattle.pg_meaning.proofs.Patterns.{persons, acquaintances, vertex, named, right, pattern, id_of, five}

-- MATCH TRAIL (x)-[e]->(y), TRAIL (y)-[f]->(z)
abbrev query : CheckedQuery
query = record {
  graph = social;
  paths =
      pattern Every Trail (Node (vertex 0) ∷ right (named 1) None ∷ Node (vertex 2) ∷ []) (0 ∷ 1 ∷ 2 ∷ []) ∷
      pattern Every Trail (Node (vertex 2) ∷ right (named 3) None ∷ Node (vertex 4) ∷ []) (2 ∷ 3 ∷ 4 ∷ []) ∷ [];
  cond = None;
  columns = [];
  vars = 5;
}

-- an edge and its ends, for either path pattern
abbrev over : ℕ → ℕ → ℕ → Binding
over i a b = record { start = person a; hops = hop i b ∷ []; vars = (person a ∷ []) ∷ (knows i ∷ []) ∷ (person b ∷ []) ∷ [] }

-- ONE EDGE IN TWO TRAIL PATTERNS

of_each : {X : Type 0} (P : X → Type 0) (xs : List X) (x : X) → Each P xs → Contains xs x → P x
of_each P [] x h c = absurd (in_nil x c)
of_each P (y ∷ ys) x h c = elim (in_cons y ys x c) [ inl e ↦ subst P e h.0 | inr r ↦ of_each P ys x h.1 r ]

-- the loop at 4: e and f stand for its edge, and x, y and z for 4
abbrev in_loop : ℕ → List ElemId
in_loop x = cond ((x == 1) || (x == 3)) (knows 5 ∷ []) (person 4 ∷ [])

abbrev loop_lists : List VarList
loop_lists = lists_in query.paths (over 5 4 4 ∷ over 5 4 4 ∷ [])

each_is : Each (λ (l : VarList). l.elems ≡ in_loop l.var) loop_lists
each_is = (refl, (refl, (refl, (refl, (refl, (refl, tt))))))

-- each pattern has the edge once, and nothing asks that they differ
edge_in_both : Joins tables query ((over 5 4 4 ∷ []) ∷ (over 5 4 4 ∷ []) ∷ []) (over 5 4 4 ∷ over 5 4 4 ∷ [])
edge_in_both = record {
  members = ((0, lit< tt, refl), ((0, lit< tt, refl), tt));
  agree = λ a b c e h. of_each (λ (l : VarList). l.elems ≡ in_loop l.var) loop_lists a each_is c ∙ ap in_loop h ∙ sym (of_each (λ (l : VarList). l.elems ≡ in_loop l.var) loop_lists b each_is e);
  where_true = tt;
}

permitted : Permits Trail (person 4) (hop 5 4 ∷ [])
permitted = (in_nil (knows 5), tt)

-- A SHARED VARIABLE

-- 1->2 and 2->3 meet in y, and 1->2 and 4->4 do not
abbrev in_chain : ℕ → List ElemId
in_chain x = get_or ((person 1 ∷ []) ∷ (knows 1 ∷ []) ∷ (person 2 ∷ []) ∷ (knows 2 ∷ []) ∷ (person 3 ∷ []) ∷ []) x []

abbrev chain_lists : List VarList
chain_lists = lists_in query.paths (over 1 1 2 ∷ over 2 2 3 ∷ [])

chain_is : Each (λ (l : VarList). l.elems ≡ in_chain l.var) chain_lists
chain_is = (refl, (refl, (refl, (refl, (refl, (refl, tt))))))

meets : ListsAgree chain_lists
meets a b c e h = of_each (λ (l : VarList). l.elems ≡ in_chain l.var) chain_lists a chain_is c ∙ ap in_chain h ∙ sym (of_each (λ (l : VarList). l.elems ≡ in_chain l.var) chain_lists b chain_is e)

abbrev first_id : List ElemId → ℕ
first_id [] = 0
first_id (e ∷ es) = id_of e

two_four : ◌≡◌ {A = ℕ} 2 4 → ⊥
two_four h = omega arith

apart : ListsAgree (lists_in query.paths (over 1 1 2 ∷ over 5 4 4 ∷ [])) → ⊥
apart agree = two_four (ap first_id (agree (record { var = 2; elems = person 2 ∷ [] }) (record { var = 2; elems = person 4 ∷ [] }) (2, lit< tt, refl) (3, lit< tt, refl) refl))

-- A SELECTOR OVER SEVERAL PAIRS

-- MATCH ANY (x)-[e]->(y), and the same without a selector
abbrev any_path : CheckedPath
any_path = record { graph = social; selector = Any; mode = Walk; parts = one_hop_parts persons acquaintances; vars = 0 ∷ 1 ∷ 2 ∷ [] }

abbrev every_path : CheckedPath
every_path = one_hop_path social persons acquaintances

every : Selected g every_path (map bind g.edges)
every =
    one_hop_selected shapes social tables persons acquaintances in_order (in_nil knows_table, tt)
    (λ t c. subst (λ z. bit_at 1 z.0 ≡ 1) (in_one person_table t c) refl)
    (λ t c. subst (λ z. bit_at 2 z.0 ≡ 1) (in_one knows_table t c) refl)

-- a selector has no say in what is allowed
any_of : (b : Binding) → IsAllowed g every_path b → IsAllowed g any_path b
any_of b a = record {
  binding = record { start = a.binding.start; cuts = a.binding.cuts; hops = a.binding.hops; fits = a.binding.fits; agree = a.binding.agree; vars = a.binding.vars };
  permitted = a.permitted;
}

every_of : (b : Binding) → IsAllowed g any_path b → IsAllowed g every_path b
every_of b a = record {
  binding = record { start = a.binding.start; cuts = a.binding.cuts; hops = a.binding.hops; fits = a.binding.fits; agree = a.binding.agree; vars = a.binding.vars };
  permitted = a.permitted;
}

-- the pair of 1 and 2 has two edges, of which one is kept, and each other pair has one
abbrev four : List Edge
four = edge 1 1 2 ∷ edge 2 2 3 ∷ edge 3 3 1 ∷ edge 5 4 4 ∷ []

of_four : (e : Edge) → Contains four e → Contains g.edges e
of_four e c = elim (in_cons (edge 1 1 2) (edge 2 2 3 ∷ edge 3 3 1 ∷ edge 5 4 4 ∷ []) e c) [
  | inl h ↦ subst (λ z. Contains g.edges z) h (0, lit< tt, refl)
  | inr c ↦ elim (in_cons (edge 2 2 3) (edge 3 3 1 ∷ edge 5 4 4 ∷ []) e c) [
    | inl h ↦ subst (λ z. Contains g.edges z) h (1, lit< tt, refl)
    | inr c ↦ elim (in_cons (edge 3 3 1) (edge 5 4 4 ∷ []) e c) [
      | inl h ↦ subst (λ z. Contains g.edges z) h (2, lit< tt, refl)
      | inr c ↦ subst (λ z. Contains g.edges z) (in_one (edge 5 4 4) e c) (4, lit< tt, refl)
    ]
  ]
]

abbrev Kept : Binding → Type 0
Kept b = (c : Binding) × Contains (map bind four) c × SamePair b c

ends_of : (e k : Edge) → k.source ≡ e.source → k.dest ≡ e.dest → SamePair (bind e) (bind k)
ends_of e k p q = (sym p, sym q)

pair_kept : (e : Edge) → Contains g.edges e → Kept (bind e)
pair_kept e m = five {P = Kept (bind e)} (edge 1 1 2) (edge 2 2 3) (edge 3 3 1) (edge 4 1 2) (edge 5 4 4) e m
    (λ h. (bind (edge 1 1 2), (0, lit< tt, refl), ends_of e (edge 1 1 2) (ap (λ z. z.source) h) (ap (λ z. z.dest) h)))
    (λ h. (bind (edge 2 2 3), (1, lit< tt, refl), ends_of e (edge 2 2 3) (ap (λ z. z.source) h) (ap (λ z. z.dest) h)))
    (λ h. (bind (edge 3 3 1), (2, lit< tt, refl), ends_of e (edge 3 3 1) (ap (λ z. z.source) h) (ap (λ z. z.dest) h)))
    (λ h. (bind (edge 1 1 2), (0, lit< tt, refl), ends_of e (edge 1 1 2) (ap (λ z. z.source) h) (ap (λ z. z.dest) h)))
    (λ h. (bind (edge 5 4 4), (3, lit< tt, refl), ends_of e (edge 5 4 4) (ap (λ z. z.source) h) (ap (λ z. z.dest) h)))

no_person : (a b : ℕ) → (a ≡ b → ⊥) → person a ≡ person b → ⊥
no_person a b ne e = ne (ap id_of e)

starts_differ : Distinct (person 1 ∷ person 2 ∷ person 3 ∷ person 4 ∷ [])
starts_differ = (
  not_in_cons (person 2) (person 3 ∷ person 4 ∷ []) (person 1) (no_person 2 1 (λ e. omega arith))
      (not_in_cons (person 3) (person 4 ∷ []) (person 1) (no_person 3 1 (λ e. omega arith)) (not_in_cons (person 4) [] (person 1) (no_person 4 1 (λ e. omega arith)) (in_nil (person 1)))),
  (
    not_in_cons (person 3) (person 4 ∷ []) (person 2) (no_person 3 2 (λ e. omega arith)) (not_in_cons (person 4) [] (person 2) (no_person 4 2 (λ e. omega arith)) (in_nil (person 2))),
    (not_in_cons (person 4) [] (person 3) (no_person 4 3 (λ e. omega arith)) (in_nil (person 3)), (in_nil (person 4), tt)),
  ),
)

one_of_each : Selected g any_path (map bind four)
one_of_each = record {
  distinct = distinct_under (λ (b : Binding). b.start) (map bind four) starts_differ;
  allowed = λ b c. let m = from_map bind four b c in any_of b (subst (λ z. IsAllowed g every_path z) m.2 (every.allowed (bind m.0) (in_map bind g.edges m.0 (of_four m.0 m.1))));
  complete = record {
    some = λ b a. let m = from_map bind g.edges b (every.complete b (every_of b a)) in subst Kept m.2 (pair_kept m.0 m.1);
    once = λ b c h k same. same_item (λ (x : Binding). x.start) (map bind four) b c starts_differ h k same.0;
  };
}

one_four : ◌≡◌ {A = ℕ} 1 4 → ⊥
one_four h = omega arith

-- both edges of the pair are one too many
not_both : Selected g any_path (map bind g.edges) → ⊥
not_both s =
    one_four (ap (λ (b : Binding). id_of (get_or b.hops 0 (hop 1 2)).edge) (s.complete.once (bind (edge 1 1 2)) (bind (edge 4 1 2)) (0, lit< tt, refl) (3, lit< tt, refl) (refl, refl)))
