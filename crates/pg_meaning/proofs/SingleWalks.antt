-- Single walks on the small graph that fit a pattern or do not, and what their variables name.
use Rattle.std.proofs.Common.{◌≡◌, ◌≤◌, ℕ, List, [], ◌∷◌, map, length, get_or, Contains, inl, inr, refl, ap, ◌∙◌, lit<, lit≤, arith}
use Rattle.std.specs.Prelude.{None, flat_map}
use Rattle.pg_value.specs.declared.shape.ElemId.{ElemId}
use Rattle.pg_ast.specs.declared.pattern.Arrow.TheVariants.{Right, Left, Either}
use Rattle.pg_ast.specs.declared.pattern.Mode.{Mode}
use Rattle.pg_ast.specs.declared.pattern.Mode.TheVariants.{Walk, Trail, Acyclic, Simple}
use Rattle.pg_ast.specs.declared.pattern.Selector.TheVariants.{Every}
use Rattle.pg_meaning.specs.declared.checked.CPart.{CPart}
use Rattle.pg_meaning.specs.declared.checked.CPart.TheVariants.{Node, Group}
use Rattle.pg_meaning.specs.declared.checked.CheckedPath.{CheckedPath}
use Rattle.pg_meaning.specs.Walks.{Hop, Leads}
use Rattle.pg_meaning.specs.Fits.{Fits, lists_of, singles, join}
use Rattle.pg_meaning.specs.Bindings.{Binding, IsBinding, IsAllowed, Distinct}
use Rattle.pg_meaning.specs.Members.{in_nil, not_in_cons}
use Rattle.pg_meaning.specs.Cuts.{agree_by, one_agrees, node_rounds}
use Rattle.pg_meaning.proofs.Social.{g, person, knows, hop}
use Rattle.pg_meaning.proofs.Patterns.{vertex, named, unnamed, middle, times, from_on, right, pattern, named_round, unnamed_round, id_of, edge_1, edge_2, edge_3, edge_4, edge_5}

one_none : ◌≡◌ {A = ℕ} 1 0 → ⊥
one_none h = omega arith

one_two : ◌≡◌ {A = ℕ} 1 2 → ⊥
one_two h = omega arith

two_differ : (x y : ℕ) → (y ≡ x → ⊥) → Distinct (x ∷ y ∷ [])
two_differ x y ne = (not_in_cons y [] x ne (in_nil x), (in_nil y, tt))

-- (x)->{n}(y), with x and y variables 0 and 1
abbrev power : ℕ → List CPart
power n = Node (vertex 0) ∷ right unnamed (times n) ∷ Node (vertex 1) ∷ []

abbrev powers : Mode → ℕ → CheckedPath
powers mode n = pattern Every mode (power n) (0 ∷ 1 ∷ [])

ends_agree : Distinct {X = ℕ} (0 ∷ 1 ∷ [])
ends_agree = two_differ 0 1 (λ e. omega arith)

-- NO ROUND AT ALL

-- {0} joins x and y in one vertex
no_round : IsBinding g (powers Walk 0) (record { start = person 1; hops = []; vars = (person 1 ∷ []) ∷ (person 1 ∷ []) ∷ [] })
no_round = record {
  start = (0, lit< tt, refl);
  cuts = ([] ∷ []) ∷ [] ∷ ([] ∷ []) ∷ [];
  hops = refl;
  fits = (refl, (((refl, tt), tt, one_agrees 0 (person 1), tt), tt), ((lit≤ tt, lit≤ tt), tt, (refl, (((refl, tt), tt, one_agrees 1 (person 1), tt), tt), tt)));
  agree = agree_by (singles (power 0) (person 1) (([] ∷ []) ∷ [] ∷ ([] ∷ []) ∷ [])) ends_agree;
  vars = refl;
}

none_within : {X : Type 0} (xs : List X) → length xs ≤ 0 → xs ≡ []
none_within [] h = refl
none_within (x ∷ xs) h = absurd (omega arith)

no_hops_by : (v : ElemId) (hops : List Hop) (cuts : List (List (List Hop))) → hops ≡ flat_map join cuts → Fits g (power 0) v cuts → hops ≡ []
no_hops_by v hops [] h f = absurd f
no_hops_by v hops (r ∷ []) h f = absurd f.2
no_hops_by v hops (r ∷ s ∷ []) h f = absurd f.2.2
no_hops_by v hops (r ∷ s ∷ t ∷ u ∷ cuts) h f = absurd f.2.2.2
no_hops_by v hops (r ∷ s ∷ t ∷ []) h f =
    let a = node_rounds g (vertex 0) v r f.0 f.1 in
    let b = none_within s f.2.0.1 in
    let c = node_rounds g (vertex 1) _ t f.2.2.0 f.2.2.1 in
    h ∙ (λ i. flat_map join (a i ∷ b i ∷ c i ∷ []))

-- and fits no hop, so no other vertex
no_hop : (b : Binding) → IsBinding g (powers Walk 0) b → b.hops ≡ []
no_hop b h = no_hops_by b.start b.hops h.cuts h.hops h.fits

-- TWICE OVER THE LOOP

abbrev twice_round : Binding
twice_round = record { start = person 4; hops = hop 5 4 ∷ hop 5 4 ∷ []; vars = (person 4 ∷ []) ∷ (person 4 ∷ []) ∷ [] }

twice : IsAllowed g (powers Walk 2) twice_round
twice = record {
  binding = record {
    start = (3, lit< tt, refl);
    cuts = ([] ∷ []) ∷ ((hop 5 4 ∷ []) ∷ (hop 5 4 ∷ []) ∷ []) ∷ ([] ∷ []) ∷ [];
    hops = refl;
    fits = (
      refl,
      (((refl, tt), tt, one_agrees 0 (person 4), tt), tt),
      ((lit≤ tt, lit≤ tt), (unnamed_round 5 4 4 edge_5, (unnamed_round 5 4 4 edge_5, tt)), (refl, (((refl, tt), tt, one_agrees 1 (person 4), tt), tt), tt)),
    );
    agree = agree_by (singles (power 2) (person 4) (([] ∷ []) ∷ ((hop 5 4 ∷ []) ∷ (hop 5 4 ∷ []) ∷ []) ∷ ([] ∷ []) ∷ [])) ends_agree;
    vars = refl;
  };
  permitted = tt;
}

-- TRAIL refuses the edge that is repeated
not_twice : IsAllowed g (powers Trail 2) twice_round → ⊥
not_twice a = a.permitted.0 (0, lit< tt, refl)

-- ROUND THE TRIANGLE

abbrev triangle : Binding
triangle = record { start = person 1; hops = hop 1 2 ∷ hop 2 3 ∷ hop 3 1 ∷ []; vars = (person 1 ∷ []) ∷ (person 1 ∷ []) ∷ [] }

others : (a b : ℕ) (xs : List ElemId) → (b ≡ a → ⊥) → (Contains xs (person a) → ⊥) → Contains (person b ∷ xs) (person a) → ⊥
others a b xs ne = not_in_cons (person b) xs (person a) (λ e. ne (ap id_of e))

-- SIMPLE lets the last vertex be the first
closed : IsAllowed g (powers Simple 3) triangle
closed = record {
  binding = record {
    start = (0, lit< tt, refl);
    cuts = ([] ∷ []) ∷ ((hop 1 2 ∷ []) ∷ (hop 2 3 ∷ []) ∷ (hop 3 1 ∷ []) ∷ []) ∷ ([] ∷ []) ∷ [];
    hops = refl;
    fits = (
      refl,
      (((refl, tt), tt, one_agrees 0 (person 1), tt), tt),
      (
        (lit≤ tt, lit≤ tt),
        (unnamed_round 1 1 2 edge_1, (unnamed_round 2 2 3 edge_2, (unnamed_round 3 3 1 edge_3, tt))),
        (refl, (((refl, tt), tt, one_agrees 1 (person 1), tt), tt), tt),
      ),
    );
    agree = agree_by (singles (power 3) (person 1) (([] ∷ []) ∷ ((hop 1 2 ∷ []) ∷ (hop 2 3 ∷ []) ∷ (hop 3 1 ∷ []) ∷ []) ∷ ([] ∷ []) ∷ [])) ends_agree;
    vars = refl;
  };
  permitted = (
    (
      others 1 2 (person 3 ∷ []) (λ e. omega arith) (others 1 3 [] (λ e. omega arith) (in_nil (person 1))),
      (others 2 3 [] (λ e. omega arith) (in_nil (person 2)), (in_nil (person 3), tt)),
    ),
    (
      others 2 3 (person 1 ∷ []) (λ e. omega arith) (others 2 1 [] (λ e. omega arith) (in_nil (person 2))),
      (others 3 1 [] (λ e. omega arith) (in_nil (person 3)), (in_nil (person 1), tt)),
    ),
  );
}

-- ACYCLIC does not
not_closed : IsAllowed g (powers Acyclic 3) triangle → ⊥
not_closed a = a.permitted.0 (2, lit< tt, refl)

-- EITHER WAY

-- -[e]- leads over an edge in both directions, and over a loop in one hop
back_and_forth : Leads g Either (person 1) (hop 1 2) × Leads g Either (person 2) (hop 1 1) × Leads g Left (person 2) (hop 1 1) × Leads g Either (person 4) (hop 5 4)
back_and_forth = (inl edge_1, inr edge_1, edge_1, inl edge_5)

-- SPLITS

-- (x)-[e]->*()-[f]->*(y) over the loop once: the edge stands for e or for f
abbrev splits : List CPart
splits = Node (vertex 0) ∷ right (named 1) (from_on 0) ∷ Node middle ∷ right (named 2) (from_on 0) ∷ Node (vertex 3) ∷ []

abbrev first_cuts : List (List (List Hop))
first_cuts = ([] ∷ []) ∷ ((hop 5 4 ∷ []) ∷ []) ∷ ([] ∷ []) ∷ [] ∷ ([] ∷ []) ∷ []

abbrev second_cuts : List (List (List Hop))
second_cuts = ([] ∷ []) ∷ [] ∷ ([] ∷ []) ∷ ((hop 5 4 ∷ []) ∷ []) ∷ ([] ∷ []) ∷ []

abbrev first_split : Binding
first_split = record { start = person 4; hops = hop 5 4 ∷ []; vars = (person 4 ∷ []) ∷ (knows 5 ∷ []) ∷ [] ∷ (person 4 ∷ []) ∷ [] }

abbrev second_split : Binding
second_split = record { start = person 4; hops = hop 5 4 ∷ []; vars = (person 4 ∷ []) ∷ [] ∷ (knows 5 ∷ []) ∷ (person 4 ∷ []) ∷ [] }

outer_agree : Distinct {X = ℕ} (0 ∷ 3 ∷ [])
outer_agree = two_differ 0 3 (λ e. omega arith)

first_is : IsBinding g (pattern Every Walk splits (0 ∷ 1 ∷ 2 ∷ 3 ∷ [])) first_split
first_is = record {
  start = (3, lit< tt, refl);
  cuts = first_cuts;
  hops = refl;
  fits = (
    refl,
    (((refl, tt), tt, one_agrees 0 (person 4), tt), tt),
    (
      (lit≤ tt, tt),
      (named_round 1 5 4 4 edge_5, tt),
      (refl, (((refl, tt), tt, λ m n p q e. absurd (in_nil m p), tt), tt), ((lit≤ tt, tt), tt, (refl, (((refl, tt), tt, one_agrees 3 (person 4), tt), tt), tt))),
    ),
  );
  agree = agree_by (singles splits (person 4) first_cuts) outer_agree;
  vars = refl;
}

second_is : IsBinding g (pattern Every Walk splits (0 ∷ 1 ∷ 2 ∷ 3 ∷ [])) second_split
second_is = record {
  start = (3, lit< tt, refl);
  cuts = second_cuts;
  hops = refl;
  fits = (
    refl,
    (((refl, tt), tt, one_agrees 0 (person 4), tt), tt),
    (
      (lit≤ tt, tt),
      tt,
      (refl, (((refl, tt), tt, λ m n p q e. absurd (in_nil m p), tt), tt), ((lit≤ tt, tt), (named_round 2 5 4 4 edge_5, tt), (refl, (((refl, tt), tt, one_agrees 3 (person 4), tt), tt), tt))),
    ),
  );
  agree = agree_by (singles splits (person 4) second_cuts) outer_agree;
  vars = refl;
}

-- two bindings
two_bindings : first_split ≡ second_split → ⊥
two_bindings e = one_none (ap (λ b. length (get_or b.vars 1 [])) e)

-- without names both cuts give one binding
abbrev unnamed_splits : List CPart
unnamed_splits = Node (vertex 0) ∷ right unnamed (from_on 0) ∷ Node middle ∷ right unnamed (from_on 0) ∷ Node (vertex 3) ∷ []

one_binding : map (lists_of unnamed_splits (person 4) first_cuts) (0 ∷ 3 ∷ []) ≡ map (lists_of unnamed_splits (person 4) second_cuts) (0 ∷ 3 ∷ [])
one_binding = refl

one_walk : flat_map join first_cuts ≡ flat_map join second_cuts
one_walk = refl

-- GROUP VARIABLES

-- (x)-[e]->{2}(y) from 1 over 2 to 3: e has an edge for each round
two_rounds : IsBinding g (pattern Every Walk (Node (vertex 0) ∷ right (named 1) (times 2) ∷ Node (vertex 2) ∷ []) (0 ∷ 1 ∷ 2 ∷ []))
    (record { start = person 1; hops = hop 4 2 ∷ hop 2 3 ∷ []; vars = (person 1 ∷ []) ∷ (knows 4 ∷ knows 2 ∷ []) ∷ (person 3 ∷ []) ∷ [] })
two_rounds = record {
  start = (0, lit< tt, refl);
  cuts = ([] ∷ []) ∷ ((hop 4 2 ∷ []) ∷ (hop 2 3 ∷ []) ∷ []) ∷ ([] ∷ []) ∷ [];
  hops = refl;
  fits = (
    refl,
    (((refl, tt), tt, one_agrees 0 (person 1), tt), tt),
    ((lit≤ tt, lit≤ tt), (named_round 1 4 1 2 edge_4, (named_round 1 2 2 3 edge_2, tt)), (refl, (((refl, tt), tt, one_agrees 2 (person 3), tt), tt), tt)),
  );
  agree = agree_by (singles (Node (vertex 0) ∷ right (named 1) (times 2) ∷ Node (vertex 2) ∷ []) (person 1) (([] ∷ []) ∷ ((hop 4 2 ∷ []) ∷ (hop 2 3 ∷ []) ∷ []) ∷ ([] ∷ []) ∷ [])) (two_differ 0 2 (λ e. omega arith));
  vars = refl;
}

-- ((a)-[e]->(b)){2}: a and b have a vertex for each round, and rounds meet in one vertex
abbrev group : CPart
group = Group (vertex 0 ∷ vertex 2 ∷ []) (Right ∷ []) (named 1 ∷ []) None (times 2)

group_lists : map (lists_of (group ∷ []) (person 1) (((hop 4 2 ∷ []) ∷ (hop 2 3 ∷ []) ∷ []) ∷ [])) (0 ∷ 1 ∷ 2 ∷ [])
    ≡ (person 1 ∷ person 2 ∷ []) ∷ (knows 4 ∷ knows 2 ∷ []) ∷ (person 2 ∷ person 3 ∷ []) ∷ []
group_lists = refl

-- ((a)-[e]->(a)){2}: a names one vertex in each round, though it stands twice
abbrev loops : CPart
loops = Group (vertex 0 ∷ vertex 0 ∷ []) (Right ∷ []) (named 1 ∷ []) None (times 2)

loop_lists : map (lists_of (loops ∷ []) (person 4) (((hop 5 4 ∷ []) ∷ (hop 5 4 ∷ []) ∷ []) ∷ [])) (0 ∷ 1 ∷ []) ≡ (person 4 ∷ person 4 ∷ []) ∷ (knows 5 ∷ knows 5 ∷ []) ∷ []
loop_lists = refl

one_is_not_two : person 1 ≡ person 2 → ⊥
one_is_not_two e = one_two (ap id_of e)

-- and fits no edge between two vertices
no_loop : Fits g (loops ∷ []) (person 1) (((hop 1 2 ∷ []) ∷ (hop 2 3 ∷ []) ∷ []) ∷ []) → ⊥
no_loop f = one_is_not_two (f.1.0.2 (record { var = 0; elem = person 1 }) (record { var = 0; elem = person 2 }) (0, lit< tt, refl) (2, lit< tt, refl) refl)
