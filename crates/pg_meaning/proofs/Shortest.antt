-- The selections of one pair: ANY SHORTEST and ALL SHORTEST of (x)-[e]->+(y) from person 1 to person 3.
-- Two walks are shortest, over the edges 1 and 2 or 4 and 2. Longer ones go round the triangle again.
use Rattle.std.proofs.Common.{◌≡◌, ◌≤◌, ℕ, List, [], ◌∷◌, ◌++◌, map, length, get_or, Contains, ◌⊎◌, inl, inr, refl, ap, sym, ◌∙◌, subst, lit<, lit≤, arith, append-nil}
use Rattle.std.specs.Prelude.{Option, Some, None, flat_map}
use Rattle.pg_value.specs.declared.shape.ElemId.{ElemId}
use Rattle.pg_ast.specs.declared.pattern.Arrow.TheVariants.{Right}
use Rattle.pg_ast.specs.declared.pattern.Mode.TheVariants.{Walk}
use Rattle.pg_ast.specs.declared.pattern.Selector.{Selector}
use Rattle.pg_ast.specs.declared.pattern.Selector.TheVariants.{Every, Any, AnyShortest, AllShortest}
use Rattle.pg_meaning.specs.declared.checked.CExpr.{CExpr}
use Rattle.pg_meaning.specs.declared.checked.CFiller.{CFiller}
use Rattle.pg_meaning.specs.declared.checked.CPart.{CPart}
use Rattle.pg_meaning.specs.Meaning.{Meets}
use Rattle.pg_meaning.specs.declared.checked.CPart.TheVariants.{Node}
use Rattle.pg_meaning.specs.declared.checked.CheckedPath.{CheckedPath}
use Rattle.pg_meaning.specs.Walks.{Hop, HasEdge, last_vertex, edges_of}
use Rattle.pg_meaning.specs.Rounds.{round_of}
use Rattle.pg_meaning.specs.Fits.{Fits, Mention, elements, seen_in_rounds, lists_of, singles, join, RoundsFit, scope_of, mention}
use Rattle.pg_meaning.specs.Bindings.{Binding, IsAllowed, IsSelected, IsShortest, SamePair, Distinct}
use Rattle.pg_meaning.specs.Members.{in_nil, in_here, in_there, in_cons, in_one, not_in_cons}
use Rattle.pg_meaning.specs.Cuts.{agree_by, one_agrees, node_rounds, edge_rounds, edge_follows, Follows, one_each}
use Rattle.pg_meaning.proofs.Social.{g, person, knows, hop}
use Rattle.pg_meaning.proofs.Patterns.{persons, named, from_on, right, pattern, named_round, id_of, from_1, from_2, edge_1, edge_2, edge_3, edge_4}

-- (x WHERE ..)-[e]->+(y WHERE ..)
abbrev pub asked : ℕ → Option CExpr → CFiller
asked x condition = record { var = Some x; tables = persons; cond = condition }

abbrev pub parts : Option CExpr → Option CExpr → List CPart
parts at_x at_y = Node (asked 0 at_x) ∷ right (named 1) (from_on 1) ∷ Node (asked 2 at_y) ∷ []

abbrev pub plus : Selector → Option CExpr → Option CExpr → CheckedPath
plus selector at_x at_y = pattern selector Walk (parts at_x at_y) (0 ∷ 1 ∷ 2 ∷ [])

-- what binds to a walk
abbrev pub of_walk : ElemId → List Hop → Binding
of_walk v hops = record { start = v; hops = hops; vars = (v ∷ []) ∷ edges_of hops ∷ (last_vertex v hops ∷ []) ∷ [] }

-- EACH BINDING IS THAT OF ITS WALK

abbrev pub cuts_of : List Hop → List (List (List Hop))
cuts_of hops = ([] ∷ []) ∷ one_each hops ∷ ([] ∷ []) ∷ []

abbrev seen_of : ElemId → List Hop → List Mention
seen_of v hops = seen_in_rounds (round_of (right (named 1) (from_on 1))) v (one_each hops)

join_each : (hops : List Hop) → join (one_each hops) ≡ hops
join_each [] = refl
join_each (h ∷ hops) = λ i. h ∷ join_each hops i

first_none : (v : ElemId) (hops : List Hop) → elements (seen_of v hops ++ []) 0 ≡ []
first_none v [] = refl
first_none v (h ∷ hops) = first_none h.to hops

edges_named : (v : ElemId) (hops : List Hop) → elements (seen_of v hops ++ []) 1 ≡ edges_of hops
edges_named v [] = refl
edges_named v (h ∷ hops) = λ i. h.edge ∷ edges_named h.to hops i

last_none : (v : ElemId) (hops : List Hop) → elements (seen_of v hops ++ []) 2 ≡ []
last_none v [] = refl
last_none v (h ∷ hops) = last_none h.to hops

lists_are : (c d : Option CExpr) (v : ElemId) (hops : List Hop) → map (lists_of (parts c d) v (cuts_of hops)) (0 ∷ 1 ∷ 2 ∷ []) ≡ (of_walk v hops).vars
lists_are c d v hops =
    let a = first_none v hops in
    let b = edges_named v hops in
    let z = last_none v hops in
    let e = join_each hops in
    λ i. (v ∷ a i) ∷ b i ∷ (last_vertex v (e i) ∷ z i) ∷ []

-- the condition is true of the vertex
abbrev pub MeetsAt : ℕ → Option CExpr → ElemId → Type 0
MeetsAt x condition v = Meets condition (scope_of g (mention (asked x condition) v))

pub record Walks (c d : Option CExpr) (v : ElemId) (hops : List Hop) (vars : List (List ElemId)) : Type 0 where
  pub is : vars ≡ (of_walk v hops).vars
  pub follows : Follows g Right v hops
  pub at_x : MeetsAt 0 c v
  pub at_y : MeetsAt 2 d (last_vertex v hops)

node_meets : (x : ℕ) (c : Option CExpr) (v : ElemId) (rounds : List (List Hop)) → length rounds ≡ 1 → RoundsFit g (round_of (Node (asked x c))) v rounds → MeetsAt x c v
node_meets x c v [] n f = absurd (omega arith)
node_meets x c v (hops ∷ rounds) n f = f.0.0.1

pub walk_by : (c d : Option CExpr) (v : ElemId) (hops : List Hop) (vars : List (List ElemId)) (cuts : List (List (List Hop))) → hops ≡ flat_map join cuts
    → Fits g (parts c d) v cuts → vars ≡ map (lists_of (parts c d) v cuts) (0 ∷ 1 ∷ 2 ∷ []) → Walks c d v hops vars
walk_by c d v hops vars [] h f l = absurd f
walk_by c d v hops vars (r ∷ []) h f l = absurd f.2
walk_by c d v hops vars (r ∷ s ∷ []) h f l = absurd f.2.2
walk_by c d v hops vars (r ∷ s ∷ t ∷ u ∷ cuts) h f l = absurd f.2.2.2
walk_by c d v hops vars (r ∷ s ∷ t ∷ []) h f l =
    let p = node_rounds g (asked 0 c) v r f.0 f.1 in
    let q = edge_rounds g Right (named 1) (from_on 1) (last_vertex v (join r)) s f.2.1 in
    let w = node_rounds g (asked 2 d) (last_vertex (last_vertex v (join r)) (join s)) t f.2.2.0 f.2.2.1 in
    let steps = subst (λ z. Follows g Right (last_vertex v (join z)) (join s)) p (edge_follows g Right (named 1) (from_on 1) (last_vertex v (join r)) s f.2.1) in
    let ends = subst (λ z. MeetsAt 2 d (last_vertex (last_vertex v (join z)) (join s))) p (node_meets 2 d (last_vertex (last_vertex v (join r)) (join s)) t f.2.2.0 f.2.2.1) in
    let same : hops ≡ join s = h ∙ (λ i. flat_map join (p i ∷ s ∷ w i ∷ [])) ∙ append-nil (join s) in
    record {
      is = l ∙ (λ i. map (lists_of (parts c d) v (p i ∷ q i ∷ w i ∷ [])) (0 ∷ 1 ∷ 2 ∷ [])) ∙ lists_are c d v (join s) ∙ ap (λ z. (of_walk v z).vars) (sym same);
      follows = subst (λ z. Follows g Right v z) (sym same) steps;
      at_x = node_meets 0 c v r f.0 f.1;
      at_y = subst (λ z. MeetsAt 2 d (last_vertex v z)) (sym same) ends;
    }

-- THE PAIR

pub record IsWalk (b : Binding) : Type 0 where
  pub is : b ≡ of_walk (person 1) b.hops
  pub follows : Follows g Right (person 1) b.hops
  pub ends : last_vertex (person 1) b.hops ≡ person 3

pub is_walk : (c d : Option CExpr) (b : Binding) → Walks c d b.start b.hops b.vars → b.start ≡ person 1 → last_vertex b.start b.hops ≡ person 3 → IsWalk b
is_walk c d b w s e = record {
  is = (λ i. record { start = b.start; hops = b.hops; vars = w.is i }) ∙ ap (λ v. of_walk v b.hops) s;
  follows = subst (λ v. Follows g Right v b.hops) s w.follows;
  ends = subst (λ v. last_vertex v b.hops ≡ person 3) s e;
}

one_three : ◌≡◌ {A = ℕ} 1 3 → ⊥
one_three h = omega arith

two_three : ◌≡◌ {A = ℕ} 2 3 → ⊥
two_three h = omega arith

pub least : (hops : List Hop) → Follows g Right (person 1) hops → last_vertex (person 1) hops ≡ person 3 → 2 ≤ length hops
least [] f e = absurd (one_three (ap id_of e))
least (h ∷ []) f e = absurd (two_three (ap id_of (sym (from_1 h.edge h.to f.0).1 ∙ e)))
least (h ∷ k ∷ hops) f e = omega arith

pub same_hop : (h : Hop) (i b : ℕ) → h.edge ≡ knows i → h.to ≡ person b → h ≡ hop i b
same_hop h i b p q = λ j. record { edge = p j; to = q j }

abbrev pub over_1 : List Hop
over_1 = hop 1 2 ∷ hop 2 3 ∷ []

abbrev pub over_4 : List Hop
over_4 = hop 4 2 ∷ hop 2 3 ∷ []

-- round the triangle once more
abbrev pub around : List Hop
around = hop 1 2 ∷ hop 2 3 ∷ hop 3 1 ∷ hop 1 2 ∷ hop 2 3 ∷ []

pub two : (hops : List Hop) → Follows g Right (person 1) hops → last_vertex (person 1) hops ≡ person 3 → length hops ≤ 2 → (hops ≡ over_1) ⊎ (hops ≡ over_4)
two [] f e n = absurd (one_three (ap id_of e))
two (h ∷ []) f e n = absurd (two_three (ap id_of (sym (from_1 h.edge h.to f.0).1 ∙ e)))
two (h ∷ k ∷ l ∷ hops) f e n = absurd (omega arith)
two (h ∷ k ∷ []) f e n =
    let a = from_1 h.edge h.to f.0 in
    let b = from_2 k.edge k.to (subst (λ v. HasEdge g k.edge v k.to) a.1 f.1.0) in
    let second : k ≡ hop 2 3 = same_hop k 2 3 b.0 b.1 in
    elim a.0 [
      | inl p ↦ (let first : h ≡ hop 1 2 = same_hop h 1 2 p a.1 in inl (λ i. first i ∷ second i ∷ []))
      | inr p ↦ (let first : h ≡ hop 4 2 = same_hop h 4 2 p a.1 in inr (λ i. first i ∷ second i ∷ []))
    ]

abbrev pub first : Binding
first = of_walk (person 1) over_1

abbrev pub second : Binding
second = of_walk (person 1) over_4

abbrev pub longer : Binding
longer = of_walk (person 1) around

ends_differ : Distinct {X = ℕ} (0 ∷ 2 ∷ [])
ends_differ = (not_in_cons 2 [] 0 (λ e. omega arith) (in_nil 0), (in_nil 2, tt))

pub first_binds : (selector : Selector) (c d : Option CExpr) → MeetsAt 0 c (person 1) → MeetsAt 2 d (person 3) → IsAllowed g (plus selector c d) first
first_binds selector c d x y = record {
  binding = record {
    start = (0, lit< tt, refl);
    cuts = cuts_of over_1;
    hops = refl;
    fits = (
      refl,
      (((refl, x), tt, one_agrees 0 (person 1), tt), tt),
      ((lit≤ tt, tt), (named_round 1 1 1 2 edge_1, (named_round 1 2 2 3 edge_2, tt)), (refl, (((refl, y), tt, one_agrees 2 (person 3), tt), tt), tt)),
    );
    agree = agree_by (singles (parts c d) (person 1) (cuts_of over_1)) ends_differ;
    vars = refl;
  };
  permitted = tt;
}

pub second_binds : (selector : Selector) (c d : Option CExpr) → MeetsAt 0 c (person 1) → MeetsAt 2 d (person 3) → IsAllowed g (plus selector c d) second
second_binds selector c d x y = record {
  binding = record {
    start = (0, lit< tt, refl);
    cuts = cuts_of over_4;
    hops = refl;
    fits = (
      refl,
      (((refl, x), tt, one_agrees 0 (person 1), tt), tt),
      ((lit≤ tt, tt), (named_round 1 4 1 2 edge_4, (named_round 1 2 2 3 edge_2, tt)), (refl, (((refl, y), tt, one_agrees 2 (person 3), tt), tt), tt)),
    );
    agree = agree_by (singles (parts c d) (person 1) (cuts_of over_4)) ends_differ;
    vars = refl;
  };
  permitted = tt;
}

longer_binds : (selector : Selector) → IsAllowed g (plus selector None None) longer
longer_binds selector = record {
  binding = record {
    start = (0, lit< tt, refl);
    cuts = cuts_of around;
    hops = refl;
    fits = (
      refl,
      (((refl, tt), tt, one_agrees 0 (person 1), tt), tt),
      (
        (lit≤ tt, tt),
        (
          named_round 1 1 1 2 edge_1,
          (named_round 1 2 2 3 edge_2, (named_round 1 3 3 1 edge_3, (named_round 1 1 1 2 edge_1, (named_round 1 2 2 3 edge_2, tt)))),
        ),
        (refl, (((refl, tt), tt, one_agrees 2 (person 3), tt), tt), tt),
      ),
    );
    agree = agree_by (singles (parts None None) (person 1) (cuts_of around)) ends_differ;
    vars = refl;
  };
  permitted = tt;
}

four_one : ◌≡◌ {A = ℕ} 4 1 → ⊥
four_one h = omega arith

pub differ : second ≡ first → ⊥
differ e = four_one (ap (λ b. id_of (get_or b.hops 0 (hop 1 2)).edge) e)

-- what has two hops is shortest, and is one of the two, whatever else is asked of the pair
module _ (Allowed : Binding → Type 0) (walk_of : (b : Binding) → Allowed b → IsWalk b) where
  pub shortest_by : (b : Binding) → length b.hops ≤ 2 → IsShortest Allowed b
  shortest_by b n c a same = let w = walk_of c a in let m = least c.hops w.follows w.ends in omega arith

  pub one_of : (b : Binding) → Allowed b → length b.hops ≤ 2 → (b ≡ first) ⊎ (b ≡ second)
  one_of b a n = let w = walk_of b a in elim (two b.hops w.follows w.ends n) [
    | inl e ↦ inl (w.is ∙ ap (λ z. of_walk (person 1) z) e)
    | inr e ↦ inr (w.is ∙ ap (λ z. of_walk (person 1) z) e)
  ]

  pub same_pair : (b c : Binding) → Allowed b → Allowed c → SamePair b c
  same_pair b c p q =
      let v = walk_of b p in
      let w = walk_of c q in
      (ap (λ z. z.start) v.is ∙ sym (ap (λ z. z.start) w.is), ap (λ z. last_vertex z.start z.hops) v.is ∙ v.ends ∙ sym (ap (λ z. last_vertex z.start z.hops) w.is ∙ w.ends))

  pub any_shortest : (b : Binding) → Allowed b → length b.hops ≤ 2 → IsSelected AnyShortest Allowed (b ∷ [])
  any_shortest b a n = record {
    distinct = (in_nil b, tt);
    allowed = λ c m. subst (λ z. Allowed z) (in_one b c m) a;
    complete = (
      record {
        some = λ c k. (b, in_here b [] b refl, same_pair c b k a);
        once = λ c d m k same. sym (in_one b c m) ∙ in_one b d k;
      },
      λ c m. shortest_by c (subst (λ z. length z.hops ≤ 2) (in_one b c m) n),
    );
  }

-- THE PAIR WITHOUT CONDITIONS

abbrev Allowed : Binding → Type 0
Allowed b = IsAllowed g (plus Every None None) b × (b.start ≡ person 1) × (last_vertex b.start b.hops ≡ person 3)

walk_of : (b : Binding) → Allowed b → IsWalk b
walk_of b a = is_walk None None b (walk_by None None b.start b.hops b.vars a.0.binding.cuts a.0.binding.hops a.0.binding.fits a.0.binding.vars) a.1 a.2

first_allowed : Allowed first
first_allowed = (first_binds Every None None tt tt, refl, refl)

second_allowed : Allowed second
second_allowed = (second_binds Every None None tt tt, refl, refl)

longer_allowed : Allowed longer
longer_allowed = (longer_binds Every, refl, refl)

not_shortest : IsShortest Allowed longer → ⊥
not_shortest s = let n : 5 ≤ 2 = s first first_allowed (refl, refl) in omega arith

-- ALL SHORTEST

two_hops : (b : Binding) → Contains (first ∷ second ∷ []) b → length b.hops ≤ 2
two_hops b c = elim (in_cons first (second ∷ []) b c) [
  | inl e ↦ subst (λ z. length z.hops ≤ 2) e (lit≤ tt)
  | inr r ↦ subst (λ z. length z.hops ≤ 2) (in_one second b r) (lit≤ tt)
]

all_shortest : IsSelected AllShortest Allowed (first ∷ second ∷ [])
all_shortest = record {
  distinct = (not_in_cons second [] first differ (in_nil first), (in_nil second, tt));
  allowed = λ b c. elim (in_cons first (second ∷ []) b c) [ inl e ↦ subst (λ z. Allowed z) e first_allowed | inr r ↦ subst (λ z. Allowed z) (in_one second b r) second_allowed ];
  complete = λ b a. (
    λ c. shortest_by Allowed walk_of b (two_hops b c),
    λ s. elim (one_of Allowed walk_of b a (s first first_allowed (a.1, a.2))) [ inl e ↦ in_here first (second ∷ []) b (sym e) | inr e ↦ in_there first (second ∷ []) b (in_here second [] b (sym e)) ],
  );
}

-- one too few
all_too_few : IsSelected AllShortest Allowed (first ∷ []) → ⊥
all_too_few s = differ (sym (in_one first second ((s.complete second second_allowed).1 (shortest_by Allowed walk_of second (lit≤ tt)))))

-- one too many
all_too_many : IsSelected AllShortest Allowed (first ∷ second ∷ longer ∷ []) → ⊥
all_too_many s = not_shortest ((s.complete longer longer_allowed).0 (2, lit< tt, refl))

-- one twice
all_twice : IsSelected AllShortest Allowed (first ∷ second ∷ first ∷ []) → ⊥
all_twice s = s.distinct.0 (1, lit< tt, refl)

-- ANY SHORTEST

-- either will do
any_first : IsSelected AnyShortest Allowed (first ∷ [])
any_first = any_shortest Allowed walk_of first first_allowed (lit≤ tt)

any_second : IsSelected AnyShortest Allowed (second ∷ [])
any_second = any_shortest Allowed walk_of second second_allowed (lit≤ tt)

-- one too many
any_too_many : IsSelected AnyShortest Allowed (first ∷ second ∷ []) → ⊥
any_too_many s = differ (sym (s.complete.0.once first second (0, lit< tt, refl) (1, lit< tt, refl) (refl, refl)))

-- one too few
any_too_few : IsSelected AnyShortest Allowed [] → ⊥
any_too_few s = let c = s.complete.0.some first first_allowed in in_nil c.0 c.1

-- one that is too long, which ANY would take
any_too_long : IsSelected AnyShortest Allowed (longer ∷ []) → ⊥
any_too_long s = not_shortest (s.complete.1 longer (0, lit< tt, refl))

any_longer : IsSelected Any Allowed (longer ∷ [])
any_longer = record {
  distinct = (in_nil longer, tt);
  allowed = λ c m. subst (λ z. Allowed z) (in_one longer c m) longer_allowed;
  complete = record {
    some = λ c k. (longer, in_here longer [] longer refl, (k.1, k.2));
    once = λ c d m k same. sym (in_one longer c m) ∙ in_one longer d k;
  };
}
