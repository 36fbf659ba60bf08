-- Bindings of a sound query give each variable what its degree says: a singleton one row, a group variable a short list of rows.
use Rattle.std.proofs.Common.{◌≡◌, ◌+◌, ◌≤◌, ◌==◌, ◌&&◌, ◌||◌, ℕ, zero, suc, Bool, true, false, cond, not, is_some, refl, ap, sym, ◌∙◌, subst, arith, eqb-true, eq-eqb, List, [], ◌∷◌, ◌++◌, map, length, length-append, Contains, ◌⊎◌, inl, inr, Option, Some, None, find}
use Rattle.std.proofs.lemmas.List.{map-append}
use Rattle.std.specs.Prelude.{filter, option_map, filter_map, IfSome}
use Rattle.std.specs.List.{AllZip, list_any, cons_option}
use Rattle.pg_keyed.specs.Lists.{Each}
use Rattle.pg_value.specs.declared.shape.ElemId.{ElemId}
use Rattle.pg_value.specs.declared.shape.Shapes.{Shapes}
use Rattle.pg_value.specs.declared.shape.GraphShape.{GraphShape}
use Rattle.pg_value.specs.Tables.{Tables, IsInOrder}
use Rattle.pg_ast.specs.declared.pattern.Arrow.{Arrow}
use Rattle.pg_ast.specs.declared.pattern.Quant.{Quant}
use Rattle.pg_meaning.specs.declared.checked.CFiller.{CFiller}
use Rattle.pg_meaning.specs.declared.checked.CPart.{CPart}
use Rattle.pg_meaning.specs.declared.checked.CPart.TheVariants.{Node, Edge, Group}
use Rattle.pg_meaning.specs.declared.checked.CheckedPath.{CheckedPath}
use Rattle.pg_meaning.specs.Walks.{Graph, Hop, last_vertex, graph_of}
use Rattle.pg_meaning.specs.Rounds.{legs_of, round_of, quant_of}
use Rattle.pg_meaning.specs.Fits as fits
use Rattle.pg_meaning.specs.Fits.{elements, node_mention, LegsFit, RoundsFit, Fits, join, seen_on_legs, seen_in, firsts, seen_in_rounds, singles, groups, lists_of}
use Rattle.pg_meaning.specs.Bindings.{Binding, IsBinding}
use Rattle.pg_meaning.specs.Answers.{VarList, lists_with, lists_in, elems_found}
use Rattle.pg_meaning.specs.Outlines.{Outline, Spot, spot, part_if, in_turn, spots_in, spots_from, first_as_end, last_as_end, spots}
use Rattle.pg_meaning.specs.Mentions.{Mention, Degree, Singleton, Grouped, mention_at, mentions_in, mentions_from, first_mentions, degree_of, same_part, same_sort, returns, clash}
use Rattle.pg_meaning.specs.Members.{in_nil, in_here, in_there, in_cons, in_left, in_right, in_append, in_map, from_map, from_filter_map, in_filter_map, in_filter, from_any}
use Rattle.pg_meaning.specs.Sound.Patterns.{NoPair, IsSoundPart, IsSoundPath, outline_of, outlines, same_number, variables_of}
use Rattle.pg_meaning.specs.Sound.Queries.{IsRow}
use Rattle.pg_meaning.specs.Sound.Bindings.{FitsDegree, TuplesFit}
use Rattle.pg_meaning.proofs.ReadLaws.{of_each}
use Rattle.pg_meaning.proofs.StandingBindings.{count, elements_append, firsts_once, binding_lists}

none_is : {X : Type 0} (x : X) → None ≡ Some x → ⊥
none_is x h = cc

some_is : {X : Type 0} (x y : X) → Some x ≡ Some y → x ≡ y
some_is x y h = cc

true_false : true ≡ false → ⊥
true_false e = cc

-- NAMED VARIABLES

-- some mention is of the variable
abbrev Names : List fits.Mention → ℕ → Type 0
Names ms x = (m : fits.Mention) × Contains ms m × (m.var ≡ x)

names_left : (ms ns : List fits.Mention) (x : ℕ) → Names ms x → Names (ms ++ ns) x
names_left ms ns x n = (n.0, in_left ms ns n.0 n.1, n.2)

names_right : (ms ns : List fits.Mention) (x : ℕ) → Names ns x → Names (ms ++ ns) x
names_right ms ns x n = (n.0, in_right ms ns n.0 n.1, n.2)

names_either : (ms ns : List fits.Mention) (x : ℕ) → Names (ms ++ ns) x → Names ms x ⊎ Names ns x
names_either ms ns x n = elim (in_append ms ns n.0 n.1) [ inl c ↦ inl (n.0, c, n.2) | inr c ↦ inr (n.0, c, n.2) ]

counted : (ms : List fits.Mention) (x : ℕ) → Names ms x → 1 ≤ count ms x
counted [] x n = absurd (in_nil n.0 n.1)
counted (m ∷ ms) x n = go (m.var == x) refl (λ r. counted ms x r)
  where
    go : (b : Bool) → (m.var == x) ≡ b → (Names ms x → 1 ≤ count ms x) → 1 ≤ length (map (λ (k : fits.Mention). k.elem) (cond b (m ∷ filter (λ k. k.var == x) ms) (filter (λ k. k.var == x) ms)))
    go true e rest = omega arith
    go false e rest = elim (in_cons m ms n.0 n.1) [
      | inl s ↦ absurd (true_false (sym (eq-eqb m.var x (ap (λ (k : fits.Mention). k.var) s ∙ n.2)) ∙ e))
      | inr c ↦ rest (n.0, c, n.2)
    ]

named_if : (ms : List fits.Mention) (x : ℕ) → 1 ≤ count ms x → Names ms x
named_if [] x h = absurd (omega (arith, h))
named_if (m ∷ ms) x h = go (m.var == x) refl h (λ r. named_if ms x r)
  where
    go : (b : Bool) → (m.var == x) ≡ b → 1 ≤ length (map (λ (k : fits.Mention). k.elem) (cond b (m ∷ filter (λ k. k.var == x) ms) (filter (λ k. k.var == x) ms))) → (1 ≤ count ms x → Names ms x) → Names (m ∷ ms) x
    go true e k rest = (m, in_here m ms m refl, eqb-true m.var x e)
    go false e k rest = let r = rest k in (r.0, in_there m ms r.0 r.1, r.2)

kept : (y : ℕ) (ms : List fits.Mention) (m : fits.Mention) → Contains ms m → (m.var == y) ≡ false → Contains (filter (λ n. not (n.var == y)) ms) m
kept y [] m c h = absurd (in_nil m c)
kept y (k ∷ ms) m c h = go (k.var == y) refl (λ r. kept y ms m r h)
  where
    others : List fits.Mention
    others = filter (λ n. not (n.var == y)) ms

    go : (b : Bool) → (k.var == y) ≡ b → (Contains ms m → Contains others m) → Contains (cond (not b) (k ∷ others) others) m
    go true e rest = elim (in_cons k ms m c) [
      | inl s ↦ absurd (true_false (sym e ∙ ap (λ (z : fits.Mention). z.var == y) s ∙ h))
      | inr r ↦ rest r
    ]
    go false e rest = elim (in_cons k ms m c) [ inl s ↦ in_here k others m s | inr r ↦ in_there k others m (rest r) ]

-- what is named is named first somewhere
named_first : (ms : List fits.Mention) (x : ℕ) → Names ms x → Names (firsts ms) x
named_first [] x n = absurd (in_nil n.0 n.1)
named_first (m ∷ ms) x n = elim (in_cons m ms n.0 n.1) [
  | inl s ↦ (m, in_here m (filter (λ k. not (k.var == m.var)) (firsts ms)) m refl, ap (λ (k : fits.Mention). k.var) s ∙ n.2)
  | inr c ↦ go (x == m.var) refl (named_first ms x (n.0, c, n.2))
]
  where
    others : List fits.Mention
    others = filter (λ k. not (k.var == m.var)) (firsts ms)

    go : (b : Bool) → (x == m.var) ≡ b → Names (firsts ms) x → Names (m ∷ others) x
    go true e r = (m, in_here m others m refl, sym (eqb-true x m.var e))
    go false e r = (r.0, in_there m others r.0 (kept m.var (firsts ms) r.0 r.1 (ap (λ z. z == m.var) r.2 ∙ e)), r.2)

-- THE SPOTS OF PARTS

-- the variable of a spot, and the part in which it is repeated
pub record Key : Type 0 where
  pub variable : Option ℕ
  pub part : Option ℕ

abbrev key : Spot ℕ → Key
key s = record { variable = s.variable; part = s.part }

first_same : (ss : List (Spot ℕ)) → map key (first_as_end ss) ≡ map key ss
first_same [] = refl
first_same (s ∷ ss) = refl

last_same : (ss : List (Spot ℕ)) → map key (last_as_end ss) ≡ map key ss
last_same [] = refl
last_same (s ∷ []) = refl
last_same (s ∷ t ∷ ss) = ap (λ ks. key s ∷ ks) (last_same (t ∷ ss))

spots_same : (os : List (Outline ℕ)) → map key (spots os) ≡ map key (spots_from 0 os)
spots_same os = last_same (first_as_end (spots_from 0 os)) ∙ first_same (spots_from 0 os)

in_one : {X : Type 0} (ns es : List X) (x : X) → Contains (in_turn ns es) x → Contains ns x ⊎ Contains es x
in_one [] es x c = inr c
in_one (n ∷ ns) [] x c = inl c
in_one (n ∷ ns) (e ∷ es) x c = elim (in_cons n (e ∷ in_turn ns es) x c) [
  | inl s ↦ inl (in_here n ns x s)
  | inr r ↦ elim (in_cons e (in_turn ns es) x r) [
    | inl s ↦ inr (in_here e es x s)
    | inr k ↦ elim (in_one ns es x k) [ inl a ↦ inl (in_there n ns x a) | inr b ↦ inr (in_there e es x b) ]
  ]
]

of_nodes : {X : Type 0} (ns es : List X) (x : X) → length es ≤ length ns → Contains ns x → Contains (in_turn ns es) x
of_nodes [] es x l c = absurd (in_nil x c)
of_nodes (n ∷ ns) [] x l c = c
of_nodes (n ∷ ns) (e ∷ es) x l c = elim (in_cons n ns x c) [
  | inl s ↦ in_here n (e ∷ in_turn ns es) x s
  | inr r ↦ in_there n (e ∷ in_turn ns es) x (in_there e (in_turn ns es) x (of_nodes ns es x (omega (arith, l)) r))
]

of_edges : {X : Type 0} (ns es : List X) (x : X) → Contains es x → Contains (in_turn ns es) x
of_edges [] es x c = c
of_edges (n ∷ ns) [] x c = absurd (in_nil x c)
of_edges (n ∷ ns) (e ∷ es) x c = elim (in_cons e es x c) [
  | inl s ↦ in_there n (e ∷ in_turn ns es) x (in_here e (in_turn ns es) x s)
  | inr r ↦ in_there n (e ∷ in_turn ns es) x (in_there e (in_turn ns es) x (of_edges ns es x r))
]

-- a node or an edge of a part has the variable
abbrev HasVar : Outline ℕ → ℕ → Type 0
HasVar o x = Contains o.nodes (Some x) ⊎ Contains o.edges (Some x)

key_var : (o : Outline ℕ) (n x : ℕ) (part : Option ℕ) → Contains (map key (spots_in n o)) (record { variable = Some x; part = part }) → (part ≡ part_if (is_some o.quant) n) × HasVar o x
key_var o n x part c =
    let p : Option ℕ = part_if (is_some o.quant) n in
    let s = from_map key (spots_in n o) (record { variable = Some x; part = part }) c in
    elim (in_one (map (spot false p) o.nodes) (map (spot true p) o.edges) s.0 s.1) [
      | inl a ↦ (let v = from_map (spot false p) o.nodes s.0 a in (
        sym (ap (λ (k : Key). k.part) s.2) ∙ ap (λ (k : Spot ℕ). k.part) (sym v.2),
        inl (subst (λ z. Contains o.nodes z) (ap (λ (k : Spot ℕ). k.variable) v.2 ∙ ap (λ (k : Key). k.variable) s.2) v.1),
      ))
      | inr b ↦ (let v = from_map (spot true p) o.edges s.0 b in (
        sym (ap (λ (k : Key). k.part) s.2) ∙ ap (λ (k : Spot ℕ). k.part) (sym v.2),
        inr (subst (λ z. Contains o.edges z) (ap (λ (k : Spot ℕ). k.variable) v.2 ∙ ap (λ (k : Key). k.variable) s.2) v.1),
      ))
    ]

var_key : (o : Outline ℕ) (n x : ℕ) → length o.edges ≤ length o.nodes ⊎ (o.nodes ≡ []) → HasVar o x → Contains (map key (spots_in n o)) (record { variable = Some x; part = part_if (is_some o.quant) n })
var_key o n x l h =
    let p : Option ℕ = part_if (is_some o.quant) n in
    elim h [
      | inl a ↦ in_map key (spots_in n o) (spot false p (Some x)) (node_in l a)
      | inr b ↦ in_map key (spots_in n o) (spot true p (Some x)) (of_edges (map (spot false p) o.nodes) (map (spot true p) o.edges) (spot true p (Some x)) (in_map (spot true p) o.edges (Some x) b))
    ]
  where
    q : Option ℕ
    q = part_if (is_some o.quant) n

    same_length : {X Y : Type 0} (f : X → Y) (xs : List X) → length (map f xs) ≡ length xs
    same_length f [] = refl
    same_length f (y ∷ ys) = ap suc (same_length f ys)

    node_in : length o.edges ≤ length o.nodes ⊎ (o.nodes ≡ []) → Contains o.nodes (Some x) → Contains (spots_in n o) (spot false q (Some x))
    node_in (inl k) a =
        let i = same_length (spot {V = ℕ} false q) o.nodes in
        let j = same_length (spot {V = ℕ} true q) o.edges in
        of_nodes (map (spot false q) o.nodes) (map (spot true q) o.edges) (spot false q (Some x)) (omega (arith, i, j, k)) (in_map (spot false q) o.nodes (Some x) a)
    node_in (inr k) a = absurd (in_nil (Some x) (subst (λ z. Contains z (Some x)) k a))

-- THE ROUNDS OF A PART

mention_names : (o : Option ℕ) (e : ElemId) (x : ℕ) → o ≡ Some x → Names (elim o [ None ↦ [] | Some y ↦ record { var = y; elem = e } ∷ [] ]) x
mention_names None e x h = absurd (none_is x h)
mention_names (Some y) e x h = (record { var = y; elem = e }, in_here (record { var = y; elem = e }) [] (record { var = y; elem = e }) refl, some_is y x h)

named_mention : (o : Option ℕ) (e : ElemId) (x : ℕ) → Names (elim o [ None ↦ [] | Some y ↦ record { var = y; elem = e } ∷ [] ]) x → o ≡ Some x
named_mention None e x n = absurd (in_nil n.0 n.1)
named_mention (Some y) e x n = elim (in_cons (record { var = y; elem = e }) [] n.0 n.1) [
  | inl s ↦ ap Some (ap (λ (m : fits.Mention). m.var) s ∙ n.2)
  | inr c ↦ absurd (in_nil n.0 c)
]

legs_name : (g : Graph) (ws : List Arrow) (es ns : List CFiller) (v : ElemId) (hops : List Hop) (x : ℕ) → length ws ≡ length es → length ns ≡ length es → LegsFit g (legs_of ws es ns) v hops
    → Contains (map (λ (f : CFiller). f.var) ns) (Some x) ⊎ Contains (map (λ (f : CFiller). f.var) es) (Some x) → Names (seen_on_legs (legs_of ws es ns) hops) x
legs_name g ws [] [] v hops x a b h (inl c) = absurd (in_nil (Some x) c)
legs_name g ws [] [] v hops x a b h (inr c) = absurd (in_nil (Some x) c)
legs_name g ws [] (n ∷ ns) v hops x a b h c = absurd (omega (arith, b))
legs_name g ws (e ∷ es) [] v hops x a b h c = absurd (omega (arith, b))
legs_name g [] (e ∷ es) (n ∷ ns) v hops x a b h c = absurd (omega (arith, a))
legs_name g (w ∷ ws) (e ∷ es) (n ∷ ns) v [] x a b h c = absurd h
legs_name g (w ∷ ws) (e ∷ es) (n ∷ ns) v (hop ∷ hops) x a b h c = go c (λ k. legs_name g ws es ns hop.to hops x (omega (arith, a)) (omega (arith, b)) h.3 k)
  where
    own : List fits.Mention
    own = fits.mention e hop.edge

    next : List fits.Mention
    next = node_mention (Some n) hop.to

    rest : List fits.Mention
    rest = seen_on_legs (legs_of ws es ns) hops

    go : Contains (map (λ (f : CFiller). f.var) (n ∷ ns)) (Some x) ⊎ Contains (map (λ (f : CFiller). f.var) (e ∷ es)) (Some x)
        → (Contains (map (λ (f : CFiller). f.var) ns) (Some x) ⊎ Contains (map (λ (f : CFiller). f.var) es) (Some x) → Names rest x) → Names (own ++ (next ++ rest)) x
    go (inl k) later = elim (in_cons n.var (map (λ (f : CFiller). f.var) ns) (Some x) k) [
      | inl s ↦ names_right own (next ++ rest) x (names_left next rest x (mention_names n.var hop.to x s))
      | inr r ↦ names_right own (next ++ rest) x (names_right next rest x (later (inl r)))
    ]
    go (inr k) later = elim (in_cons e.var (map (λ (f : CFiller). f.var) es) (Some x) k) [
      | inl s ↦ names_left own (next ++ rest) x (mention_names e.var hop.edge x s)
      | inr r ↦ names_right own (next ++ rest) x (names_right next rest x (later (inr r)))
    ]

legs_have : (ws : List Arrow) (es ns : List CFiller) (hops : List Hop) (x : ℕ) → Names (seen_on_legs (legs_of ws es ns) hops) x
    → Contains (map (λ (f : CFiller). f.var) ns) (Some x) ⊎ Contains (map (λ (f : CFiller). f.var) es) (Some x)
legs_have [] es ns hops x n = absurd (in_nil n.0 n.1)
legs_have (w ∷ ws) [] ns hops x n = absurd (in_nil n.0 n.1)
legs_have (w ∷ ws) (e ∷ es) [] hops x n = absurd (in_nil n.0 n.1)
legs_have (w ∷ ws) (e ∷ es) (k ∷ ns) [] x n = absurd (in_nil n.0 n.1)
legs_have (w ∷ ws) (e ∷ es) (k ∷ ns) (hop ∷ hops) x n =
    let own : List fits.Mention = fits.mention e hop.edge in
    let next : List fits.Mention = node_mention (Some k) hop.to in
    let rest : List fits.Mention = seen_on_legs (legs_of ws es ns) hops in
    let vs : List (Option ℕ) = map (λ (f : CFiller). f.var) ns in
    let us : List (Option ℕ) = map (λ (f : CFiller). f.var) es in
    elim (names_either own (next ++ rest) x n) [
      | inl a ↦ inr (in_here e.var us (Some x) (named_mention e.var hop.edge x a))
      | inr b ↦ elim (names_either next rest x b) [
        | inl a ↦ inl (in_here k.var vs (Some x) (named_mention k.var hop.to x a))
        | inr r ↦ elim (legs_have ws es ns hops x r) [ inl a ↦ inl (in_there k.var vs (Some x) a) | inr b ↦ inr (in_there e.var us (Some x) b) ]
      ]
    ]

-- each variable of a part is named in each of its rounds
part_names : (shapes : Shapes) (shape : GraphShape) (g : Graph) (part : CPart) (v : ElemId) (hops : List Hop) (x : ℕ) → IsSoundPart shapes shape part → HasVar (outline_of part) x
    → LegsFit g (round_of part).legs v hops → Names (seen_in (round_of part) v hops) x
part_names shapes shape g (Node f) v hops x s (inl c) h = names_left (node_mention (Some f) v) [] x (elim (in_cons f.var [] (Some x) c) [ inl e ↦ mention_names f.var v x e | inr r ↦ absurd (in_nil (Some x) r) ])
part_names shapes shape g (Node f) v hops x s (inr c) h = absurd (in_nil (Some x) c)
part_names shapes shape g (Edge arrow f quant) v hops x s (inl c) h = absurd (in_nil (Some x) c)
part_names shapes shape g (Edge arrow f quant) v [] x s (inr c) h = absurd h
part_names shapes shape g (Edge arrow f quant) v (hop ∷ hops) x s (inr c) h =
    names_left (fits.mention f hop.edge) [] x (elim (in_cons f.var [] (Some x) c) [ inl e ↦ mention_names f.var hop.edge x e | inr r ↦ absurd (in_nil (Some x) r) ])
part_names shapes shape g (Group [] arrows edges condition quant) v hops x s c h = let n = s.2 in absurd (omega (arith, n))
part_names shapes shape g (Group (n ∷ ns) arrows edges condition quant) v hops x s c h = go c
  where
    rest : List fits.Mention
    rest = seen_on_legs (legs_of arrows edges ns) hops

    of_legs : Contains (map (λ (f : CFiller). f.var) ns) (Some x) ⊎ Contains (map (λ (f : CFiller). f.var) edges) (Some x) → Names (node_mention (Some n) v ++ rest) x
    of_legs k = let l = s.2 in names_right (node_mention (Some n) v) rest x (legs_name g arrows edges ns v hops x s.3 (omega (arith, l)) h k)

    go : Contains (map (λ (f : CFiller). f.var) (n ∷ ns)) (Some x) ⊎ Contains (map (λ (f : CFiller). f.var) edges) (Some x) → Names (node_mention (Some n) v ++ rest) x
    go (inl k) = elim (in_cons n.var (map (λ (f : CFiller). f.var) ns) (Some x) k) [
      | inl e ↦ names_left (node_mention (Some n) v) rest x (mention_names n.var v x e)
      | inr r ↦ of_legs (inl r)
    ]
    go (inr k) = of_legs (inr k)

part_has : (part : CPart) (v : ElemId) (hops : List Hop) (x : ℕ) → Names (seen_in (round_of part) v hops) x → HasVar (outline_of part) x
part_has (Node f) v hops x n = elim (names_either (node_mention (Some f) v) [] x n) [
  | inl a ↦ inl (in_here f.var [] (Some x) (named_mention f.var v x a))
  | inr b ↦ absurd (in_nil b.0 b.1)
]
part_has (Edge arrow f quant) v [] x n = absurd (in_nil n.0 n.1)
part_has (Edge arrow f quant) v (hop ∷ hops) x n = elim (names_either (fits.mention f hop.edge) [] x n) [
  | inl a ↦ inr (in_here f.var [] (Some x) (named_mention f.var hop.edge x a))
  | inr b ↦ absurd (in_nil b.0 b.1)
]
part_has (Group [] arrows edges condition quant) v hops x n = absurd (in_nil n.0 n.1)
part_has (Group (k ∷ ns) arrows edges condition quant) v hops x n = elim (names_either (node_mention (Some k) v) (seen_on_legs (legs_of arrows edges ns) hops) x n) [
  | inl a ↦ inl (in_here k.var (map (λ (f : CFiller). f.var) ns) (Some x) (named_mention k.var v x a))
  | inr b ↦ elim (legs_have arrows edges ns hops x b) [ inl a ↦ inl (in_there k.var (map (λ (f : CFiller). f.var) ns) (Some x) a) | inr c ↦ inr c ]
]

-- PARTS

same_quant : (part : CPart) → (outline_of part).quant ≡ quant_of part
same_quant (Node f) = refl
same_quant (Edge arrow f quant) = refl
same_quant (Group nodes arrows edges condition quant) = refl

in_part : (shapes : Shapes) (shape : GraphShape) (part : CPart) → IsSoundPart shapes shape part → length (outline_of part).edges ≤ length (outline_of part).nodes ⊎ ((outline_of part).nodes ≡ [])
in_part shapes shape (Node f) s = inl (omega arith)
in_part shapes shape (Edge arrow f quant) s = inr refl
in_part shapes shape (Group nodes arrows edges condition quant) s =
    let n = s.2 in
    let a = same_length nodes in
    let b = same_length edges in
    inl (omega (arith, n, a, b))
  where
    same_length : (fs : List CFiller) → length (map (λ (f : CFiller). f.var) fs) ≡ length fs
    same_length [] = refl
    same_length (f ∷ fs) = ap suc (same_length fs)

abbrev keys : ℕ → List CPart → List Key
keys n parts = map key (spots_from n (map outline_of parts))

nil_behind : {X : Type 0} (xs : List X) → xs ++ [] ≡ xs
nil_behind [] = refl
nil_behind (x ∷ xs) = ap (λ ys. x ∷ ys) (nil_behind xs)

singles_name : (shapes : Shapes) (shape : GraphShape) (g : Graph) (n : ℕ) (parts : List CPart) (v : ElemId) (cuts : List (List (List Hop))) (x : ℕ) → Each (IsSoundPart shapes shape) parts → Fits g parts v cuts
    → Contains (keys n parts) (record { variable = Some x; part = None }) → Names (singles parts v cuts) x
singles_name shapes shape g n [] v cuts x s h c = absurd (in_nil (record { variable = Some x; part = None }) c)
singles_name shapes shape g n (part ∷ parts) v [] x s h c = absurd h
singles_name shapes shape g n (part ∷ parts) v (rounds ∷ cuts) x s h c =
    elim (in_append (map key (spots_in n (outline_of part))) (keys (n + 1) parts) (record { variable = Some x; part = None })
    (subst (λ ks. Contains ks (record { variable = Some x; part = None })) (map-append key (spots_in n (outline_of part)) (spots_from (n + 1) (map outline_of parts))) c)) [
      | inl a ↦ own (quant_of part) rounds refl h.0 h.1 (key_var (outline_of part) n x None a)
      | inr b ↦ names_right (mine (quant_of part)) rest x (singles_name shapes shape g (n + 1) parts (last_vertex v (join rounds)) cuts x s.1 h.2 b)
    ]
  where
    rest : List fits.Mention
    rest = singles parts (last_vertex v (join rounds)) cuts

    mine : Option Quant → List fits.Mention
    mine o = elim o [ None ↦ seen_in (round_of part) v (join rounds) | Some q ↦ [] ]

    own : (o : Option Quant) (rs : List (List Hop)) → quant_of part ≡ o → fits.InRange o (length rs) → RoundsFit g (round_of part) v rs → (None ≡ part_if (is_some (outline_of part).quant) n) × HasVar (outline_of part) x
        → Names ((elim o [ None ↦ seen_in (round_of part) v (join rs) | Some q ↦ [] ]) ++ rest) x
    own None [] e i r k = absurd (omega (arith, i))
    own None (hops ∷ []) e i r k =
        let named : Names (seen_in (round_of part) v hops) x = part_names shapes shape g part v hops x s.0 k.1 r.0.1 in
        names_left (seen_in (round_of part) v (hops ++ [])) rest x (subst (λ hs. Names (seen_in (round_of part) v hs) x) (sym (nil_behind hops)) named)
    own None (hops ∷ more ∷ rs) e i r k = absurd (omega (arith, i))
    own (Some q) rs e i r k = absurd (none_is n (k.0 ∙ ap (λ o. part_if (is_some o) n) (same_quant part ∙ e)))

first_in : (ms : List fits.Mention) (x : ℕ) → Names (firsts ms) x → Names ms x
first_in [] x n = absurd (in_nil n.0 n.1)
first_in (m ∷ ms) x n = elim (in_cons m (filter (λ k. not (k.var == m.var)) (firsts ms)) n.0 n.1) [
  | inl s ↦ (n.0, in_here m ms n.0 s, n.2)
  | inr c ↦ (let r = first_in ms x (n.0, (in_filter (λ k. not (k.var == m.var)) (firsts ms) n.0 c).0, n.2) in (r.0, in_there m ms r.0 r.1, r.2))
]

rounds_have : (part : CPart) (v : ElemId) (rounds : List (List Hop)) (x : ℕ) → Names (seen_in_rounds (round_of part) v rounds) x → HasVar (outline_of part) x
rounds_have part v [] x n = absurd (in_nil n.0 n.1)
rounds_have part v (hops ∷ rounds) x n = elim (names_either (firsts (seen_in (round_of part) v hops)) (seen_in_rounds (round_of part) (last_vertex v hops) rounds) x n) [
  | inl a ↦ part_has part v hops x (first_in (seen_in (round_of part) v hops) x a)
  | inr b ↦ rounds_have part (last_vertex v hops) rounds x b
]

groups_keys : (shapes : Shapes) (shape : GraphShape) (n : ℕ) (parts : List CPart) (v : ElemId) (cuts : List (List (List Hop))) (x : ℕ) → Each (IsSoundPart shapes shape) parts → Names (groups parts v cuts) x
    → (j : ℕ) × Contains (keys n parts) (record { variable = Some x; part = Some j })
groups_keys shapes shape n [] v cuts x s k = absurd (in_nil k.0 k.1)
groups_keys shapes shape n (part ∷ parts) v [] x s k = absurd (in_nil k.0 k.1)
groups_keys shapes shape n (part ∷ parts) v (rounds ∷ cuts) x s k = go (quant_of part) refl k (λ r. groups_keys shapes shape (n + 1) parts (last_vertex v (join rounds)) cuts x s.1 r)
  where
    rest : List fits.Mention
    rest = groups parts (last_vertex v (join rounds)) cuts

    own : List Key
    own = map key (spots_in n (outline_of part))

    all : (j : ℕ) → Contains (own ++ keys (n + 1) parts) (record { variable = Some x; part = Some j }) → Contains (keys n (part ∷ parts)) (record { variable = Some x; part = Some j })
    all j c = subst (λ ks. Contains ks (record { variable = Some x; part = Some j })) (sym (map-append key (spots_in n (outline_of part)) (spots_from (n + 1) (map outline_of parts)))) c

    later : (j : ℕ) × Contains (keys (n + 1) parts) (record { variable = Some x; part = Some j }) → (j : ℕ) × Contains (keys n (part ∷ parts)) (record { variable = Some x; part = Some j })
    later r = (r.0, all r.0 (in_right own (keys (n + 1) parts) (record { variable = Some x; part = Some r.0 }) r.1))

    go : (o : Option Quant) → quant_of part ≡ o → Names ((elim o [ None ↦ [] | Some q ↦ seen_in_rounds (round_of part) v rounds ]) ++ rest) x
        → (Names rest x → (j : ℕ) × Contains (keys (n + 1) parts) (record { variable = Some x; part = Some j })) → (j : ℕ) × Contains (keys n (part ∷ parts)) (record { variable = Some x; part = Some j })
    go None e m next = later (next m)
    go (Some q) e m next = elim (names_either (seen_in_rounds (round_of part) v rounds) rest x m) [
      | inl a ↦ (let c = var_key (outline_of part) n x (in_part shapes shape part s.0) (rounds_have part v rounds x a) in (
        n,
        all n (in_left own (keys (n + 1) parts) (record { variable = Some x; part = Some n })
            (subst (λ o. Contains own (record { variable = Some x; part = part_if (is_some o) n })) (same_quant part ∙ e) c)),
      ))
      | inr b ↦ later (next b)
    ]

-- MENTIONS

or_true : (a : Bool) → (a || true) ≡ true
or_true true = refl
or_true false = refl

-- a spot of a variable, in a part that is repeated or not
mentioned : (os : List (Outline ℕ)) (x : ℕ) (part : Option ℕ) → Contains (map key (spots_from 0 os)) (record { variable = Some x; part = part })
    → (edge end : Bool) × Contains (mentions_in 0 os) (record { variable = x; edge = edge; path = 0; part = part; end = end })
mentioned os x part c =
    let s = from_map key (spots os) (record { variable = Some x; part = part }) (subst (λ ks. Contains ks (record { variable = Some x; part = part })) (sym (spots_same os)) c) in
    let v : s.0.variable ≡ Some x = ap (λ (k : Key). k.variable) s.2 in
    let q : s.0.part ≡ part = ap (λ (k : Key). k.part) s.2 in
    let is : mention_at 0 s.0 ≡ Some (record { variable = x; edge = s.0.edge; path = 0; part = part; end = s.0.end }) =
    λ i. option_map (λ (y : ℕ). record { variable = y; edge = s.0.edge; path = 0; part = q i; end = s.0.end }) (v i) in
    (s.0.edge, s.0.end, in_filter_map (mention_at 0) (spots os) s.0 (record { variable = x; edge = s.0.edge; path = 0; part = part; end = s.0.end }) s.1 is)

-- what is mentioned has a key
key_of : (n : ℕ) (os : List (Outline ℕ)) (m : Mention ℕ) → Contains (mentions_in n os) m → Contains (map key (spots_from 0 os)) (record { variable = Some m.variable; part = m.part })
key_of n os m c =
    let s = from_filter_map (mention_at n) (spots os) m c in
    subst (λ ks. Contains ks (record { variable = Some m.variable; part = m.part })) (spots_same os)
    (subst (λ k. Contains (map key (spots os)) k) (is s.0 s.0.variable refl s.2) (in_map key (spots os) s.0 s.1))
  where
    is : (s : Spot ℕ) (o : Option ℕ) → s.variable ≡ o → option_map (λ (y : ℕ). record { variable = y; edge = s.edge; path = n; part = s.part; end = s.end }) o ≡ Some m → key s ≡ record { variable = Some m.variable; part = m.part }
    is s None e h = absurd (none_is m h)
    is s (Some y) e h =
        let k = some_is (record { variable = y; edge = s.edge; path = n; part = s.part; end = s.end }) m h in
        (λ i. record { variable = e i; part = s.part }) ∙ (λ i. record { variable = Some (k i).variable; part = (k i).part })

no_pair_at : {X : Type 0} (test : X → X → Bool) (xs : List X) (a b : X) → NoPair test xs → Contains xs a → Contains xs b → test a b ≡ true → test b a ≡ true → a ≡ b
no_pair_at test [] a b h c d e f = absurd (in_nil a c)
no_pair_at test (y ∷ ys) a b h c d e f = elim (in_cons y ys a c) [
  | inl s ↦ elim (in_cons y ys b d) [
    | inl t ↦ sym s ∙ t
    | inr r ↦ absurd (true_false (sym e ∙ ap (λ z. test z b) (sym s) ∙ of_each (λ z. test y z ≡ false) ys b h.0 r))
  ]
  | inr r ↦ elim (in_cons y ys b d) [
    | inl t ↦ absurd (true_false (sym f ∙ ap (λ z. test z a) (sym t) ∙ of_each (λ z. test y z ≡ false) ys a h.0 r))
    | inr k ↦ no_pair_at test ys a b h.1 r k e f
  ]
]

-- a variable stands in a repeated part and outside of it
both_ways : (strict : ℕ → Bool) (x j : ℕ) (ms : List (Mention ℕ)) (e f g h : Bool) → NoPair (clash same_number strict) ms
    → Contains ms (record { variable = x; edge = e; path = 0; part = None; end = f }) → Contains ms (record { variable = x; edge = g; path = 0; part = Some j; end = h }) → ⊥
both_ways strict x j ms e f g h apart c d =
    let a : Mention ℕ = record { variable = x; edge = e; path = 0; part = None; end = f } in
    let b : Mention ℕ = record { variable = x; edge = g; path = 0; part = Some j; end = h } in
    let left : clash same_number strict a b ≡ true = one a b (eq-eqb x x refl) refl in
    let right : clash same_number strict b a ≡ true = one b a (eq-eqb x x refl) refl in
    none_is j (ap (λ (m : Mention ℕ). m.part) (no_pair_at (clash same_number strict) ms a b apart c d left right))
  where
    one : (a b : Mention ℕ) → (a.variable == b.variable) ≡ true → ((is_some a.part || is_some b.part) && not ((a.path == b.path) && same_part a.part b.part)) ≡ true → clash same_number strict a b ≡ true
    one a b k l = (λ i. k i && (not (same_sort a.edge b.edge) || (l i || returns strict a b))) ∙ or_true (not (same_sort a.edge b.edge))

-- ONE PATH PATTERN

one_only : {X : Type 0} (xs : List X) → length xs ≡ 1 → (x : X) × (xs ≡ x ∷ [])
one_only [] h = absurd (omega (arith, h))
one_only (x ∷ []) h = (x, refl)
one_only (x ∷ y ∷ xs) h = absurd (omega (arith, h))

no_count : (ms : List fits.Mention) (x : ℕ) → (Names ms x → ⊥) → count ms x ≡ 0
no_count ms x none = go (count ms x) refl
  where
    go : (n : ℕ) → count ms x ≡ n → n ≡ 0
    go zero e = refl
    go (suc n) e = absurd (none (named_if ms x (omega (arith, e))))

one_row : (tables : Tables) (es : List ElemId) (e : ElemId) → es ≡ e ∷ [] → Each (IsRow tables) es → IsRow tables e
one_row tables es e h r = (subst (Each (IsRow tables)) h r).0

single_fits : (shapes : Shapes) (tables : Tables) (p : CheckedPath) (b : Binding) → IsSoundPath shapes p → (order : IsInOrder tables) → (i : IsBinding (graph_of shapes p.graph tables) p b) → (x : ℕ)
    → Contains (keys 0 p.parts) (record { variable = Some x; part = None }) → FitsDegree tables (length b.hops) Singleton (lists_of p.parts b.start i.cuts x)
single_fits shapes tables p b sound order i x c =
    let g : Graph = graph_of shapes p.graph tables in
    let ones : List fits.Mention = singles p.parts b.start i.cuts in
    let many : List fits.Mention = groups p.parts b.start i.cuts in
    let at_least : 1 ≤ count (firsts ones) x = counted (firsts ones) x (named_first ones x (singles_name shapes p.graph g 0 p.parts b.start i.cuts x sound.parts i.fits c)) in
    let at_most : count (firsts ones) x ≤ 1 = firsts_once ones x in
    let none : count many x ≡ 0 = no_count many x (λ n.
    let k = groups_keys shapes p.graph 0 p.parts b.start i.cuts x sound.parts n in
    let one = mentioned (outlines p) x None c in
    let other = mentioned (outlines p) x (Some k.0) k.1 in
    both_ways _ x k.0 (mentions_in 0 (outlines p)) one.0 one.1 other.0 other.1 sound.apart one.2 other.2) in
    let sum : length (lists_of p.parts b.start i.cuts x) ≡ count (firsts ones) x + count many x = ap length (elements_append (firsts ones) many x) ∙ length-append (elements (firsts ones) x) (elements many x) in
    let e = one_only (lists_of p.parts b.start i.cuts x) (omega (arith, sum, at_least, at_most, none)) in
    (e.0, e.1, one_row tables (lists_of p.parts b.start i.cuts x) e.0 e.1 (binding_lists shapes tables p b sound order i x).rows)

path_fits : (shapes : Shapes) (tables : Tables) (p : CheckedPath) (b : Binding) → IsSoundPath shapes p → (order : IsInOrder tables) → (i : IsBinding (graph_of shapes p.graph tables) p b)
    → (m : Mention ℕ) → Contains (mentions_in 0 (outlines p)) m → FitsDegree tables (length b.hops) (degree_of m) (lists_of p.parts b.start i.cuts m.variable)
path_fits shapes tables p b sound order i m c = go m.part refl
  where
    go : (o : Option ℕ) → m.part ≡ o → FitsDegree tables (length b.hops) (cond (is_some o) Grouped Singleton) (lists_of p.parts b.start i.cuts m.variable)
    go None e = single_fits shapes tables p b sound order i m.variable (subst (λ k. Contains (keys 0 p.parts) k) (λ j. record { variable = Some m.variable; part = e j }) (key_of 0 (outlines p) m c))
    go (Some j) e = binding_lists shapes tables p b sound order i m.variable

-- THE FIRST MENTION, AND THE LISTS OF A TUPLE

abbrev is_of : ℕ → Mention ℕ → Bool
is_of x m = same_number x m.variable

abbrev at_path : ℕ → Mention ℕ → Mention ℕ
at_path n m = record { variable = m.variable; edge = m.edge; path = n; part = m.part; end = m.end }

found_item : {X : Type 0} (test : X → Bool) (xs : List X) (x : X) → find test xs ≡ Some x → Contains xs x × (test x ≡ true)
found_item test [] x h = absurd (none_is x h)
found_item test (y ∷ xs) x h = go (test y) refl h (found_item test xs x)
  where
    go : (b : Bool) → test y ≡ b → cond b (Some y) (find test xs) ≡ Some x → (find test xs ≡ Some x → Contains xs x × (test x ≡ true)) → Contains (y ∷ xs) x × (test x ≡ true)
    go true e k rest = let s = some_is y x k in (in_here y xs x s, ap test (sym s) ∙ e)
    go false e k rest = let r = rest k in (in_there y xs x r.0, r.1)

not_found : {X : Type 0} (test : X → Bool) (xs : List X) (x : X) → find test xs ≡ None → Contains xs x → test x ≡ false
not_found test [] x h c = absurd (in_nil x c)
not_found test (y ∷ xs) x h c = go (test y) refl h (λ k r. not_found test xs x k r)
  where
    go : (b : Bool) → test y ≡ b → cond b (Some y) (find test xs) ≡ None → (find test xs ≡ None → Contains xs x → test x ≡ false) → test x ≡ false
    go true e k rest = absurd (none_is y (sym k))
    go false e k rest = elim (in_cons y xs x c) [ inl s ↦ ap test (sym s) ∙ e | inr r ↦ rest k r ]

found_before : {X : Type 0} (test : X → Bool) (xs ys : List X) (x : X) → find test xs ≡ Some x → find test (xs ++ ys) ≡ Some x
found_before test [] ys x h = absurd (none_is x h)
found_before test (y ∷ xs) ys x h = go (test y) h (found_before test xs ys x)
  where
    go : (b : Bool) → cond b (Some y) (find test xs) ≡ Some x → (find test xs ≡ Some x → find test (xs ++ ys) ≡ Some x) → cond b (Some y) (find test (xs ++ ys)) ≡ Some x
    go true k rest = k
    go false k rest = rest k

found_behind : {X : Type 0} (test : X → Bool) (xs ys : List X) → find test xs ≡ None → find test (xs ++ ys) ≡ find test ys
found_behind test [] ys h = refl
found_behind test (y ∷ xs) ys h = go (test y) h (found_behind test xs ys)
  where
    go : (b : Bool) → cond b (Some y) (find test xs) ≡ None → (find test xs ≡ None → find test (xs ++ ys) ≡ find test ys) → cond b (Some y) (find test (xs ++ ys)) ≡ find test ys
    go true k rest = absurd (none_is y (sym k))
    go false k rest = rest k

spots_found : (n x : ℕ) (ss : List (Spot ℕ)) → find (is_of x) (filter_map (mention_at n) ss) ≡ option_map (at_path n) (find (is_of x) (filter_map (mention_at 0) ss))
spots_found n x [] = refl
spots_found n x (s ∷ ss) = go s.variable (spots_found n x ss)
  where
    rest : ℕ → List (Mention ℕ)
    rest k = filter_map (mention_at k) ss

    at : ℕ → Option ℕ → Option (Mention ℕ)
    at k o = option_map (λ (y : ℕ). record { variable = y; edge = s.edge; path = k; part = s.part; end = s.end }) o

    step : (y : ℕ) (b : Bool) → find (is_of x) (filter_map (mention_at n) ss) ≡ option_map (at_path n) (find (is_of x) (filter_map (mention_at 0) ss))
        → cond b (Some (record { variable = y; edge = s.edge; path = n; part = s.part; end = s.end })) (find (is_of x) (filter_map (mention_at n) ss))
        ≡ option_map (at_path n) (cond b (Some (record { variable = y; edge = s.edge; path = 0; part = s.part; end = s.end })) (find (is_of x) (filter_map (mention_at 0) ss)))
    step y true r = refl
    step y false r = r

    go : (o : Option ℕ) → find (is_of x) (filter_map (mention_at n) ss) ≡ option_map (at_path n) (find (is_of x) (filter_map (mention_at 0) ss))
        → find (is_of x) (cons_option (option_map (λ (y : ℕ). record { variable = y; edge = s.edge; path = n; part = s.part; end = s.end }) o) (filter_map (mention_at n) ss))
        ≡ option_map (at_path n) (find (is_of x) (cons_option (option_map (λ (y : ℕ). record { variable = y; edge = s.edge; path = 0; part = s.part; end = s.end }) o) (filter_map (mention_at 0) ss)))
    go None r = r
    go (Some y) r = step y (x == y) r

abbrev numbers : List (Mention ℕ) → List ℕ
numbers ms = map (λ (n : Mention ℕ). n.variable) ms

-- leaving out another variable
still_there : (y x : ℕ) → (y == x) ≡ false → (ns : List (Mention ℕ)) → list_any (λ z. z == x) (numbers ns) ≡ true → list_any (λ z. z == x) (numbers (filter (λ n. not (y == n.variable)) ns)) ≡ true
still_there y x e [] h = absurd (true_false (sym h))
still_there y x e (n ∷ ns) h = go (n.variable == x) refl (y == n.variable) refl h (λ r. still_there y x e ns r)
  where
    others : List (Mention ℕ)
    others = filter (λ n. not (y == n.variable)) ns

    go : (a : Bool) → (n.variable == x) ≡ a → (b : Bool) → (y == n.variable) ≡ b → (a || list_any (λ z. z == x) (numbers ns)) ≡ true
        → (list_any (λ z. z == x) (numbers ns) ≡ true → list_any (λ z. z == x) (numbers others) ≡ true) → list_any (λ z. z == x) (numbers (cond (not b) (n ∷ others) others)) ≡ true
    go true f true k l rest = absurd (true_false (sym (eq-eqb y x (eqb-true y n.variable k ∙ eqb-true n.variable x f)) ∙ e))
    go true f false k l rest = ap (λ b. b || list_any (λ z. z == x) (numbers others)) f
    go false f true k l rest = rest l
    go false f false k l rest = ap (λ b. b || list_any (λ z. z == x) (numbers others)) f ∙ rest l

-- a variable that is mentioned is among the variables
mentioned_var : (x : ℕ) (ms : List (Mention ℕ)) (m : Mention ℕ) → find (is_of x) ms ≡ Some m → list_any (λ y. y == x) (variables_of ms) ≡ true
mentioned_var x [] m h = absurd (none_is m h)
mentioned_var x (k ∷ ms) m h = go (k.variable == x) refl (x == k.variable) refl h (λ r. mentioned_var x ms m r)
  where
    others : List (Mention ℕ)
    others = filter (λ (n : Mention ℕ). not (k.variable == n.variable)) (first_mentions same_number ms)

    go : (a : Bool) → (k.variable == x) ≡ a → (b : Bool) → (x == k.variable) ≡ b → cond b (Some k) (find (is_of x) ms) ≡ Some m → (find (is_of x) ms ≡ Some m → list_any (λ y. y == x) (variables_of ms) ≡ true)
        → (a || list_any (λ y. y == x) (numbers others)) ≡ true
    go true e b f l rest = refl
    go false e true f l rest = absurd (true_false (sym (eq-eqb k.variable x (sym (eqb-true x k.variable f))) ∙ e))
    go false e false f l rest = still_there k.variable x e (first_mentions same_number ms) (rest l)

first_mention : (ms : List (Mention ℕ)) (m : Mention ℕ) → Contains (first_mentions same_number ms) m → Contains ms m
first_mention [] m c = absurd (in_nil m c)
first_mention (k ∷ ms) m c = elim (in_cons k (filter (λ n. not (same_number k.variable n.variable)) (first_mentions same_number ms)) m c) [
  | inl s ↦ in_here k ms m s
  | inr r ↦ in_there k ms m (first_mention ms m (in_filter (λ n. not (same_number k.variable n.variable)) (first_mentions same_number ms) m r).0)
]

-- and one that is not is not
unmentioned_var : (x : ℕ) (ms : List (Mention ℕ)) → find (is_of x) ms ≡ None → list_any (λ y. y == x) (variables_of ms) ≡ false
unmentioned_var x ms h = go (list_any (λ y. y == x) (variables_of ms)) refl
  where
    go : (b : Bool) → list_any (λ y. y == x) (variables_of ms) ≡ b → b ≡ false
    go false e = refl
    go true e =
        let y = from_any (λ y. y == x) (variables_of ms) e in
        let m = from_map (λ (n : Mention ℕ). n.variable) (first_mentions same_number ms) y.0 y.1 in
        let same : x ≡ m.0.variable = sym (eqb-true y.0 x y.2) ∙ sym m.2 in
        absurd (true_false (sym (eq-eqb x m.0.variable same) ∙ not_found (is_of x) ms m.0 h (first_mention ms m.0 m.1)))

abbrev list_is : ℕ → VarList → Bool
list_is x l = l.var == x

-- the list of a variable that a path pattern names
own_list : (f : ℕ → List ElemId) (ys : List ℕ) (more : List VarList) (x : ℕ) → list_any (λ y. y == x) ys ≡ true → elems_found (find (list_is x) (lists_with ys (map f ys) ++ more)) ≡ f x
own_list f [] more x h = absurd (true_false (sym h))
own_list f (y ∷ ys) more x h = go (y == x) refl h (own_list f ys more x)
  where
    go : (b : Bool) → (y == x) ≡ b → (b || list_any (λ z. z == x) ys) ≡ true → (list_any (λ z. z == x) ys ≡ true → elems_found (find (list_is x) (lists_with ys (map f ys) ++ more)) ≡ f x)
        → elems_found (cond b (Some (record { var = y; elems = f y })) (find (list_is x) (lists_with ys (map f ys) ++ more))) ≡ f x
    go true e k rest = ap f (eqb-true y x e)
    go false e k rest = rest k

other_list : (f : ℕ → List ElemId) (ys : List ℕ) (more : List VarList) (x : ℕ) → list_any (λ y. y == x) ys ≡ false → find (list_is x) (lists_with ys (map f ys) ++ more) ≡ find (list_is x) more
other_list f [] more x h = refl
other_list f (y ∷ ys) more x h = go (y == x) h (other_list f ys more x)
  where
    go : (b : Bool) → (b || list_any (λ z. z == x) ys) ≡ false → (list_any (λ z. z == x) ys ≡ false → find (list_is x) (lists_with ys (map f ys) ++ more) ≡ find (list_is x) more)
        → cond b (Some (record { var = y; elems = f y })) (find (list_is x) (lists_with ys (map f ys) ++ more)) ≡ find (list_is x) more
    go true k rest = absurd (true_false k)
    go false k rest = rest k

-- QUERIES

longer : (tables : Tables) (m n : ℕ) → m ≤ n → (d : Degree) (es : List ElemId) → FitsDegree tables m d es → FitsDegree tables n d es
longer tables m n l Singleton es h = h
longer tables m n l Grouped es h = let s = h.short in record { rows = h.rows; short = omega (arith, l, s) }

module _ (shapes : Shapes) (graph : GraphShape) (tables : Tables) (hops : ℕ) (order : IsInOrder tables) (x : ℕ) where
  abbrev fit : Option Degree → List ElemId → Type 0
  fit o es = IfSome o (λ d. FitsDegree tables hops d es)

  step : (p : CheckedPath) (b : Binding) (more : List VarList) (n : ℕ) (ms : List (Mention ℕ)) → p.graph ≡ graph → IsSoundPath shapes p → IsBinding (graph_of shapes graph tables) p b → length b.hops ≤ hops
      → fit (option_map degree_of (find (is_of x) ms)) (elems_found (find (list_is x) more))
      → fit (option_map degree_of (find (is_of x) (mentions_in n (outlines p) ++ ms))) (elems_found (find (list_is x) (lists_with p.vars b.vars ++ more)))
  step p b more n ms same sound i short rest = go (find (is_of x) (mentions_in 0 (outlines p))) refl
    where
      own : IsBinding (graph_of shapes p.graph tables) p b
      own = subst (λ g. IsBinding (graph_of shapes g tables) p b) (sym same) i

      f : ℕ → List ElemId
      f = lists_of p.parts b.start own.cuts

      lists : lists_with p.vars b.vars ≡ lists_with p.vars (map f p.vars)
      lists = ap (lists_with p.vars) own.vars

      moved : find (is_of x) (mentions_in n (outlines p)) ≡ option_map (at_path n) (find (is_of x) (mentions_in 0 (outlines p)))
      moved = spots_found n x (spots (outlines p))

      among : (c : Bool) → list_any (λ y. y == x) (variables_of (mentions_in 0 (outlines p))) ≡ c → list_any (λ y. y == x) p.vars ≡ c
      among c e = ap (list_any (λ y. y == x)) sound.variables ∙ e

      go : (o : Option (Mention ℕ)) → find (is_of x) (mentions_in 0 (outlines p)) ≡ o
          → fit (option_map degree_of (find (is_of x) (mentions_in n (outlines p) ++ ms))) (elems_found (find (list_is x) (lists_with p.vars b.vars ++ more)))
      go None e =
          let behind = found_behind (is_of x) (mentions_in n (outlines p)) ms (moved ∙ ap (option_map (at_path n)) e) in
          let other = ap (λ ls. find (list_is x) (ls ++ more)) lists ∙ other_list f p.vars more x (among false (unmentioned_var x (mentions_in 0 (outlines p)) e)) in
          subst (λ o. fit (option_map degree_of o) (elems_found (find (list_is x) (lists_with p.vars b.vars ++ more)))) (sym behind)
          (subst (λ l. fit (option_map degree_of (find (is_of x) ms)) (elems_found l)) (sym other) rest)
      go (Some m) e =
          let before = found_before (is_of x) (mentions_in n (outlines p)) ms (at_path n m) (moved ∙ ap (option_map (at_path n)) e) in
          let list = ap (λ ls. elems_found (find (list_is x) (ls ++ more))) lists ∙ own_list f p.vars more x (among true (mentioned_var x (mentions_in 0 (outlines p)) m e)) in
          let item = found_item (is_of x) (mentions_in 0 (outlines p)) m e in
          let fits_path = path_fits shapes tables p b sound order own m item.0 in
          let here : FitsDegree tables (length b.hops) (degree_of m) (f x) = subst (λ y. FitsDegree tables (length b.hops) (degree_of m) (f y)) (sym (eqb-true x m.variable item.1)) fits_path in
          subst (λ o. fit (option_map degree_of o) (elems_found (find (list_is x) (lists_with p.vars b.vars ++ more)))) (sym before)
          (subst (λ es. FitsDegree tables hops (degree_of m) es) (sym list) (longer tables (length b.hops) hops short (degree_of m) (f x) here))

  all : (n : ℕ) (ps : List CheckedPath) (bs : List Binding) → Each (λ p. (p.graph ≡ graph) × IsSoundPath shapes p) ps → AllZip (λ p b. IsBinding (graph_of shapes graph tables) p b) ps bs
      → Each (λ b. length b.hops ≤ hops) bs → fit (option_map degree_of (find (is_of x) (mentions_from n (map outlines ps)))) (elems_found (find (list_is x) (lists_in ps bs)))
  all n [] bs s z h = tt
  all n (p ∷ ps) [] s z h = absurd z
  all n (p ∷ ps) (b ∷ bs) s z h = step p b (lists_in ps bs) n (mentions_from (n + 1) (map outlines ps)) s.0.0 s.0.1 z.0 h.0 (all (n + 1) ps bs s.1 z.1 h.1)

pub tuples_fit : TuplesFit
tuples_fit shapes tables q tuple hops sound order z short x = all shapes q.graph tables hops order x 0 q.paths tuple sound.paths z short
