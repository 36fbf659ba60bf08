-- The variables of a sound path pattern's parts are those of the pattern, and no two quantified parts have one.
use Rattle.std.proofs.Common.{◌≡◌, ◌==◌, ◌&&◌, ◌||◌, ◌+◌, ◌<◌, ◌≤◌, ℕ, Bool, true, false, not, List, [], ◌∷◌, ◌++◌, map, Contains, ◌⊎◌, inl, inr, refl, arith, ap, sym, ◌∙◌, subst, eq-eqb}
use Rattle.std.specs.Prelude.{Option, Some, None, is_some, option_map, filter, filter_map}
use Rattle.std.specs.List.{cons_option}
use Rattle.std.proofs.lemmas.Bool.{eqb-true}
use Rattle.std.proofs.lemmas.List.Elements.{filter_map-append}
use Rattle.pg_keyed.specs.Lists.{Each}
use Rattle.pg_value.specs.declared.shape.Shapes.{Shapes}
use Rattle.pg_ast.specs.declared.pattern.Arrow.{Arrow}
use Rattle.pg_ast.specs.declared.pattern.Quant.{Quant}
use Rattle.pg_meaning.specs.declared.checked.CExpr.{CExpr}
use Rattle.pg_meaning.specs.declared.checked.CFiller.{CFiller}
use Rattle.pg_meaning.specs.declared.checked.CPart.{CPart}
use Rattle.pg_meaning.specs.declared.checked.CPart.TheVariants.{Node, Edge, Group}
use Rattle.pg_meaning.specs.declared.checked.CheckedPath.{CheckedPath}
use Rattle.pg_meaning.specs.Rounds.{legs_of, group_of, round_of, quant_of}
use Rattle.pg_meaning.specs.Outlines.{Outline, Spot, spot, in_turn, part_if, spots_in, spots_from, spots, first_as_end, last_as_end, walks_on}
use Rattle.pg_meaning.specs.Mentions.{Mention, mention_at, mentions_in, first_mentions, same_part, clash}
use Rattle.pg_meaning.specs.Members.{in_nil, in_here, in_there, in_cons, in_left, in_right, in_append, in_map, from_map, in_filter_map}
use Rattle.pg_meaning.specs.Sound.Patterns.{IsSoundPath, NoPair, outline_of, outlines, same_number, variables_of}
use Rattle.pg_auto.proofs.Members.{kept}
use Rattle.pg_auto.proofs.Once.Named.{listed, leg_vars, round_vars}
use Rattle.pg_auto.proofs.Once.{IsGroupVar, AreApart, AreKnown}
use Rattle.pg_auto.proofs.Ranks.Bounds.{same_quant}

-- MENTIONS BY VARIABLE AND PART

record Key : Type 0 where
  variable : ℕ
  part : Option ℕ

abbrev key_of : Mention ℕ → Key
key_of m = record { variable = m.variable; part = m.part }

abbrev spot_key : Spot ℕ → Option Key
spot_key s = option_map (λ v. record { variable = v; part = s.part }) s.variable

abbrev keys : List (Spot ℕ) → List Key
keys ss = filter_map spot_key ss

keys_of : (path : ℕ) (ss : List (Spot ℕ)) → map key_of (filter_map (mention_at path) ss) ≡ keys ss
keys_of path [] = refl
keys_of path (s ∷ ss) = go s.variable (keys_of path ss)
  where
    go : (o : Option ℕ) → map key_of (filter_map (mention_at path) ss) ≡ keys ss
        → map key_of (cons_option (option_map (λ (v : ℕ). record { variable = v; edge = s.edge; path = path; part = s.part; end = s.end }) o) (filter_map (mention_at path) ss))
        ≡ cons_option (option_map (λ (v : ℕ). record { variable = v; part = s.part }) o) (keys ss)
    go None h = h
    go (Some v) h = ap (λ ks. record { variable = v; part = s.part } ∷ ks) h

keys_first : (ss : List (Spot ℕ)) → keys (first_as_end ss) ≡ keys ss
keys_first [] = refl
keys_first (s ∷ ss) = refl

keys_last : (ss : List (Spot ℕ)) → keys (last_as_end ss) ≡ keys ss
keys_last [] = refl
keys_last (s ∷ []) = refl
keys_last (s ∷ t ∷ ss) = ap (λ ks. cons_option (spot_key s) ks) (keys_last (t ∷ ss))

all_keys : (os : List (Outline ℕ)) → map key_of (mentions_in 0 os) ≡ keys (spots_from 0 os)
all_keys os = keys_of 0 (spots os) ∙ keys_last (first_as_end (spots_from 0 os)) ∙ keys_first (spots_from 0 os)

-- THE KEYS OF A PART

module _ {X : Type 0} where
  turn_left : (ns es : List X) (x : X) → Contains ns x → Contains (in_turn ns es) x
  turn_left [] es x c = absurd (in_nil x c)
  turn_left (n ∷ ns) [] x c = c
  turn_left (n ∷ ns) (e ∷ es) x c = elim (in_cons n ns x c) [ inl s ↦ in_here n (e ∷ in_turn ns es) x s | inr r ↦ in_there n (e ∷ in_turn ns es) x (in_there e (in_turn ns es) x (turn_left ns es x r)) ]

  turn_right : (ns es : List X) (x : X) → Contains es x → Contains (in_turn ns es) x
  turn_right [] es x c = c
  turn_right (n ∷ ns) [] x c = absurd (in_nil x c)
  turn_right (n ∷ ns) (e ∷ es) x c = elim (in_cons e es x c) [
    | inl s ↦ in_there n (e ∷ in_turn ns es) x (in_here e (in_turn ns es) x s)
    | inr r ↦ in_there n (e ∷ in_turn ns es) x (in_there e (in_turn ns es) x (turn_right ns es x r))
  ]

-- a node or an edge of the outline has the variable
abbrev Outlined : Outline ℕ → ℕ → Type 0
Outlined o x = Contains o.nodes (Some x) ⊎ Contains o.edges (Some x)

outlined_key : (number : ℕ) (o : Outline ℕ) (x : ℕ) → Outlined o x → Contains (keys (spots_in number o)) (record { variable = x; part = part_if (is_some o.quant) number })
outlined_key number o x (inl c) =
    let p = part_if (is_some o.quant) number in
    in_filter_map spot_key (spots_in number o) (spot false p (Some x)) (record { variable = x; part = p })
    (turn_left (map (spot false p) o.nodes) (map (spot true p) o.edges) (spot false p (Some x)) (in_map (spot false p) o.nodes (Some x) c)) refl
outlined_key number o x (inr c) =
    let p = part_if (is_some o.quant) number in
    in_filter_map spot_key (spots_in number o) (spot true p (Some x)) (record { variable = x; part = p })
    (turn_right (map (spot false p) o.nodes) (map (spot true p) o.edges) (spot true p (Some x)) (in_map (spot true p) o.edges (Some x) c)) refl

listed_is : (o : Option ℕ) (x : ℕ) → Contains (listed o) x → o ≡ Some x
listed_is None x c = absurd (in_nil x c)
listed_is (Some y) x c = elim (in_cons y [] x c) [ inl e ↦ ap Some e | inr r ↦ absurd (in_nil x r) ]

legs_outlined : (arrows : List Arrow) (edges nodes : List CFiller) (x : ℕ) → Contains (leg_vars (legs_of arrows edges nodes)) x
    → Contains (map (λ f. f.var) nodes) (Some x) ⊎ Contains (map (λ f. f.var) edges) (Some x)
legs_outlined [] edges nodes x c = absurd (in_nil x c)
legs_outlined (arrow ∷ arrows) [] nodes x c = absurd (in_nil x c)
legs_outlined (arrow ∷ arrows) (edge ∷ edges) [] x c = absurd (in_nil x c)
legs_outlined (arrow ∷ arrows) (edge ∷ edges) (node ∷ nodes) x c = elim (in_append (listed edge.var) (listed node.var ++ leg_vars (legs_of arrows edges nodes)) x c) [
  | inl a ↦ inr (in_here edge.var (map (λ (f : CFiller). f.var) edges) (Some x) (listed_is edge.var x a))
  | inr b ↦ elim (in_append (listed node.var) (leg_vars (legs_of arrows edges nodes)) x b) [
    | inl d ↦ inl (in_here node.var (map (λ (f : CFiller). f.var) nodes) (Some x) (listed_is node.var x d))
    | inr d ↦ elim (legs_outlined arrows edges nodes x d) [
      | inl e ↦ inl (in_there node.var (map (λ (f : CFiller). f.var) nodes) (Some x) e)
      | inr e ↦ inr (in_there edge.var (map (λ (f : CFiller). f.var) edges) (Some x) e)
    ]
  ]
]

group_outlined : (nodes : List CFiller) (arrows : List Arrow) (edges : List CFiller) (condition : Option CExpr) (x : ℕ) → Contains (round_vars (group_of nodes arrows edges condition)) x
    → Contains (map (λ f. f.var) nodes) (Some x) ⊎ Contains (map (λ f. f.var) edges) (Some x)
group_outlined [] arrows edges condition x c = absurd (in_nil x c)
group_outlined (node ∷ nodes) arrows edges condition x c = elim (in_append (listed node.var) (leg_vars (legs_of arrows edges nodes)) x c) [
  | inl a ↦ inl (in_here node.var (map (λ (f : CFiller). f.var) nodes) (Some x) (listed_is node.var x a))
  | inr b ↦ elim (legs_outlined arrows edges nodes x b) [ inl e ↦ inl (in_there node.var (map (λ (f : CFiller). f.var) nodes) (Some x) e) | inr e ↦ inr e ]
]

-- what the round of a part names stands in its outline
part_outlined : (part : CPart) (x : ℕ) → Contains (round_vars (round_of part)) x → Outlined (outline_of part) x
part_outlined (Node f) x c = elim (in_append (listed f.var) [] x c) [ inl a ↦ inl (in_here f.var [] (Some x) (listed_is f.var x a)) | inr b ↦ absurd (in_nil x b) ]
part_outlined (Edge arrow f quant) x c = elim (in_append (listed f.var) [] x c) [ inl a ↦ inr (in_here f.var [] (Some x) (listed_is f.var x a)) | inr b ↦ absurd (in_nil x b) ]
part_outlined (Group nodes arrows edges condition quant) x c = group_outlined nodes arrows edges condition x c

part_key : (number : ℕ) (part : CPart) (x : ℕ) → Contains (round_vars (round_of part)) x
    → Contains (keys (spots_in number (outline_of part))) (record { variable = x; part = part_if (is_some (quant_of part)) number })
part_key number part x c =
    subst (λ (q : Option Quant). Contains (keys (spots_in number (outline_of part))) (record { variable = x; part = part_if (is_some q) number })) (same_quant part)
    (outlined_key number (outline_of part) x (part_outlined part x c))

-- THE KEYS OF ALL PARTS

abbrev keys_from : ℕ → List CPart → List Key
keys_from number parts = keys (spots_from number (map outline_of parts))

cut_keys : (number : ℕ) (part : CPart) (parts : List CPart) → keys_from number (part ∷ parts) ≡ keys (spots_in number (outline_of part)) ++ keys_from (number + 1) parts
cut_keys number part parts = filter_map-append spot_key (spots_in number (outline_of part)) (spots_from (number + 1) (map outline_of parts))

-- each variable of a part is mentioned
any_key : (number : ℕ) (parts : List CPart) (part : CPart) (x : ℕ) → Contains parts part → Contains (round_vars (round_of part)) x → (p : Option ℕ) × Contains (keys_from number parts) (record { variable = x; part = p })
any_key number [] part x c d = absurd (in_nil part c)
any_key number (q ∷ parts) part x c d = elim (in_cons q parts part c) [
  | inl e ↦ (
    part_if (is_some (quant_of q)) number,
    subst (λ ks. Contains ks (record { variable = x; part = part_if (is_some (quant_of q)) number })) (sym (cut_keys number q parts))
        (in_left (keys (spots_in number (outline_of q))) (keys_from (number + 1) parts) _ (part_key number q x (subst (λ (z : CPart). Contains (round_vars (round_of z)) x) (sym e) d))),
  )
  | inr r ↦ (let m = any_key (number + 1) parts part x r d in
      (m.0, subst (λ ks. Contains ks (record { variable = x; part = m.0 })) (sym (cut_keys number q parts)) (in_right (keys (spots_in number (outline_of q))) (keys_from (number + 1) parts) _ m.1)))
]

-- each variable of a quantified part is mentioned in a part of its own number
record IsMarked (number : ℕ) (parts : List CPart) (x : ℕ) : Type 0 where
  part : ℕ
  from : number ≤ part
  there : Contains (keys_from number parts) (record { variable = x; part = Some part })

group_key : (number : ℕ) (parts : List CPart) (x : ℕ) → IsGroupVar parts x → IsMarked number parts x
group_key number [] x c = absurd c
group_key number (q ∷ parts) x (inl a) = record {
  part = number;
  from = omega arith;
  there = subst (λ ks. Contains ks (record { variable = x; part = Some number })) (sym (cut_keys number q parts))
      (in_left (keys (spots_in number (outline_of q))) (keys_from (number + 1) parts) _ (subst (λ b. Contains (keys (spots_in number (outline_of q))) (record { variable = x; part = part_if b number })) a.0 (part_key number q x a.1)));
}
group_key number (q ∷ parts) x (inr b) =
    let m = group_key (number + 1) parts x b in record {
      part = m.part;
      from = (let l = m.from in omega arith);
      there = subst (λ ks. Contains ks (record { variable = x; part = Some m.part })) (sym (cut_keys number q parts)) (in_right (keys (spots_in number (outline_of q))) (keys_from (number + 1) parts) _ m.there);
    }

-- MENTIONS THAT CLASH

-- one variable in two parts, one of which is quantified
abbrev leaves : Key → Key → Bool
leaves k l = (k.variable == l.variable) && ((is_some k.part || is_some l.part) && not (same_part k.part l.part))

weaker : (a s p c q r : Bool) → a && (s || ((p && not (c && q)) || r)) ≡ false → a && (p && not q) ≡ false
weaker false s p c q r h = refl
weaker true s false c q r h = refl
weaker true s true c true r h = refl
weaker true true true c false r h = h
weaker true false true true false r h = h
weaker true false true false false r h = h

no_leaves : (strict : ℕ → Bool) (m n : Mention ℕ) → clash same_number strict m n ≡ false → leaves (key_of m) (key_of n) ≡ false
no_leaves strict m n h = weaker (m.variable == n.variable) _ (is_some m.part || is_some n.part) (m.path == n.path) (same_part m.part n.part) _ h

each_leaves : (strict : ℕ → Bool) (m : Mention ℕ) (ms : List (Mention ℕ)) → Each (λ n. clash same_number strict m n ≡ false) ms → Each (λ k. leaves (key_of m) k ≡ false) (map key_of ms)
each_leaves strict m [] h = tt
each_leaves strict m (n ∷ ms) h = (no_leaves strict m n h.0, each_leaves strict m ms h.1)

none_leave : (strict : ℕ → Bool) (ms : List (Mention ℕ)) → NoPair (clash same_number strict) ms → NoPair leaves (map key_of ms)
none_leave strict [] h = tt
none_leave strict (m ∷ ms) h = (each_leaves strict m ms h.0, none_leave strict ms h.1)

each_in : (P : Key → Type 0) (ks : List Key) (k : Key) → Each P ks → Contains ks k → P k
each_in P [] k h c = absurd (in_nil k c)
each_in P (l ∷ ks) k h c = elim (in_cons l ks k c) [ inl e ↦ subst P e h.0 | inr r ↦ each_in P ks k h.1 r ]

across : (ks ls : List Key) (k l : Key) → NoPair leaves (ks ++ ls) → Contains ks k → Contains ls l → leaves k l ≡ false
across [] ls k l h c d = absurd (in_nil k c)
across (j ∷ ks) ls k l h c d = elim (in_cons j ks k c) [
  | inl e ↦ subst (λ z. leaves z l ≡ false) e (each_in (λ z. leaves j z ≡ false) (ks ++ ls) l h.0 (in_right ks ls l d))
  | inr r ↦ across ks ls k l h.1 r d
]

behind : (ks ls : List Key) → NoPair leaves (ks ++ ls) → NoPair leaves ls
behind [] ls h = h
behind (k ∷ ks) ls h = behind ks ls h.1

two_parts : (x i j : ℕ) → i < j → leaves (record { variable = x; part = Some i }) (record { variable = x; part = Some j }) ≡ true
two_parts x i j l = go (x == x) (i == j) (eq-eqb x x refl) refl
  where
    go : (a b : Bool) → a ≡ true → (i == j) ≡ b → a && (true && not b) ≡ true
    go true true e f = absurd (let k = eqb-true i j f in omega arith)
    go true false e f = refl
    go false b e f = absurd (cc)

true_false : true ≡ false → ⊥
true_false h = cc

are_apart : (number : ℕ) (parts : List CPart) → NoPair leaves (keys_from number parts) → AreApart parts
are_apart number [] h = tt
are_apart number (part ∷ parts) h =
    let cut = subst (NoPair leaves) (cut_keys number part parts) h in (
      λ x is c d.
          let m = group_key (number + 1) parts x d in
          let own = subst (λ b. Contains (keys (spots_in number (outline_of part))) (record { variable = x; part = part_if b number })) is (part_key number part x c) in
          true_false (sym (two_parts x number m.part (let l = m.from in omega arith)) ∙ across (keys (spots_in number (outline_of part))) (keys_from (number + 1) parts) _ _ cut own m.there),
      are_apart (number + 1) parts (behind (keys (spots_in number (outline_of part))) (keys_from (number + 1) parts) cut),
    )

-- VARIABLES IN ORDER OF FIRST MENTION

record IsFirst (ms : List (Mention ℕ)) (x : ℕ) : Type 0 where
  mention : Mention ℕ
  there : Contains (first_mentions same_number ms) mention
  is : mention.variable ≡ x

first_of_variable : (ms : List (Mention ℕ)) (m : Mention ℕ) → Contains ms m → IsFirst ms m.variable
first_of_variable [] m c = absurd (in_nil m c)
first_of_variable (n ∷ ms) m c = go (n.variable == m.variable) refl (in_cons n ms m c) (λ d. first_of_variable ms m d)
  where
    differs : (k : Mention ℕ) → k.variable ≡ m.variable → (n.variable == m.variable) ≡ false → not (n.variable == k.variable) ≡ true
    differs k same out = ap (λ y. not (n.variable == y)) same ∙ ap not out

    go : (b : Bool) → (n.variable == m.variable) ≡ b → (n ≡ m) ⊎ Contains ms m → (Contains ms m → IsFirst ms m.variable) → IsFirst (n ∷ ms) m.variable
    go true e d again = record { mention = n; there = in_here n (filter (λ (k : Mention ℕ). not (n.variable == k.variable)) (first_mentions same_number ms)) n refl; is = eqb-true n.variable m.variable e }
    go false e (inl d) again = absurd (true_false (sym (eq-eqb n.variable m.variable (ap (λ (z : Mention ℕ). z.variable) d)) ∙ e))
    go false e (inr d) again =
        let h = again d in record {
          mention = h.mention;
          there = in_there n (filter (λ (k : Mention ℕ). not (n.variable == k.variable)) (first_mentions same_number ms)) h.mention
              (kept (λ (k : Mention ℕ). not (n.variable == k.variable)) (first_mentions same_number ms) h.mention h.there (differs h.mention h.is e));
          is = h.is;
        }

mentioned : (ms : List (Mention ℕ)) (x : ℕ) (p : Option ℕ) → Contains (map key_of ms) (record { variable = x; part = p }) → Contains (variables_of ms) x
mentioned ms x p c =
    let m = from_map key_of ms (record { variable = x; part = p }) c in
    let f = first_of_variable ms m.0 m.1 in
    subst (λ y. Contains (variables_of ms) y) (f.is ∙ ap (λ (k : Key). k.variable) m.2) (in_map (λ (n : Mention ℕ). n.variable) (first_mentions same_number ms) f.mention f.there)

-- SOUND PATH PATTERNS

pub sound_are_known : (shapes : Shapes) (path : CheckedPath) → IsSoundPath shapes path → AreKnown path
sound_are_known shapes path sound = record {
  known = λ part x c d.
      let k = any_key 0 path.parts part x c d in
      subst (λ xs. Contains xs x) (sym sound.variables)
      (mentioned (mentions_in 0 (outlines path)) x k.0 (subst (λ ks. Contains ks (record { variable = x; part = k.0 })) (sym (all_keys (outlines path))) k.1));
  apart = are_apart 0 path.parts (subst (NoPair leaves) (all_keys (outlines path)) (none_leave (λ q. walks_on path.mode (outlines path)) (mentions_in 0 (outlines path)) sound.apart));
}
