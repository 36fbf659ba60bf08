-- What the parts of a pattern name over two walks is the same where each variable's elements are.
use Rattle.std.proofs.Common.{◌≡◌, ◌==◌, ℕ, Bool, true, false, not, cond, List, [], ◌∷◌, ◌++◌, map, Contains, inl, inr, refl, ap, sym, ◌∙◌, subst}
use Rattle.std.specs.Prelude.{Option, Some, None, filter}
use Rattle.pg_value.specs.declared.shape.ElemId.{ElemId}
use Rattle.pg_meaning.specs.declared.checked.CFiller.{CFiller}
use Rattle.pg_meaning.specs.Walks.{Graph, Hop, last_vertex}
use Rattle.pg_meaning.specs.Rounds.{Leg, Round}
use Rattle.pg_meaning.specs.Fits.{Mention, LegsFit, RoundFits, RoundsFit, elements, firsts, mention, node_mention, seen_on_legs, seen_in, seen_in_rounds}
use Rattle.pg_meaning.specs.Members.{in_nil, in_here, in_append, in_map, from_map}
use Rattle.pg_auto.proofs.Once.Elements.{elements_append, begins_with, firsts_in, firsts_agree, firsts_begin, same_mentions, same_rest}

-- THE VARIABLES OF A ROUND

abbrev pub listed : Option ℕ → List ℕ
listed None = []
listed (Some x) = x ∷ []

abbrev pub node_vars : Option CFiller → List ℕ
node_vars None = []
node_vars (Some f) = listed f.var

abbrev pub leg_vars : List Leg → List ℕ
leg_vars [] = []
leg_vars (leg ∷ legs) = listed leg.edge.var ++ (node_vars leg.node ++ leg_vars legs)

abbrev pub round_vars : Round → List ℕ
round_vars round = node_vars round.node ++ leg_vars round.legs

map_append : {X Y : Type 0} (f : X → Y) (xs ys : List X) → map f (xs ++ ys) ≡ map f xs ++ map f ys
map_append f [] ys = refl
map_append f (x ∷ xs) ys = ap (λ zs. f x ∷ zs) (map_append f xs ys)

mention_vars : (f : CFiller) (e : ElemId) → map (λ m. m.var) (mention f e) ≡ listed f.var
mention_vars f e = go f.var
  where
    go : (o : Option ℕ) → map (λ (m : Mention). m.var) (elim o as (λ _. List Mention) [ None ↦ [] | Some x ↦ record { var = x; elem = e } ∷ [] ]) ≡ listed o
    go None = refl
    go (Some x) = refl

node_mention_vars : (node : Option CFiller) (e : ElemId) → map (λ m. m.var) (node_mention node e) ≡ node_vars node
node_mention_vars None e = refl
node_mention_vars (Some f) e = mention_vars f e

legs_name : (g : Graph) (legs : List Leg) (v : ElemId) (hops : List Hop) → LegsFit g legs v hops → map (λ m. m.var) (seen_on_legs legs hops) ≡ leg_vars legs
legs_name g [] v [] f = refl
legs_name g [] v (hop ∷ hops) f = absurd f
legs_name g (leg ∷ legs) v [] f = absurd f
legs_name g (leg ∷ legs) v (hop ∷ hops) f =
    map_append (λ (m : Mention). m.var) (mention leg.edge hop.edge) (node_mention leg.node hop.to ++ seen_on_legs legs hops)
    ∙ ap (λ xs. map (λ (m : Mention). m.var) (mention leg.edge hop.edge) ++ xs) (map_append (λ (m : Mention). m.var) (node_mention leg.node hop.to) (seen_on_legs legs hops))
    ∙ (λ i. mention_vars leg.edge hop.edge i ++ (node_mention_vars leg.node hop.to i ++ legs_name g legs hop.to hops f.3 i))

-- a round that fits names its variables, in order
pub round_names : (g : Graph) (round : Round) (v : ElemId) (hops : List Hop) → RoundFits g round v hops → map (λ m. m.var) (seen_in round v hops) ≡ round_vars round
round_names g round v hops f =
    map_append (λ (m : Mention). m.var) (node_mention round.node v) (seen_on_legs round.legs hops)
    ∙ (λ i. node_mention_vars round.node v i ++ legs_name g round.legs v hops f.1 i)

-- and each of them once
abbrev each_once : List ℕ → List ℕ
each_once [] = []
each_once (x ∷ xs) = x ∷ filter (λ y. not (y == x)) (each_once xs)

filter_vars : (x : ℕ) (ms : List Mention) → map (λ m. m.var) (filter (λ m. not (m.var == x)) ms) ≡ filter (λ y. not (y == x)) (map (λ m. m.var) ms)
filter_vars x [] = refl
filter_vars x (m ∷ ms) = go (m.var == x) (filter_vars x ms)
  where
    go : (b : Bool) → map (λ (k : Mention). k.var) (filter (λ (k : Mention). not (k.var == x)) ms) ≡ filter (λ y. not (y == x)) (map (λ (k : Mention). k.var) ms)
        → map (λ (k : Mention). k.var) (cond (not b) (m ∷ filter (λ (k : Mention). not (k.var == x)) ms) (filter (λ (k : Mention). not (k.var == x)) ms))
        ≡ cond (not b) (m.var ∷ filter (λ y. not (y == x)) (map (λ (k : Mention). k.var) ms)) (filter (λ y. not (y == x)) (map (λ (k : Mention). k.var) ms))
    go true h = h
    go false h = ap (λ zs. m.var ∷ zs) h

firsts_vars : (ms : List Mention) → map (λ m. m.var) (firsts ms) ≡ each_once (map (λ m. m.var) ms)
firsts_vars [] = refl
firsts_vars (m ∷ ms) = ap (λ xs. m.var ∷ xs) (filter_vars m.var (firsts ms) ∙ ap (λ xs. filter (λ y. not (y == m.var)) xs) (firsts_vars ms))

-- TWO ROUNDS

module _ (g : Graph) (round : Round) where
  firsts_alike : (v u : ElemId) (a b : List Hop) → RoundFits g round v a → RoundFits g round u b → map (λ m. m.var) (firsts (seen_in round v a)) ≡ map (λ m. m.var) (firsts (seen_in round u b))
  firsts_alike v u a b f h =
      firsts_vars (seen_in round v a) ∙ ap each_once (round_names g round v a f ∙ sym (round_names g round u b h)) ∙ sym (firsts_vars (seen_in round u b))

  -- a variable of the round has a mention in each round
  named : (v : ElemId) (hops : List Hop) (x : ℕ) → RoundFits g round v hops → Contains (round_vars round) x → (m : Mention) × Contains (seen_in round v hops) m × (m.var ≡ x)
  named v hops x f c = from_map (λ (m : Mention). m.var) (seen_in round v hops) x (subst (λ xs. Contains xs x) (sym (round_names g round v hops f)) c)

  names_only : (v : ElemId) (hops : List Hop) (m : Mention) → RoundFits g round v hops → Contains (seen_in round v hops) m → Contains (round_vars round) m.var
  names_only v hops m f c = subst (λ xs. Contains xs m.var) (round_names g round v hops f) (in_map (λ (k : Mention). k.var) (seen_in round v hops) m c)

  begin : (v : ElemId) (hops : List Hop) (x : ℕ) (rest : List Mention) → RoundFits g round v hops → Contains (round_vars round) x → elements (firsts (seen_in round v hops) ++ rest) x ≡ [] → ⊥
  begin v hops x rest f c h =
      let m = named v hops x f c in
      let b = firsts_begin (seen_in round v hops) m.0 f.2 m.1 in
      nothing (b.rest ++ elements rest m.0.var) m.0.elem
      (sym (ap (λ es. es ++ elements rest m.0.var) b.begins) ∙ sym (elements_append (firsts (seen_in round v hops)) rest m.0.var) ∙ ap (elements (firsts (seen_in round v hops) ++ rest)) m.2 ∙ h)
    where
      nothing : (es : List ElemId) (e : ElemId) → e ∷ es ≡ [] → ⊥
      nothing es e k = cc

  head_is : (a b : ElemId) (rs ts : List ElemId) → a ∷ rs ≡ b ∷ ts → a ≡ b
  head_is a b rs ts h = cc

  -- rounds that begin with the same elements name the same
  round_alike : (v u : ElemId) (a b : List Hop) (p q : List Mention) → RoundFits g round v a → RoundFits g round u b
      → ((x : ℕ) → Contains (round_vars round) x → elements (firsts (seen_in round v a) ++ p) x ≡ elements (firsts (seen_in round u b) ++ q) x) → firsts (seen_in round v a) ≡ firsts (seen_in round u b)
  round_alike v u a b p q f h same = same_mentions (firsts (seen_in round v a)) (firsts (seen_in round u b)) (firsts_alike v u a b f h) (λ m n c d e.
      let j = begins_with (firsts (seen_in round v a)) m (firsts_agree (seen_in round v a) f.2) c in
      let k = begins_with (firsts (seen_in round u b)) n (firsts_agree (seen_in round u b) h.2) d in
      let one = same m.var (names_only v a m f (firsts_in (seen_in round v a) m c)) in
      head_is m.elem n.elem (j.rest ++ elements p m.var) (k.rest ++ elements q m.var)
      (sym (ap (λ es. es ++ elements p m.var) j.begins) ∙ sym (elements_append (firsts (seen_in round v a)) p m.var) ∙ one
      ∙ elements_append (firsts (seen_in round u b)) q m.var ∙ ap (λ es. es ++ elements q m.var) (ap (elements (firsts (seen_in round u b))) e ∙ k.begins)))

  -- so do all rounds of a part that names a variable
  rounds_alike : (x : ℕ) → Contains (round_vars round) x → (v u : ElemId) (rs ts : List (List Hop)) → RoundsFit g round v rs → RoundsFit g round u ts
      → ((y : ℕ) → Contains (round_vars round) y → elements (seen_in_rounds round v rs) y ≡ elements (seen_in_rounds round u ts) y) → seen_in_rounds round v rs ≡ seen_in_rounds round u ts
  rounds_alike x c v u [] [] f h same = refl
  rounds_alike x c v u [] (b ∷ ts) f h same = absurd (begin u b x (seen_in_rounds round (last_vertex u b) ts) h.0 c (sym (same x c)))
  rounds_alike x c v u (a ∷ rs) [] f h same = absurd (begin v a x (seen_in_rounds round (last_vertex v a) rs) f.0 c (same x c))
  rounds_alike x c v u (a ∷ rs) (b ∷ ts) f h same =
      let p = seen_in_rounds round (last_vertex v a) rs in
      let q = seen_in_rounds round (last_vertex u b) ts in
      let one = round_alike v u a b p q f.0 h.0 same in
      let rest = rounds_alike x c (last_vertex v a) (last_vertex u b) rs ts f.1 h.1 (λ y d. same_rest (elements (firsts (seen_in round v a)) y) (elements (firsts (seen_in round u b)) y) (elements p y) (elements q y) (ap (λ ms. elements ms y) one)
      (sym (elements_append (firsts (seen_in round v a)) p y) ∙ same y d ∙ elements_append (firsts (seen_in round u b)) q y)) in
      λ i. one i ++ rest i

  -- a part that names none names nothing
  unnamed : (v : ElemId) (rs : List (List Hop)) → round_vars round ≡ [] → RoundsFit g round v rs → seen_in_rounds round v rs ≡ []
  unnamed v [] e f = refl
  unnamed v (a ∷ rs) e f =
      let none : firsts (seen_in round v a) ≡ [] = same_mentions (firsts (seen_in round v a)) [] (firsts_vars (seen_in round v a) ∙ ap each_once (round_names g round v a f.0 ∙ e)) (λ m n c d k. absurd (in_nil n d)) in
      let rest = unnamed (last_vertex v a) rs e f.1 in
      λ i. none i ++ rest i

  pub any_rounds_alike : (v u : ElemId) (rs ts : List (List Hop)) → RoundsFit g round v rs → RoundsFit g round u ts
      → ((y : ℕ) → Contains (round_vars round) y → elements (seen_in_rounds round v rs) y ≡ elements (seen_in_rounds round u ts) y) → seen_in_rounds round v rs ≡ seen_in_rounds round u ts
  any_rounds_alike v u rs ts f h same = go (round_vars round) refl
    where
      go : (xs : List ℕ) → round_vars round ≡ xs → seen_in_rounds round v rs ≡ seen_in_rounds round u ts
      go [] e = unnamed v rs e f ∙ sym (unnamed u ts e h)
      go (x ∷ xs) e = rounds_alike x (subst (λ ys. Contains ys x) (sym e) (in_here x xs x refl)) v u rs ts f h same

  -- each mention of the rounds is of a variable of the round
  pub rounds_name_only : (v : ElemId) (rs : List (List Hop)) (m : Mention) → RoundsFit g round v rs → Contains (seen_in_rounds round v rs) m → Contains (round_vars round) m.var
  rounds_name_only v [] m f c = absurd (in_nil m c)
  rounds_name_only v (a ∷ rs) m f c = elim (in_append (firsts (seen_in round v a)) (seen_in_rounds round (last_vertex v a) rs) m c) [
    | inl d ↦ names_only v a m f.0 (firsts_in (seen_in round v a) m d)
    | inr d ↦ rounds_name_only (last_vertex v a) rs m f.1 d
  ]
