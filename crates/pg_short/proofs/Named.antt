-- What a round names are variables of its stage; and what is needed of what a walk has named is enough to tell whether a round agrees.
use Rattle.std.proofs.Common.{◌≡◌, ◌==◌, ℕ, ◌+◌, Bool, true, false, not, cond, ◌&&◌, List, [], ◌∷◌, ◌++◌, Contains, inl, inr, ap, sym, subst, eq-eqb}
use Rattle.std.specs.Prelude.{Option, Some, None, slice_get}
use Rattle.std.specs.List.{list_any}
use Rattle.pg_value.specs.declared.shape.ElemId.{ElemId}
use Rattle.pg_meaning.specs.declared.checked.CFiller.{CFiller}
use Rattle.pg_meaning.specs.Walks.{Hop}
use Rattle.pg_meaning.specs.Rounds.{Leg, Round}
use Rattle.pg_meaning.specs.Fits.{Mention, Agree, mention, node_mention, seen_on_legs, seen_in}
use Rattle.pg_meaning.specs.Members.{in_nil, in_one, in_left, in_right, in_append, in_filter}
use Rattle.pg_auto.specs.Stages.{Stage, is_of, is_of_node, is_of_leg, mentions}
use Rattle.pg_auto.specs.States.{singles_in}
use Rattle.pg_short.specs.Spots.{names, is_needed, needed}
use Rattle.pg_short.proofs.Lists.{or_left, or_right, kept, drop_here}

in_mention : (f : CFiller) (e : ElemId) (m : Mention) → Contains (mention f e) m → is_of m.var f ≡ true
in_mention f e m c = go f.var c
  where
    go : (o : Option ℕ) → Contains (elim o as (λ _. List Mention) [ None ↦ [] | Some x ↦ record { var = x; elem = e } ∷ [] ]) m → elim o as (λ _. Bool) [ None ↦ false | Some y ↦ y == m.var ] ≡ true
    go None c = absurd (in_nil m c)
    go (Some x) c = eq-eqb x m.var (ap (λ (z : Mention). z.var) (in_one (record { var = x; elem = e }) m c))

in_node : (node : Option CFiller) (e : ElemId) (m : Mention) → Contains (node_mention node e) m → is_of_node m.var node ≡ true
in_node None e m c = absurd (in_nil m c)
in_node (Some f) e m c = in_mention f e m c

pub on_legs : (legs : List Leg) (hops : List Hop) (m : Mention) → Contains (seen_on_legs legs hops) m → list_any (is_of_leg m.var) legs ≡ true
on_legs [] hops m c = absurd (in_nil m c)
on_legs (leg ∷ legs) [] m c = absurd (in_nil m c)
on_legs (leg ∷ legs) (hop ∷ hops) m c = elim (in_append (mention leg.edge hop.edge) (node_mention leg.node hop.to ++ seen_on_legs legs hops) m c) [
  | inl a ↦ or_left (is_of_leg m.var leg) _ (or_left (is_of m.var leg.edge) _ (in_mention leg.edge hop.edge m a))
  | inr b ↦ elim (in_append (node_mention leg.node hop.to) (seen_on_legs legs hops) m b) [
    | inl d ↦ or_left (is_of_leg m.var leg) _ (or_right (is_of m.var leg.edge) _ (in_node leg.node hop.to m d))
    | inr d ↦ or_right (is_of_leg m.var leg) _ (on_legs legs hops m d)
  ]
]

named_in : (round : Round) (v : ElemId) (hops : List Hop) (m : Mention) → Contains (seen_in round v hops) m → mentions m.var round ≡ true
named_in round v hops m c = elim (in_append (node_mention round.node v) (seen_on_legs round.legs hops) m c) [
  | inl a ↦ or_left (is_of_node m.var round.node) _ (in_node round.node v m a)
  | inr b ↦ or_right (is_of_node m.var round.node) _ (on_legs round.legs hops m b)
]

pub named_here : (stage : Stage) (v : ElemId) (hops : List Hop) (m : Mention) → Contains (singles_in stage v hops) m → names m.var stage ≡ true
named_here stage v hops m c = go stage.grouped c
  where
    go : (g : Bool) → Contains (cond g [] (seen_in stage.round v hops)) m → (not g && mentions m.var stage.round) ≡ true
    go true c = absurd (in_nil m c)
    go false c = named_in stage.round v hops m c

module _ (stages : List Stage) (k : ℕ) (stage : Stage) (here : slice_get stages k ≡ Some stage) where
  needed_here : (x : ℕ) → names x stage ≡ true → is_needed stages k x ≡ true
  needed_here x h = subst (λ (ss : List Stage). list_any (names x) ss ≡ true) (sym (drop_here stages k stage here)) (or_left (names x stage) _ h)

  pub needed_before : (x : ℕ) → is_needed stages (k + 1) x ≡ true → is_needed stages k x ≡ true
  needed_before x h = subst (λ (ss : List Stage). list_any (names x) ss ≡ true) (sym (drop_here stages k stage here)) (or_right (names x stage) _ h)

  pub singles_needed : (v : ElemId) (hops : List Hop) (m : Mention) → Contains (singles_in stage v hops) m → is_needed stages k m.var ≡ true
  singles_needed v hops m c = needed_here m.var (named_here stage v hops m c)

-- where the same is needed of two lists, what agrees with one agrees with the other
pub agree_alike : (stages : List Stage) (k : ℕ) (s r more : List Mention) → needed stages k s ≡ needed stages k r → ((m : Mention) → Contains more m → is_needed stages k m.var ≡ true)
    → Agree r → Agree (s ++ more) → Agree (r ++ more)
agree_alike stages k s r more same here own both m n c d e = elim (in_append r more m c) [
  | inl a ↦ elim (in_append r more n d) [
    | inl b ↦ own m n a b e
    | inr b ↦ both m n (in_left s more m (moved m a (subst (λ x. is_needed stages k x ≡ true) (sym e) (here n b)))) (in_right s more n b) e
  ]
  | inr a ↦ elim (in_append r more n d) [
    | inl b ↦ both m n (in_right s more m a) (in_left s more n (moved n b (subst (λ x. is_needed stages k x ≡ true) e (here m a)))) e
    | inr b ↦ both m n (in_right s more m a) (in_right s more n b) e
  ]
]
  where
    moved : (z : Mention) → Contains r z → is_needed stages k z.var ≡ true → Contains s z
    moved z a t = (in_filter (λ (y : Mention). is_needed stages k y.var) s z (subst (λ xs. Contains xs z) (sym same) (kept (λ (y : Mention). is_needed stages k y.var) r z a t))).0
