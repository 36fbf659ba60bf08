-- The variables of some mentions and their numbers: each mention's variable has a number, and two have one number where they have one name.
use Rattle.std.proofs.Common.{◌≡◌, ◌+◌, ◌==◌, ◌||◌, ℕ, zero, suc, Bool, true, false, cond, not, refl, ap, sym, ◌∙◌, subst, arith, zero-add, eq-eqb, List, [], ◌∷◌, map, length, Option, Some}
use Rattle.std.proofs.lemmas.Bool.{eqb-true}
use Rattle.std.proofs.lemmas.Iterator.Adapters.{position_from-zero}
use Rattle.std.specs.Prelude.{slice_get, position}
use Rattle.std.specs.List.{filter, range_with_len, position_from}
use Rattle.std.specs.Option.{unwrap_or}
use Rattle.std.specs.Str.{bytes_eq}
use Rattle.pg_keyed.specs.Lists.{Each, each_filter, each_map}
use Rattle.pg_ast.specs.declared.expr.Name.{Name}
use Rattle.pg_meaning.specs.Mentions.{Mention, first_mentions}
use Rattle.pg_meaning.specs.Sound.Patterns.{NoPair, same_number}
use Rattle.pg_meaning.specs.Sound.Patterns as checked
use Rattle.pg_rules.specs.Queries.{is_among}
use Rattle.pg_rules.specs.Queries.Collections.{same_name}
use Rattle.pg_rules.specs.Queries.CheckedQueries.{number_of, numbered}
use Rattle.pg_rules.proofs.KeptSound.Lists.{same_bytes, bytes_same, true_false}
use Rattle.pg_rules.proofs.Accepted.Properties.{none_is, some_is}

-- ONE NAME

pub same_text : (a b : Name) → same_name a b ≡ true → a.text ≡ b.text
same_text a b h = same_bytes a.text b.text h

pub text_same : (a b : Name) → a.text ≡ b.text → same_name a b ≡ true
text_same a b h = bytes_same a.text b.text h

pub turned : (a b : Name) → same_name a b ≡ true → same_name b a ≡ true
turned a b h = text_same b a (sym (same_text a b h))

-- NUMBERS

-- a name that is among others, at a place of one of its text
pub record IsPlaced (vs : List Name) (n : Name) (p : ℕ) : Type 0 where
  pub item : Name
  pub stands : slice_get vs p ≡ Some item
  pub same : same_name n item ≡ true

abbrev PlacedFrom : List Name → Name → ℕ → ℕ → Type 0
PlacedFrom vs n from p = (k : ℕ) × (p ≡ from + k) × IsPlaced vs n k

placed_from : (vs : List Name) (n : Name) (from : ℕ) → is_among vs n ≡ true → (p : ℕ) × (position_from (same_name n) from vs ≡ Some p) × PlacedFrom vs n from p
placed_from [] n from h = absurd (cc)
placed_from (v ∷ vs) n from h = go (same_name n v) refl h (placed_from vs n (from + 1))
  where
    go : (b : Bool) → same_name n v ≡ b → (b || is_among vs n) ≡ true → (is_among vs n ≡ true → (p : ℕ) × (position_from (same_name n) (from + 1) vs ≡ Some p) × PlacedFrom vs n (from + 1) p)
        → (p : ℕ) × (cond b (Some from) (position_from (same_name n) (from + 1) vs) ≡ Some p) × PlacedFrom (v ∷ vs) n from p
    go true e k rest = (from, refl, (0, omega arith, record { item = v; stands = refl; same = e }))
    go false e k rest =
        let r = rest k in
        let at = r.2 in
        let next : r.0 ≡ from + suc at.0 = omega (arith, at.1) in
        (r.0, r.1, (suc at.0, next, record { item = at.2.item; stands = at.2.stands; same = at.2.same }))

pub placed : (vs : List Name) (n : Name) → is_among vs n ≡ true → IsPlaced vs n (number_of vs n)
placed vs n h =
    let r = placed_from vs n 0 h in
    let p : position (same_name n) vs ≡ Some r.0 = position_from-zero (same_name n) vs ∙ r.1 in
    let number : number_of vs n ≡ r.0 = ap (λ (o : Option ℕ). unwrap_or o 0) p in
    let same : r.2.0 ≡ number_of vs n = omega (arith, r.2.1, number) in
    subst (λ k. IsPlaced vs n k) same r.2.2

-- names of one text have one number
pub one_number : (vs : List Name) (a b : Name) → same_name a b ≡ true → number_of vs a ≡ number_of vs b
one_number vs a b h = ap (λ (text : List ℕ). unwrap_or (position (λ (m : Name). bytes_eq text m.text) vs) 0) (same_text a b h)

pub one_text : (vs : List Name) (a b : Name) → is_among vs a ≡ true → is_among vs b ≡ true → number_of vs a ≡ number_of vs b → same_name a b ≡ true
one_text vs a b h k e =
    let x : IsPlaced vs a (number_of vs a) = placed vs a h in
    let y : IsPlaced vs b (number_of vs b) = placed vs b k in
    let item : x.item ≡ y.item = some_is x.item y.item (sym x.stands ∙ ap (slice_get vs) e ∙ y.stands) in
    text_same a b (same_text a x.item x.same ∙ ap (λ (n : Name). n.text) item ∙ sym (same_text b y.item y.same))

-- numbers tell names apart
pub decides : (vs : List Name) (a b : Name) → is_among vs a ≡ true → is_among vs b ≡ true → (number_of vs a == number_of vs b) ≡ same_name a b
decides vs a b h k = go (same_name a b) refl (number_of vs a == number_of vs b) refl
  where
    go : (s : Bool) → same_name a b ≡ s → (t : Bool) → (number_of vs a == number_of vs b) ≡ t → t ≡ s
    go true e true f = refl
    go false e false f = refl
    go true e false f = absurd (true_false (sym (eq-eqb (number_of vs a) (number_of vs b) (one_number vs a b e)) ∙ f))
    go false e true f = absurd (true_false (sym (one_text vs a b h k (eqb-true (number_of vs a) (number_of vs b) f)) ∙ e))

-- MENTIONS

abbrev pub variable : Mention Name → Name
variable m = m.variable

abbrev pub Knows : List Name → List (Mention Name) → Type 0
Knows vs ms = Each (λ (m : Mention Name). is_among vs m.variable ≡ true) ms

abbrev firsts : List (Mention Name) → List (Mention Name)
firsts ms = first_mentions same_name ms

abbrev others : Mention Name → List (Mention Name) → List (Mention Name)
others m ms = filter (λ (n : Mention Name). not (same_name m.variable n.variable)) ms

-- an item among some mentions is the same as one that is left out, or is among those that are kept
kept_among : (m : Mention Name) (ms : List (Mention Name)) (n : Name) → is_among (map variable ms) n ≡ true → same_name n m.variable ≡ false → is_among (map variable (others m ms)) n ≡ true
kept_among m [] n h k = absurd (cc)
kept_among m (x ∷ ms) n h k = go (same_name n x.variable) refl (same_name m.variable x.variable) refl h (λ r. kept_among m ms n r k)
  where
    go : (a : Bool) → same_name n x.variable ≡ a → (b : Bool) → same_name m.variable x.variable ≡ b → (a || is_among (map variable ms) n) ≡ true
        → (is_among (map variable ms) n ≡ true → is_among (map variable (others m ms)) n ≡ true) → is_among (map variable (cond (not b) (x ∷ others m ms) (others m ms))) n ≡ true
    go true e true f r rest = absurd (true_false (sym (text_same n m.variable (same_text n x.variable e ∙ sym (same_text m.variable x.variable f))) ∙ k))
    go true e false f r rest = ap (λ b. b || is_among (map variable (others m ms)) n) e
    go false e true f r rest = rest r
    go false e false f r rest = ap (λ b. b || is_among (map variable (others m ms)) n) e ∙ rest r

-- what is known of mentions is known of more
first_among : (m : Mention Name) (ms : List (Mention Name)) (n : Name) → is_among (map variable (firsts ms)) n ≡ true → is_among (map variable (firsts (m ∷ ms))) n ≡ true
first_among m ms n h = go (same_name n m.variable) refl
  where
    go : (b : Bool) → same_name n m.variable ≡ b → (b || is_among (map variable (others m (firsts ms))) n) ≡ true
    go true e = refl
    go false e = kept_among m (firsts ms) n h e

-- each mention's variable is among the variables
pub all_known : (ms : List (Mention Name)) → Knows (map variable (firsts ms)) ms
all_known [] = tt
all_known (m ∷ ms) = (
  ap (λ b. b || is_among (map variable (others m (firsts ms))) m.variable) (text_same m.variable m.variable refl),
  each_map (λ (n : Mention Name). is_among (map variable (firsts ms)) n.variable ≡ true) (λ (n : Mention Name). is_among (map variable (firsts (m ∷ ms))) n.variable ≡ true)
      (λ n h. first_among m ms n.variable h) ms (all_known ms),
)

first_knows : (vs : List Name) (ms : List (Mention Name)) → Knows vs ms → Knows vs (firsts ms)
first_knows vs [] h = tt
first_knows vs (m ∷ ms) h =
    (h.0, each_filter (λ (n : Mention Name). is_among vs n.variable ≡ true) (λ (n : Mention Name). not (same_name m.variable n.variable)) (firsts ms) (first_knows vs ms h.1))

filtered : {X Y : Type 0} (f : X → Y) (test : X → Bool) (other : Y → Bool) (xs : List X) → Each (λ x. other (f x) ≡ test x) xs → filter other (map f xs) ≡ map f (filter test xs)
filtered f test other [] h = refl
filtered f test other (x ∷ xs) h = go (test x) (other (f x)) h.0 (filtered f test other xs h.1)
  where
    go : (a b : Bool) → b ≡ a → filter other (map f xs) ≡ map f (filter test xs) → cond b (f x ∷ filter other (map f xs)) (filter other (map f xs)) ≡ map f (cond a (x ∷ filter test xs) (filter test xs))
    go true true e r = ap (λ ys. f x ∷ ys) r
    go false false e r = r
    go true false e r = absurd (cc)
    go false true e r = absurd (cc)

-- first mentions by number are first mentions by name
first_numbered : (vs : List Name) (ms : List (Mention Name)) → Knows vs ms → first_mentions same_number (map (numbered vs) ms) ≡ map (numbered vs) (firsts ms)
first_numbered vs [] h = refl
first_numbered vs (m ∷ ms) h =
    let test : Mention Name → Bool = λ (n : Mention Name). not (same_name m.variable n.variable) in
    let other : Mention ℕ → Bool = λ (n : Mention ℕ). not (number_of vs m.variable == n.variable) in
    let same : Each (λ (n : Mention Name). other (numbered vs n) ≡ test n) (firsts ms) =
    each_map (λ (n : Mention Name). is_among vs n.variable ≡ true) (λ (n : Mention Name). other (numbered vs n) ≡ test n)
    (λ n k. ap not (decides vs m.variable n.variable h.0 k)) (firsts ms) (first_knows vs ms h.1) in
    ap (λ ns. numbered vs m ∷ filter other ns) (first_numbered vs ms h.1) ∙ ap (λ ns. numbered vs m ∷ ns) (filtered (numbered vs) test other (firsts ms) same)

numbers_of : (vs : List Name) (ms : List (Mention Name)) → map (λ (m : Mention ℕ). m.variable) (map (numbered vs) ms) ≡ map (number_of vs) (map variable ms)
numbers_of vs [] = refl
numbers_of vs (m ∷ ms) = ap (λ ns. number_of vs m.variable ∷ ns) (numbers_of vs ms)

-- the variables of checked mentions are the numbers of the variables
pub variables_numbered : (vs : List Name) (ms : List (Mention Name)) → Knows vs ms → checked.variables_of (map (numbered vs) ms) ≡ map (number_of vs) (map variable (firsts ms))
variables_numbered vs ms h = ap (map (λ (m : Mention ℕ). m.variable)) (first_numbered vs ms h) ∙ numbers_of vs (firsts ms)

-- IN ORDER

filter_apart : (test : Mention Name → Bool) (ms : List (Mention Name)) → NoPair same_name (map variable ms) → NoPair same_name (map variable (filter test ms))
filter_apart test [] h = tt
filter_apart test (m ∷ ms) h = go (test m) (filter_apart test ms h.1)
  where
    unmapped : (ns : List (Mention Name)) → Each (λ (n : Name). same_name m.variable n ≡ false) (map variable ns) → Each (λ (n : Mention Name). same_name m.variable n.variable ≡ false) ns
    unmapped [] k = tt
    unmapped (n ∷ ns) k = (k.0, unmapped ns k.1)

    mapped : (ns : List (Mention Name)) → Each (λ (n : Mention Name). same_name m.variable n.variable ≡ false) ns → Each (λ (n : Name). same_name m.variable n ≡ false) (map variable ns)
    mapped [] k = tt
    mapped (n ∷ ns) k = (k.0, mapped ns k.1)

    go : (b : Bool) → NoPair same_name (map variable (filter test ms)) → NoPair same_name (map variable (cond b (m ∷ filter test ms) (filter test ms)))
    go true r = (mapped (filter test ms) (each_filter (λ (n : Mention Name). same_name m.variable n.variable ≡ false) test ms (unmapped ms h.0)), r)
    go false r = r

others_differ : (m : Mention Name) (ms : List (Mention Name)) → Each (λ (n : Name). same_name m.variable n ≡ false) (map variable (others m ms))
others_differ m [] = tt
others_differ m (n ∷ ms) = go (same_name m.variable n.variable) refl (others_differ m ms)
  where
    go : (b : Bool) → same_name m.variable n.variable ≡ b → Each (λ (k : Name). same_name m.variable k ≡ false) (map variable (others m ms))
        → Each (λ (k : Name). same_name m.variable k ≡ false) (map variable (cond (not b) (n ∷ others m ms) (others m ms)))
    go true e r = r
    go false e r = (e, r)

variables_differ : (ms : List (Mention Name)) → NoPair same_name (map variable (firsts ms))
variables_differ [] = tt
variables_differ (m ∷ ms) = (others_differ m (firsts ms), filter_apart (λ (n : Mention Name). not (same_name m.variable n.variable)) (firsts ms) (variables_differ ms))

got : {X : Type 0} (P : X → Type 0) (xs : List X) (i : ℕ) (x : X) → Each P xs → slice_get xs i ≡ Some x → P x
got P [] i x h e = absurd (none_is x e)
got P (y ∷ xs) zero x h e = subst P (some_is y x e) h.0
got P (y ∷ xs) (suc i) x h e = got P xs i x h.1 e

one_place : (vs : List Name) (i j : ℕ) (a b : Name) → NoPair same_name vs → slice_get vs i ≡ Some a → slice_get vs j ≡ Some b → same_name a b ≡ true → i ≡ j
one_place [] i j a b h e f s = absurd (none_is a e)
one_place (v ∷ vs) zero zero a b h e f s = refl
one_place (v ∷ vs) zero (suc j) a b h e f s =
    absurd (true_false (sym s ∙ ap (λ (n : Name). same_name n b) (sym (some_is v a e)) ∙ got (λ (n : Name). same_name v n ≡ false) vs j b h.0 f))
one_place (v ∷ vs) (suc i) zero a b h e f s =
    absurd (true_false (sym (turned a b s) ∙ ap (λ (n : Name). same_name n a) (sym (some_is v b f)) ∙ got (λ (n : Name). same_name v n ≡ false) vs i a h.0 e))
one_place (v ∷ vs) (suc i) (suc j) a b h e f s = ap suc (one_place vs i j a b h.1 e f s)

in_turn : {X : Type 0} (f : X → ℕ) (n : ℕ) (xs : List X) → ((k : ℕ) (x : X) → slice_get xs k ≡ Some x → f x ≡ n + k) → map f xs ≡ range_with_len n (length xs)
in_turn f n [] h = refl
in_turn f n (x ∷ xs) h =
    let first : f x ≡ n = omega (arith, h 0 x refl) in
    (λ i. first i ∷ in_turn f (n + 1) xs (λ k y e. let next : n + suc k ≡ (n + 1) + k = omega arith in h (suc k) y e ∙ next) i)

got_among : (vs : List Name) (k : ℕ) (v : Name) → slice_get vs k ≡ Some v → is_among vs v ≡ true
got_among [] k v e = absurd (none_is v e)
got_among (w ∷ vs) zero v e = ap (λ b. b || is_among vs v) (text_same v w (ap (λ (n : Name). n.text) (sym (some_is w v e))))
got_among (w ∷ vs) (suc k) v e = go (same_name v w) (got_among vs k v e)
  where
    go : (b : Bool) → is_among vs v ≡ true → (b || is_among vs v) ≡ true
    go true r = refl
    go false r = r

-- variables are numbered in order of first mention
pub numbered_in_order : (ms : List (Mention Name)) → map (number_of (map variable (firsts ms))) (map variable (firsts ms)) ≡ range_with_len 0 (length (map variable (firsts ms)))
numbered_in_order ms =
    let vs : List Name = map variable (firsts ms) in
    in_turn (number_of vs) 0 vs (λ k v e.
    let p : IsPlaced vs v (number_of vs v) = placed vs v (got_among vs k v e) in
    one_place vs (number_of vs v) k p.item v (variables_differ ms) p.stands e (turned v p.item p.same) ∙ sym (zero-add k))
