-- Spots that are held alike stand for one spot.
use Rattle.std.proofs.Common.{◌≡◌, ◌==◌, ◌||◌, Bool, true, false, cond, not, List, [], ◌∷◌, ◌++◌, map, Contains, inl, inr, refl, ap, sym, ◌∙◌, subst, eq-eqb}
use Rattle.std.proofs.lemmas.Bool.{eqb-true}
use Rattle.std.specs.Cmp.Lexicographic.{pointwise}
use Rattle.std.specs.List.{list_any}
use Rattle.pg_value.specs.Hashing.{one_elem, elem_equivalence}
use Rattle.pg_value.specs.Graph.{same_elem}
use Rattle.pg_value.specs.declared.shape.ElemId.{ElemId}
use Rattle.pg_meaning.specs.Fits.{Mention}
use Rattle.pg_meaning.specs.Members.{in_nil, in_here, in_there, in_cons}
use Rattle.pg_short.specs.declared.spots.Named.{Named}
use Rattle.pg_short.specs.declared.spots.Spot.{Spot as HeldSpot}
use Rattle.pg_short.specs.contracts.spots.SpotPartialEq.TheImpl.{eq-value as spot_eq}
use Rattle.pg_short.specs.contracts.spots.NamedPartialEq.TheImpl.{eq-value as named_eq}
use Rattle.pg_short.specs.Spots.{Spot}
use Rattle.pg_short.specs.Steps.{named_view, spot_view}
use Rattle.pg_short.specs.Visits.{IsAdded}
use Rattle.pg_short.proofs.Lists.{or_left, or_right, true_false}
use Rattle.pg_short.proofs.Follows.{and_true, both_true}

same_when : (a b : ElemId) → a ≡ b → same_elem a b ≡ true
same_when a b e = subst (λ x. same_elem a x ≡ true) e (elem_equivalence.refl a)

same_named : (a b : Named) → named_eq.it a b ≡ true → named_view a ≡ named_view b
same_named a b h =
    let p = and_true (a.var == b.var) _ h in
    let var = eqb-true a.var b.var p.0 in
    let elem = one_elem a.elem b.elem p.1 in
    λ i. record { var = var i; elem = elem i }

named_same : (a b : Named) → named_view a ≡ named_view b → named_eq.it a b ≡ true
named_same a b e = both_true (a.var == b.var) _ (eq-eqb a.var b.var (ap (λ (m : Mention). m.var) e)) (same_when a.elem b.elem (ap (λ (m : Mention). m.elem) e))

same_names : (xs ys : List Named) → pointwise named_eq.it xs ys ≡ true → map named_view xs ≡ map named_view ys
same_names [] [] h = refl
same_names [] (y ∷ ys) h = absurd (cc)
same_names (x ∷ xs) [] h = absurd (cc)
same_names (x ∷ xs) (y ∷ ys) h =
    let p = and_true (named_eq.it x y) _ h in
    let first = same_named x y p.0 in
    let rest = same_names xs ys p.1 in
    λ i. first i ∷ rest i

names_same : (xs ys : List Named) → map named_view xs ≡ map named_view ys → pointwise named_eq.it xs ys ≡ true
names_same [] [] h = refl
names_same [] (y ∷ ys) h = absurd (cc)
names_same (x ∷ xs) [] h = absurd (cc)
names_same (x ∷ xs) (y ∷ ys) h =
    both_true (named_eq.it x y) _ (named_same x y (let k : named_view x ≡ named_view y = cc in k)) (names_same xs ys (let k : map named_view xs ≡ map named_view ys = cc in k))

pub same_spot : (a b : HeldSpot) → spot_eq.it a b ≡ true → spot_view a ≡ spot_view b
same_spot a b h =
    let p = and_true (a.stage == b.stage) _ h in
    let q = and_true (a.done == b.done) _ p.1 in
    let r = and_true (same_elem a.at b.at) _ q.1 in
    let stage = eqb-true a.stage b.stage p.0 in
    let done = eqb-true a.done b.done q.0 in
    let at = one_elem a.at b.at r.0 in
    let names = same_names a.names.items b.names.items r.1 in
    λ i. record { stage = stage i; done = done i; at = at i; names = names i }

pub spot_same : (a b : HeldSpot) → spot_view a ≡ spot_view b → spot_eq.it a b ≡ true
spot_same a b e =
    both_true (a.stage == b.stage) _ (eq-eqb a.stage b.stage (ap (λ (x : Spot). x.stage) e))
    (both_true (a.done == b.done) _ (eq-eqb a.done b.done (ap (λ (x : Spot). x.done) e))
    (both_true (same_elem a.at b.at) _ (same_when a.at b.at (ap (λ (x : Spot). x.at) e)) (names_same a.names.items b.names.items (ap (λ (x : Spot). x.names) e))))

-- WHAT A SET GIVES

any_same : (xs : List HeldSpot) (x : HeldSpot) → list_any (spot_eq.it x) xs ≡ true → Contains (map spot_view xs) (spot_view x)
any_same [] x h = absurd (cc)
any_same (y ∷ ys) x h = go (spot_eq.it x y) refl h (any_same ys x)
  where
    go : (b : Bool) → spot_eq.it x y ≡ b → (b || list_any (spot_eq.it x) ys) ≡ true → (list_any (spot_eq.it x) ys ≡ true → Contains (map spot_view ys) (spot_view x)) → Contains (spot_view y ∷ map spot_view ys) (spot_view x)
    go true e k again = in_here (spot_view y) (map spot_view ys) (spot_view x) (sym (same_spot x y e))
    go false e k again = in_there (spot_view y) (map spot_view ys) (spot_view x) (again k)

pub same_any : (xs : List HeldSpot) (x : HeldSpot) → Contains (map spot_view xs) (spot_view x) → list_any (spot_eq.it x) xs ≡ true
same_any [] x c = absurd (in_nil (spot_view x) c)
same_any (y ∷ ys) x c = elim (in_cons (spot_view y) (map spot_view ys) (spot_view x) c) [
  | inl e ↦ or_left (spot_eq.it x y) _ (spot_same x y (sym e))
  | inr r ↦ or_right (spot_eq.it x y) _ (same_any ys x r)
]

map_push : (xs : List HeldSpot) (x : HeldSpot) → map spot_view (xs ++ x ∷ []) ≡ map spot_view xs ++ spot_view x ∷ []
map_push [] x = refl
map_push (y ∷ ys) x = ap (λ zs. spot_view y ∷ zs) (map_push ys x)

pub added_of : (xs : List HeldSpot) (x : HeldSpot) (ys : List HeldSpot) (new : Bool) → ys ≡ cond (list_any (spot_eq.it x) xs) xs (xs ++ x ∷ []) → new ≡ not (list_any (spot_eq.it x) xs)
    → IsAdded (map spot_view xs) (spot_view x) (map spot_view ys) new
added_of xs x ys new h k = subst (IsAdded (map spot_view xs) (spot_view x) (map spot_view ys)) (sym k) (go (list_any (spot_eq.it x) xs) refl h)
  where
    go : (b : Bool) → list_any (spot_eq.it x) xs ≡ b → ys ≡ cond b xs (xs ++ x ∷ []) → IsAdded (map spot_view xs) (spot_view x) (map spot_view ys) (not b)
    go true e f = (ap (map spot_view) f, any_same xs x e)
    go false e f = (ap (map spot_view) f ∙ map_push xs x, λ c. true_false (sym (same_any xs x c) ∙ e))
