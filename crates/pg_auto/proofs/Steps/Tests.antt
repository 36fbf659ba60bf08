-- The tests of a search say what the relations say.
use Rattle.std.proofs.Common.{◌≡◌, ◌==◌, ◌&&◌, ◌||◌, Bool, true, false, not, List, [], ◌∷◌, map, Contains, ◌⊎◌, inl, inr, refl, ap, sym, ◌∙◌, subst, eq-eqb}
use Rattle.std.specs.Prelude.{Option, Some, None}
use Rattle.std.specs.List.{list_any, list_all}
use Rattle.std.specs.Int.{bit_at}
use Rattle.std.specs.Ordering.{is_eq}
use Rattle.std.proofs.lemmas.Bool.{eqb-true}
use Rattle.pg_keyed.specs.Orders.{same}
use Rattle.pg_value.specs.declared.value.Truth.{Truth}
use Rattle.pg_value.specs.declared.value.Truth.TheVariants.{True, False, Unknown}
use Rattle.pg_value.specs.declared.shape.ElemId.{ElemId}
use Rattle.pg_value.specs.Orders.{places}
use Rattle.pg_value.specs.Graph.{elem_place, same_elem}
use Rattle.pg_ast.specs.declared.pattern.Mode.{Mode}
use Rattle.pg_ast.specs.declared.pattern.Mode.TheVariants.{Walk, Trail, Acyclic, Simple}
use Rattle.pg_meaning.specs.declared.checked.CExpr.{CExpr}
use Rattle.pg_meaning.specs.declared.checked.CFiller.{CFiller}
use Rattle.pg_meaning.specs.CExprs.{ctree_of}
use Rattle.pg_meaning.specs.Meaning.{Scope, Meets, truth_of}
use Rattle.pg_meaning.specs.Walks.{Graph, Hop, vertices_of, edges_of}
use Rattle.pg_meaning.specs.Fits.{Mention, Admits, NodeAdmits, Agree, scope_of, mention}
use Rattle.pg_meaning.specs.Bindings.{Distinct, Permits, front_of}
use Rattle.pg_meaning.specs.EdgeKeys.{same_is}
use Rattle.pg_meaning.specs.Members.{in_nil, in_here, in_there, in_cons, from_any}
use Rattle.pg_auto.specs.Tests.{is_true, meets, admits, node_admits, fits_mention, agrees, distinct, permits}

-- TRUTH VALUES

pub and_true : (a b : Bool) → a && b ≡ true → (a ≡ true) × (b ≡ true)
and_true true b h = (refl, h)
and_true false b h = cc

pub both_true : (a b : Bool) → a ≡ true → b ≡ true → a && b ≡ true
both_true a b h k = cc

pub differ : true ≡ false → ⊥
differ h = cc

pub not_true : (a : Bool) → (a ≡ true → ⊥) → not a ≡ true
not_true true h = absurd (h refl)
not_true false h = refl

-- ELEMENTS

pub same_self : (e : ElemId) → same_elem e e ≡ true
same_self e = ap is_eq (same places (elem_place e))

pub same_when : (a b : ElemId) → a ≡ b → same_elem a b ≡ true
same_when a b e = ap (same_elem a) (sym e) ∙ same_self a

is_true_true : (x : Truth) → is_true x ≡ true → x ≡ True
is_true_true True h = refl
is_true_true False h = cc
is_true_true Unknown h = cc

pub meets_test : (condition : Option CExpr) (scope : Scope) → Meets condition scope → meets condition scope ≡ true
meets_test None scope h = refl
meets_test (Some c) scope h = ap is_true h

pub meets_means : (condition : Option CExpr) (scope : Scope) → meets condition scope ≡ true → Meets condition scope
meets_means None scope h = tt
meets_means (Some c) scope h = is_true_true (truth_of (ctree_of c) scope) h

pub admits_test : (g : Graph) (f : CFiller) (e : ElemId) → Admits g f e → admits g f e ≡ true
admits_test g f e a = both_true _ _ (eq-eqb (bit_at f.tables.0 e.table.0) 1 a.0) (meets_test f.cond (scope_of g (mention f e)) a.1)

pub admits_means : (g : Graph) (f : CFiller) (e : ElemId) → admits g f e ≡ true → Admits g f e
admits_means g f e h = let k = and_true _ _ h in (eqb-true (bit_at f.tables.0 e.table.0) 1 k.0, meets_means f.cond (scope_of g (mention f e)) k.1)

pub node_test : (g : Graph) (node : Option CFiller) (e : ElemId) → NodeAdmits g node e → node_admits g node e ≡ true
node_test g None e a = refl
node_test g (Some f) e a = admits_test g f e a

pub node_means : (g : Graph) (node : Option CFiller) (e : ElemId) → node_admits g node e ≡ true → NodeAdmits g node e
node_means g None e h = tt
node_means g (Some f) e h = admits_means g f e h

-- MENTIONS

all_test : {X : Type 0} (test : X → Bool) (xs : List X) → ((x : X) → Contains xs x → test x ≡ true) → list_all test xs ≡ true
all_test test [] h = refl
all_test test (x ∷ xs) h = both_true (test x) (list_all test xs) (h x (in_here x xs x refl)) (all_test test xs (λ y c. h y (in_there x xs y c)))

all_means : {X : Type 0} (test : X → Bool) (xs : List X) → list_all test xs ≡ true → (x : X) → Contains xs x → test x ≡ true
all_means test [] h x c = absurd (in_nil x c)
all_means test (y ∷ xs) h x c =
    let k = and_true (test y) (list_all test xs) h in
    elim (in_cons y xs x c) [ inl e ↦ ap test (sym e) ∙ k.0 | inr r ↦ all_means test xs k.1 x r ]

two_fit : (m n : Mention) → (m.var ≡ n.var → m.elem ≡ n.elem) → fits_mention m n ≡ true
two_fit m n h = go (m.var == n.var) refl
  where
    go : (b : Bool) → (m.var == n.var) ≡ b → (not b || same_elem m.elem n.elem) ≡ true
    go true e = same_when m.elem n.elem (h (eqb-true m.var n.var e))
    go false e = refl

two_agree : (m n : Mention) → fits_mention m n ≡ true → m.var ≡ n.var → m.elem ≡ n.elem
two_agree m n h e = same_is m.elem n.elem (go (m.var == n.var) (eq-eqb m.var n.var e) h)
  where
    go : (b : Bool) → b ≡ true → (not b || same_elem m.elem n.elem) ≡ true → same_elem m.elem n.elem ≡ true
    go true s k = k
    go false s k = absurd (differ (sym s))

pub agrees_test : (seen : List Mention) → Agree seen → agrees seen ≡ true
agrees_test [] a = refl
agrees_test (m ∷ seen) a =
    both_true (list_all (fits_mention m) seen) (agrees seen)
    (all_test (fits_mention m) seen (λ n c. two_fit m n (a m n (in_here m seen m refl) (in_there m seen n c))))
    (agrees_test seen (λ n o c d e. a n o (in_there m seen n c) (in_there m seen o d) e))

agree_cons : (x : Mention) (seen : List Mention) → ((n : Mention) → Contains seen n → fits_mention x n ≡ true) → Agree seen
    → (m n : Mention) → (x ≡ m) ⊎ Contains seen m → (x ≡ n) ⊎ Contains seen n → m.var ≡ n.var → m.elem ≡ n.elem
agree_cons x seen fit a m n (inl p) (inl q) e = ap (λ z. z.elem) (sym p ∙ q)
agree_cons x seen fit a m n (inl p) (inr q) e = ap (λ z. z.elem) (sym p) ∙ two_agree x n (fit n q) (ap (λ z. z.var) p ∙ e)
agree_cons x seen fit a m n (inr p) (inl q) e = sym (two_agree x m (fit m p) (ap (λ z. z.var) q ∙ sym e)) ∙ ap (λ z. z.elem) q
agree_cons x seen fit a m n (inr p) (inr q) e = a m n p q e

pub agrees_means : (seen : List Mention) → agrees seen ≡ true → Agree seen
agrees_means [] h m n c d e = absurd (in_nil m c)
agrees_means (x ∷ seen) h m n c d e =
    let k = and_true (list_all (fits_mention x) seen) (agrees seen) h in
    agree_cons x seen (all_means (fits_mention x) seen k.0) (agrees_means seen k.1) m n (in_cons x seen m c) (in_cons x seen n d) e

-- MODES

pub any_test : (x : ElemId) (xs : List ElemId) → Contains xs x → list_any (same_elem x) xs ≡ true
any_test x [] c = absurd (in_nil x c)
any_test x (y ∷ xs) c = elim (in_cons y xs x c) [ inl e ↦ here (same_elem x y) (same_when x y (sym e)) | inr r ↦ there (same_elem x y) (any_test x xs r) ]
  where
    here : (b : Bool) → b ≡ true → (b || list_any (same_elem x) xs) ≡ true
    here true h = refl
    here false h = absurd (differ (sym h))

    there : (b : Bool) → list_any (same_elem x) xs ≡ true → (b || list_any (same_elem x) xs) ≡ true
    there true h = refl
    there false h = h

pub distinct_test : (xs : List ElemId) → Distinct xs → distinct xs ≡ true
distinct_test [] d = refl
distinct_test (x ∷ xs) d =
    both_true (not (list_any (same_elem x) xs)) (distinct xs)
    (not_true (list_any (same_elem x) xs) (λ h. let y = from_any (same_elem x) xs h in d.0 (subst (λ z. Contains xs z) (sym (same_is x y.0 y.2)) y.1)))
    (distinct_test xs d.1)

pub distinct_means : (xs : List ElemId) → distinct xs ≡ true → Distinct xs
distinct_means [] h = tt
distinct_means (x ∷ xs) h =
    let k = and_true (not (list_any (same_elem x) xs)) (distinct xs) h in
    (λ c. differ (sym k.0 ∙ ap not (any_test x xs c)), distinct_means xs k.1)

pub permits_test : (mode : Mode) (v : ElemId) (hops : List Hop) → Permits mode v hops → permits mode v hops ≡ true
permits_test Walk v hops p = refl
permits_test Trail v hops p = distinct_test (edges_of hops) p
permits_test Acyclic v hops p = distinct_test (vertices_of v hops) p
permits_test Simple v hops p = both_true _ _ (distinct_test (front_of (vertices_of v hops)) p.0) (distinct_test (map (λ hop. hop.to) hops) p.1)

pub permits_means : (mode : Mode) (v : ElemId) (hops : List Hop) → permits mode v hops ≡ true → Permits mode v hops
permits_means Walk v hops h = tt
permits_means Trail v hops h = distinct_means (edges_of hops) h
permits_means Acyclic v hops h = distinct_means (vertices_of v hops) h
permits_means Simple v hops h =
    let k = and_true (distinct (front_of (vertices_of v hops))) (distinct (map (λ hop. hop.to) hops)) h in
    (distinct_means (front_of (vertices_of v hops)) k.0, distinct_means (map (λ hop. hop.to) hops) k.1)
