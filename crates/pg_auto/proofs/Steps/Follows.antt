-- What a mode asks of one hop more.
use Rattle.std.proofs.Common.{◌≡◌, Bool, true, false, not, List, [], ◌∷◌, ◌++◌, map, Contains, inl, inr, refl, ap, sym, ◌∙◌, subst}
use Rattle.std.specs.List.{list_any}
use Rattle.pg_value.specs.declared.shape.ElemId.{ElemId}
use Rattle.pg_value.specs.Graph.{same_elem}
use Rattle.pg_ast.specs.declared.pattern.Mode.{Mode}
use Rattle.pg_ast.specs.declared.pattern.Mode.TheVariants.{Walk, Trail, Acyclic, Simple}
use Rattle.pg_meaning.specs.Walks.{Hop, vertices_of, edges_of}
use Rattle.pg_meaning.specs.Bindings.{Distinct, Permits, front_of}
use Rattle.pg_meaning.specs.EdgeKeys.{same_is}
use Rattle.pg_meaning.specs.Members.{in_nil, in_here, in_cons, in_right, in_one, from_any, distinct_append}
use Rattle.pg_auto.specs.Tests.{permits, may_follow, TestsTell}
use Rattle.pg_auto.proofs.Steps.Tests.{and_true, both_true, not_true, differ, any_test, meets_test, meets_means, admits_test, admits_means, agrees_test, agrees_means, permits_test, permits_means}
use Rattle.pg_auto.proofs.Steps.Fronts.{map_append, permits_front}

-- two truth values of which each is true where the other is are one
alike : (a b : Bool) → (a ≡ true → b ≡ true) → (b ≡ true → a ≡ true) → a ≡ b
alike true true h k = refl
alike true false h k = sym (h refl)
alike false true h k = k refl
alike false false h k = refl

-- AN ITEM BEHIND OTHERS

not_there : (xs : List ElemId) (x : ElemId) → Distinct (xs ++ x ∷ []) → Contains xs x → ⊥
not_there [] x d c = in_nil x c
not_there (y ∷ xs) x d c = elim (in_cons y xs x c) [ inl e ↦ d.0 (in_right xs (x ∷ []) y (in_here x [] y (sym e))) | inr r ↦ not_there xs x d.1 r ]

new_last : (xs : List ElemId) (x : ElemId) → Distinct xs → (Contains xs x → ⊥) → Distinct (xs ++ x ∷ [])
new_last xs x d out = distinct_append xs (x ∷ []) d (in_nil x, tt) (λ y a b. out (subst (λ z. Contains xs z) (sym (in_one x y b)) a))

none_there : (xs : List ElemId) (x : ElemId) → (Contains xs x → ⊥) → not (list_any (same_elem x) xs) ≡ true
none_there xs x out = not_true (list_any (same_elem x) xs) (λ h. let y = from_any (same_elem x) xs h in out (subst (λ z. Contains xs z) (sym (same_is x y.0 y.2)) y.1))

there_not : (xs : List ElemId) (x : ElemId) → not (list_any (same_elem x) xs) ≡ true → Contains xs x → ⊥
there_not xs x h c = differ (sym h ∙ ap not (any_test x xs c))

front_all : {X : Type 0} (xs : List X) (x : X) → front_of (xs ++ x ∷ []) ≡ xs
front_all [] x = refl
front_all (y ∷ []) x = refl
front_all (y ∷ z ∷ xs) x = ap (λ ys. y ∷ ys) (front_all (z ∷ xs) x)

-- ONE HOP MORE

follow : (mode : Mode) (v : ElemId) (hops : List Hop) (hop : Hop) → Permits mode v (hops ++ hop ∷ []) → may_follow mode v hops hop ≡ true
follow Walk v hops hop p = refl
follow Trail v hops hop p = none_there (edges_of hops) hop.edge (not_there (edges_of hops) hop.edge (subst Distinct (map_append (λ h. h.edge) hops (hop ∷ [])) p))
follow Acyclic v hops hop p = none_there (vertices_of v hops) hop.to (not_there (vertices_of v hops) hop.to (subst (λ xs. Distinct (v ∷ xs)) (map_append (λ h. h.to) hops (hop ∷ [])) p))
follow Simple v hops hop p =
    let e = map_append (λ (h : Hop). h.to) hops (hop ∷ []) in
    let whole = subst Distinct (front_all (v ∷ map (λ (h : Hop). h.to) hops) hop.to) (subst (λ xs. Distinct (front_of (v ∷ xs))) e p.0) in
    let ends = subst Distinct e p.1 in
    both_true _ _ (none_there (map (λ (h : Hop). h.to) hops) v whole.0) (none_there (map (λ (h : Hop). h.to) hops) hop.to (not_there (map (λ (h : Hop). h.to) hops) hop.to ends))

followed : (mode : Mode) (v : ElemId) (hops : List Hop) (hop : Hop) → Permits mode v hops → may_follow mode v hops hop ≡ true → Permits mode v (hops ++ hop ∷ [])
followed Walk v hops hop p h = tt
followed Trail v hops hop p h = subst Distinct (sym (map_append (λ h. h.edge) hops (hop ∷ []))) (new_last (edges_of hops) hop.edge p (there_not (edges_of hops) hop.edge h))
followed Acyclic v hops hop p h = subst (λ xs. Distinct (v ∷ xs)) (sym (map_append (λ h. h.to) hops (hop ∷ []))) (new_last (vertices_of v hops) hop.to p (there_not (vertices_of v hops) hop.to h))
followed Simple v hops hop p h =
    let e = map_append (λ (k : Hop). k.to) hops (hop ∷ []) in
    let k = and_true _ _ h in (
      subst (λ xs. Distinct (front_of (v ∷ xs))) (sym e) (subst Distinct (sym (front_all (v ∷ map (λ (z : Hop). z.to) hops) hop.to)) (there_not (map (λ (z : Hop). z.to) hops) v k.0, p.1)),
      subst Distinct (sym e) (new_last (map (λ (z : Hop). z.to) hops) hop.to p.1 (there_not (map (λ (z : Hop). z.to) hops) hop.to k.1)),
    )

pub tests_tell : TestsTell
tests_tell = record {
  meets_tells = λ condition scope. (meets_means condition scope, meets_test condition scope);
  admits_tells = λ g f e. (admits_means g f e, admits_test g f e);
  agrees_tells = λ seen. (agrees_means seen, agrees_test seen);
  permits_tells = λ mode v hops. (permits_means mode v hops, permits_test mode v hops);
  fronts = permits_front;
  follows_tells = λ mode v hops hop h. alike (permits mode v (hops ++ hop ∷ [])) (may_follow mode v hops hop)
      (λ k. follow mode v hops hop (permits_means mode v (hops ++ hop ∷ []) k))
      (λ k. permits_test mode v (hops ++ hop ∷ []) (followed mode v hops hop (permits_means mode v hops h) k));
}
