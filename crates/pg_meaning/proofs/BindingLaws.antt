-- A binding is known by its vertices, its edges and its lists.
use Rattle.std.proofs.Common.{◌≡◌, List, [], ◌∷◌, map, refl, ap}
use Rattle.pg_value.specs.declared.shape.ElemId.{ElemId}
use Rattle.pg_meaning.specs.Walks.{Hop, edges_of}
use Rattle.pg_meaning.specs.Bindings.{Binding, path_binding}

first_or : ElemId → List ElemId → ElemId
first_or d [] = d
first_or d (e ∷ es) = e

rest_of : List ElemId → List ElemId
rest_of [] = []
rest_of (e ∷ es) = es

hops_exact : (hops more : List Hop) → map (λ h. h.to) hops ≡ map (λ h. h.to) more → edges_of hops ≡ edges_of more → hops ≡ more
unfolding first_or rest_of
hops_exact [] [] p q = refl
hops_exact [] (k ∷ more) p q = cc
hops_exact (h ∷ hops) [] p q = cc
hops_exact (h ∷ hops) (k ∷ more) p q =
    let to : h.to ≡ k.to = ap (first_or h.to) p in
    let edge : h.edge ≡ k.edge = ap (first_or h.edge) q in
    let rest : hops ≡ more = hops_exact hops more (ap rest_of p) (ap rest_of q) in
    λ i. record { edge = edge i; to = to i } ∷ rest i

pub binding_exact : (a b : Binding) → path_binding a ≡ path_binding b → a ≡ b
unfolding first_or rest_of
binding_exact a b h =
    let start : a.start ≡ b.start = ap (λ z. first_or a.start z.vertices) h in
    let hops : a.hops ≡ b.hops = hops_exact a.hops b.hops (ap (λ z. rest_of z.vertices) h) (ap (λ z. z.edges) h) in
    let vars : a.vars ≡ b.vars = ap (λ z. z.vars) h in
    λ i. record { start = start i; hops = hops i; vars = vars i }
