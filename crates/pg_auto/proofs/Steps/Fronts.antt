-- What holds of a whole walk holds of its front.
use Rattle.std.proofs.Common.{◌≡◌, List, [], ◌∷◌, ◌++◌, map, refl, ap, subst}
use Rattle.pg_value.specs.declared.shape.ElemId.{ElemId}
use Rattle.pg_ast.specs.declared.pattern.Mode.{Mode}
use Rattle.pg_ast.specs.declared.pattern.Mode.TheVariants.{Walk, Trail, Acyclic, Simple}
use Rattle.pg_meaning.specs.Walks.{Hop, last_vertex, edges_of}
use Rattle.pg_meaning.specs.Fits.{Mention, Agree}
use Rattle.pg_meaning.specs.Bindings.{Distinct, Permits, front_of}
use Rattle.pg_meaning.specs.Members.{in_left}

pub last_append : (v : ElemId) (a b : List Hop) → last_vertex v (a ++ b) ≡ last_vertex (last_vertex v a) b
last_append v [] b = refl
last_append v (hop ∷ a) b = last_append hop.to a b

pub map_append : {X Y : Type 0} (f : X → Y) (xs ys : List X) → map f (xs ++ ys) ≡ map f xs ++ map f ys
map_append f [] ys = refl
map_append f (x ∷ xs) ys = ap (λ zs. f x ∷ zs) (map_append f xs ys)

distinct_front : {X : Type 0} (xs ys : List X) → Distinct (xs ++ ys) → Distinct xs
distinct_front [] ys d = tt
distinct_front (x ∷ xs) ys d = (λ c. d.0 (in_left xs ys x c), distinct_front xs ys d.1)

-- the front of a list with more is the front of the list, with more
front_more : {X : Type 0} (x : X) (xs ys : List X) → (more : List X) × (front_of (x ∷ (xs ++ ys)) ≡ front_of (x ∷ xs) ++ more)
front_more x [] ys = (front_of (x ∷ ys), refl)
front_more x (y ∷ xs) ys = let h = front_more y xs ys in (h.0, ap (λ zs. x ∷ zs) h.1)

-- what a mode permits, it permits of each front
pub permits_front : (mode : Mode) (v : ElemId) (a b : List Hop) → Permits mode v (a ++ b) → Permits mode v a
permits_front Walk v a b p = tt
permits_front Trail v a b p = distinct_front (edges_of a) (edges_of b) (subst Distinct (map_append (λ hop. hop.edge) a b) p)
permits_front Acyclic v a b p = distinct_front (v ∷ map (λ hop. hop.to) a) (map (λ hop. hop.to) b) (subst (λ xs. Distinct (v ∷ xs)) (map_append (λ hop. hop.to) a b) p)
permits_front Simple v a b p =
    let e = map_append (λ hop. hop.to) a b in
    let f = front_more v (map (λ hop. hop.to) a) (map (λ hop. hop.to) b) in (
      distinct_front (front_of (v ∷ map (λ hop. hop.to) a)) f.0 (subst Distinct f.1 (subst (λ xs. Distinct (front_of (v ∷ xs))) e p.0)),
      distinct_front (map (λ hop. hop.to) a) (map (λ hop. hop.to) b) (subst Distinct e p.1),
    )

-- mentions that agree agree among the first of them
pub agree_front : (xs ys : List Mention) → Agree (xs ++ ys) → Agree xs
agree_front xs ys a m n c d e = a m n (in_left xs ys m c) (in_left xs ys n d) e
