-- Which elements are vertices of a graph.
use Rattle.std.proofs.Common.{◌≡◌, ◌↔◌, ◌==◌, ◌||◌, Bool, true, false, cond, List, [], ◌∷◌, map, Contains, inl, inr, refl, ap, sym, ◌∙◌, subst, eq-eqb}
use Rattle.std.specs.Prelude.{Option, Some, None, is_some, option_map, flat_map, IsTrue}
use Rattle.std.specs.Option.{option_copied}
use Rattle.std.proofs.lemmas.Bool.{eqb-true}
use Rattle.pg_value.specs.declared.shape.ElemId.{ElemId}
use Rattle.pg_value.specs.declared.shape.TableNo.{TableNo}
use Rattle.pg_value.specs.declared.shape.GraphShape.{GraphShape}
use Rattle.pg_value.specs.Tables.{Stored, Tables, held_in, stored_at}
use Rattle.pg_value.specs.Graph.{vertices, elem_of, elem_place, same_elem}
use Rattle.std.proofs.Common.{Bor}
use Rattle.pg_meaning.specs.Reads.{row_at}
use Rattle.pg_meaning.specs.EdgeKeys.{same_table, same_is, vertex_table}
use Rattle.pg_meaning.specs.Members.{in_nil, in_here, in_there, in_cons, in_map, from_map, from_flat_map, in_left, in_right, in_filter}
use Rattle.pg_search.specs.Searches.{is_among}
use Rattle.pg_search.proofs.FoundBindings.{kept}
use Rattle.pg_search.proofs.Putting.{same_self}

among_is : (tables : List TableNo) (t : TableNo) → is_among tables t ≡ true → Contains tables t
among_is [] t h = absurd (cc)
among_is (x ∷ xs) t h = go (x.0 == t.0) refl h (among_is xs t)
  where
    go : (b : Bool) → (x.0 == t.0) ≡ b → (b || is_among xs t) ≡ true → (is_among xs t ≡ true → Contains xs t) → Contains (x ∷ xs) t
    go true e h k = in_here x xs t (same_table x t (eqb-true x.0 t.0 e))
    go false e h k = in_there x xs t (k h)

is_in_among : (tables : List TableNo) (t : TableNo) → Contains tables t → is_among tables t ≡ true
is_in_among [] t c = absurd (in_nil t c)
is_in_among (x ∷ xs) t c = elim (in_cons x xs t c) [
  | inl e ↦ ap (λ b. b || is_among xs t) (eq-eqb x.0 t.0 (ap (λ (z : TableNo). z.0) e))
  | inr r ↦ or_true (x.0 == t.0) (is_in_among xs t r)
]
  where
    or_true : (b : Bool) → is_among xs t ≡ true → (b || is_among xs t) ≡ true
    or_true true h = refl
    or_true false h = h

-- the row of an element that stands is one of the tables
stands_in : (tables : Tables) (v : ElemId) → is_some (stored_at (elem_place v) tables) ≡ true → (s : Stored) × Contains tables s × (same_elem v (elem_of s) ≡ true)
stands_in [] v h = absurd (cc)
stands_in (s ∷ tables) v h = go (same_elem v (elem_of s)) refl h (stands_in tables v)
  where
    go : (b : Bool) → same_elem v (elem_of s) ≡ b → is_some (cond b (Some s) (stored_at (elem_place v) tables)) ≡ true
        → (is_some (stored_at (elem_place v) tables) ≡ true → (s : Stored) × Contains tables s × (same_elem v (elem_of s) ≡ true)) → (r : Stored) × Contains (s ∷ tables) r × (same_elem v (elem_of r) ≡ true)
    go true e h k = (s, in_here s tables s refl, e)
    go false e h k = let r = k h in (r.0, in_there s tables r.0 r.1, r.2)

in_stands : (tables : Tables) (v : ElemId) (s : Stored) → Contains tables s → elem_of s ≡ v → is_some (stored_at (elem_place v) tables) ≡ true
in_stands [] v s c e = absurd (in_nil s c)
in_stands (r ∷ tables) v s c e = elim (in_cons r tables s c) [
  | inl h ↦ ap (λ b. is_some (cond b (Some r) (stored_at (elem_place v) tables))) (ap (same_elem v) (ap elem_of h ∙ e) ∙ same_self v)
  | inr h ↦ either (same_elem v (elem_of r)) (in_stands tables v s h e)
]
  where
    either : (b : Bool) → is_some (stored_at (elem_place v) tables) ≡ true → is_some (cond b (Some r) (stored_at (elem_place v) tables)) ≡ true
    either true h = refl
    either false h = h

in_flat : {X Y : Type 0} (f : X → List Y) (xs : List X) (x : X) (y : Y) → Contains xs x → Contains (f x) y → Contains (flat_map f xs) y
in_flat f [] x y c d = absurd (in_nil x c)
in_flat f (z ∷ zs) x y c d = elim (in_cons z zs x c) [
  | inl e ↦ in_left (f z) (flat_map f zs) y (subst (λ u. Contains (f u) y) (sym e) d)
  | inr r ↦ in_right (f z) (flat_map f zs) y (in_flat f zs x y r d)
]

vertex_is : (g : GraphShape) (tables : Tables) (v : ElemId) → Contains g.vertices v.table → is_some (stored_at (elem_place v) tables) ≡ true → Contains (vertices g tables) v
vertex_is g tables v c h =
    let s = stands_in tables v h in
    let same = same_is v (elem_of s.0) s.2 in
    in_flat (λ t. map elem_of (held_in t tables)) g.vertices v.table v c
    (subst (λ z. Contains (map elem_of (held_in v.table tables)) z) (sym same)
    (in_map elem_of (held_in v.table tables) s.0 (kept (λ r. r.table.0 == v.table.0) tables s.0 s.1 (eq-eqb s.0.table.0 v.table.0 (ap (λ (z : ElemId). z.table.0) (sym same))))))

vertex_stands : (g : GraphShape) (tables : Tables) (v : ElemId) → Contains (vertices g tables) v → is_some (stored_at (elem_place v) tables) ≡ true
vertex_stands g tables v c =
    let a = from_flat_map (λ t. map elem_of (held_in t tables)) g.vertices v c in
    let s = from_map elem_of (held_in a.0 tables) v a.2 in
    in_stands tables v s.0 (in_filter (λ r. r.table.0 == a.0.0) tables s.0 s.1).0 s.2

pub vertex_else : (g : GraphShape) (tables : Tables) (v : ElemId) → is_among g.vertices v.table ≡ false → Contains (vertices g tables) v → ⊥
vertex_else g tables v a c = let z : true ≡ false = sym (is_in_among g.vertices v.table (vertex_table g tables v c)) ∙ a in cc

some_row : (o : Option Stored) → is_some (option_map (λ s. s.row) o) ≡ is_some o
some_row None = refl
some_row (Some s) = refl

pub vertex_then : (g : GraphShape) (tables : Tables) (v : ElemId) (b : Bool) → is_among g.vertices v.table ≡ true → b ≡ is_some (row_at tables v.table v.key) → IsTrue b ↔ Contains (vertices g tables) v
vertex_then g tables v b a h =
    let same = h ∙ some_row (stored_at (elem_place v) tables) in
    (λ t. vertex_is g tables v (among_is g.vertices v.table a) (sym same ∙ t), λ c. same ∙ vertex_stands g tables v c)

pub copied_some : {X : Type 0} (o : Option (Bor X)) → is_some o ≡ is_some (option_copied o)
copied_some None = refl
copied_some (Some b) = refl

pub vertex_none : (g : GraphShape) (tables : Tables) (v : ElemId) (b : Bool) → b ≡ false → is_among g.vertices v.table ≡ false → IsTrue b ↔ Contains (vertices g tables) v
vertex_none g tables v b e a = (λ t. absurd (not_both b e t), λ c. absurd (vertex_else g tables v a c))
  where
    not_both : (b : Bool) → b ≡ false → b ≡ true → ⊥
    not_both b h t = let z : true ≡ false = sym t ∙ h in cc
