-- The vertices of the tables in which a walk may begin.
use Rattle.std.proofs.Common.{◌≡◌, ◌<◌, ◌^◌, ◌+◌, ◌==◌, ℕ, Bool, true, false, cond, List, [], ◌∷◌, ◌++◌, map, length, Contains, inl, inr, refl, ap, sym, ◌∙◌, subst, eq-eqb, eqb-true, arith}
use Rattle.std.specs.Prelude.{filter, flat_map}
use Rattle.std.specs.Int.{bit_at}
use Rattle.std.proofs.lemmas.Nat.Bits.{bit_at-pow_same, bit_at-pow_other}
use Rattle.pg_keyed.specs.Lists.{Each}
use Rattle.pg_value.specs.declared.shape.ElemId.{ElemId}
use Rattle.pg_value.specs.declared.shape.TableNo.{TableNo}
use Rattle.pg_value.specs.declared.shape.Shapes.{Shapes}
use Rattle.pg_value.specs.Tables.{Stored, Tables, IsInOrder, held_in, place_of}
use Rattle.pg_value.specs.Graph.{elem_of, elem_place}
use Rattle.pg_meaning.specs.declared.checked.CPart.{CPart}
use Rattle.pg_meaning.specs.declared.checked.CPart.TheVariants.{Node, Edge, Group}
use Rattle.pg_meaning.specs.declared.checked.CheckedPath.{CheckedPath}
use Rattle.pg_meaning.specs.Walks.{Graph, Hop, graph_of}
use Rattle.pg_meaning.specs.Fits.{Fits}
use Rattle.pg_meaning.specs.Bindings.{Distinct}
use Rattle.pg_meaning.specs.HopQuery.{edge_tables}
use Rattle.pg_meaning.specs.Members.{in_nil, in_left, in_right, in_append, in_map, from_map, from_flat_map, in_filter, distinct_append, distinct_filter}
use Rattle.pg_meaning.specs.EdgeKeys.{same_table, distinct_places}
use Rattle.pg_meaning.specs.Reads.{elements_of}
use Rattle.pg_meaning.specs.Sound.Patterns.{IsSoundPath}
use Rattle.pg_join.specs.Selecting.{AreStarts}
use Rattle.pg_join.specs.Starts.{admits_first, may_begin, only, starts_in}

true_false : true ≡ false → ⊥
true_false h = cc

-- THE SET OF ONE TABLE

one_bit : (t s : ℕ) → (bit_at (2 ^ t) s == 1) ≡ (s == t)
one_bit t s = go (s == t) refl
  where
    go : (b : Bool) → (s == t) ≡ b → (bit_at (2 ^ t) s == 1) ≡ b
    go true e = ap (λ n. bit_at (2 ^ t) n == 1) (eqb-true s t e) ∙ ap (λ n. n == 1) (bit_at-pow_same t)
    go false e = ap (λ n. n == 1) (bit_at-pow_other t s (λ h. true_false (sym (eq-eqb s t h) ∙ e)))

same_filter : {X : Type 0} (p q : X → Bool) → ((x : X) → p x ≡ q x) → (xs : List X) → filter p xs ≡ filter q xs
same_filter p q h [] = refl
same_filter p q h (x ∷ xs) = λ i. cond (h x i) (x ∷ same_filter p q h xs i) (same_filter p q h xs i)

pub of_one_table : (tables : Tables) (t : TableNo) → elements_of tables (only t) ≡ map elem_of (held_in t tables)
of_one_table tables t = ap (map elem_of) (same_filter (λ s. bit_at (2 ^ t.0) s.table.0 == 1) (λ s. s.table.0 == t.0) (λ s. one_bit t.0 s.table.0) tables)

pub few : (shapes : Shapes) (ts : List TableNo) (n : ℕ) → Each (λ t. t.0 < length shapes.tables) ts → length shapes.tables < n + 1 → Each (λ t. t.0 < n) ts
few shapes [] n e l = tt
few shapes (t ∷ ts) n e l = (let m = e.0 in omega arith, few shapes ts n e.1 l)

-- THE STARTS

in_table : (t : TableNo) (tables : Tables) (v : ElemId) → Contains (map elem_of (held_in t tables)) v → v.table ≡ t
in_table t tables v c =
    let m = from_map elem_of (held_in t tables) v c in
    let f = in_filter (λ s. s.table.0 == t.0) tables m.0 m.1 in
    ap (λ (z : ElemId). z.table) (sym m.2) ∙ same_table m.0.table t (eqb-true m.0.table.0 t.0 f.1)

distinct_held : (tables : Tables) (t : TableNo) → IsInOrder tables → Distinct (map elem_of (held_in t tables))
distinct_held tables t o = distinct_filter elem_of (λ s. s.table.0 == t.0) tables (under tables (distinct_places tables o))
  where
    under : (ss : List Stored) → Distinct (map place_of ss) → Distinct (map elem_of ss)
    under [] d = tt
    under (s ∷ ss) d = (λ c. let m = from_map elem_of ss (elem_of s) c in d.0 (subst (λ z. Contains (map place_of ss) z) (ap elem_place m.2) (in_map place_of ss m.0 m.1)), under ss d.1)

left_of : {X : Type 0} (xs ys : List X) → Distinct (xs ++ ys) → Distinct xs
left_of [] ys d = tt
left_of (x ∷ xs) ys d = (λ c. d.0 (in_left xs ys x c), left_of xs ys d.1)

module _ (tables : Tables) (path : CheckedPath) (order : IsInOrder tables) where
  from_start : (t : TableNo) (v : ElemId) → Contains (starts_in tables path t) v → v.table ≡ t
  from_start t v c = go (may_begin path t) c
    where
      go : (b : Bool) → Contains (cond b (map elem_of (held_in t tables)) []) v → v.table ≡ t
      go true c = in_table t tables v c
      go false c = absurd (in_nil v c)

  distinct_start : (t : TableNo) → Distinct (starts_in tables path t)
  distinct_start t = go (may_begin path t)
    where
      go : (b : Bool) → Distinct (cond b (map elem_of (held_in t tables)) [])
      go true = distinct_held tables t order
      go false = tt

  distinct_starts : (ts : List TableNo) → Distinct ts → Distinct (flat_map (starts_in tables path) ts)
  distinct_starts [] d = tt
  distinct_starts (t ∷ ts) d = distinct_append (starts_in tables path t) (flat_map (starts_in tables path) ts) (distinct_start t) (distinct_starts ts d.1)
      (λ v a b. let m = from_flat_map (starts_in tables path) ts v b in d.0 (subst (λ z. Contains ts z) (sym (from_start m.0 v m.2) ∙ from_start t v a) m.1))

  in_starts : (ts : List TableNo) (v : ElemId) → Contains (flat_map (λ t. map elem_of (held_in t tables)) ts) v → may_begin path v.table ≡ true → Contains (flat_map (starts_in tables path) ts) v
  in_starts [] v c m = absurd (in_nil v c)
  in_starts (t ∷ ts) v c m = elim (in_append (map elem_of (held_in t tables)) (flat_map (λ (u : TableNo). map elem_of (held_in u tables)) ts) v c) [
    | inl l ↦ in_left (starts_in tables path t) (flat_map (starts_in tables path) ts) v
        (subst (λ b. Contains (cond b (map elem_of (held_in t tables)) []) v) (sym (ap (may_begin path) (sym (in_table t tables v l)) ∙ m)) l)
    | inr r ↦ in_right (starts_in tables path t) (flat_map (starts_in tables path) ts) v (in_starts ts v r m)
  ]

-- the first node admits the table of the first vertex
first_admits : (g : Graph) (parts : List CPart) (v : ElemId) (cuts : List (List (List Hop))) → Fits g parts v cuts → admits_first parts v.table ≡ true
first_admits g [] v cuts f = refl
first_admits g (Edge arrow filler quant ∷ parts) v cuts f = refl
first_admits g (Group nodes arrows edges condition quant ∷ parts) v cuts f = refl
first_admits g (Node filler ∷ parts) v [] f = absurd f
first_admits g (Node filler ∷ parts) v ([] ∷ cuts) f = absurd (let e : 0 ≡ 1 = f.0 in omega arith)
first_admits g (Node filler ∷ parts) v ((hops ∷ rounds) ∷ cuts) f = eq-eqb (bit_at filler.tables.0 v.table.0) 1 f.1.0.0.0

pub are_starts : (shapes : Shapes) (tables : Tables) (path : CheckedPath) → IsSoundPath shapes path → IsInOrder tables → AreStarts shapes tables path (flat_map (starts_in tables path) path.graph.vertices)
are_starts shapes tables path sound order = record {
  distinct = distinct_starts tables path order path.graph.vertices (left_of path.graph.vertices (edge_tables shapes path.graph) sound.graph.differ);
  whole = λ b a. in_starts tables path order path.graph.vertices b.start a.binding.start (first_admits (graph_of shapes path.graph tables) path.parts b.start a.binding.cuts a.binding.fits);
}
