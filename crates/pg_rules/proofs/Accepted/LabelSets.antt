-- The set of a label expression has the tables whose labels meet it.
use Rattle.std.proofs.Common.{◌≡◌, ◌==◌, ℕ, Bool, true, false, cond, refl, ap, sym, ◌∙◌, subst, arith, eq-eqb, List, [], ◌∷◌, map, Contains, inl, inr, Some, find}
use Rattle.std.proofs.lemmas.Bool.{eqb-true}
use Rattle.std.specs.Int.{bit_at}
use Rattle.std.specs.List.{filter}
use Rattle.pg_value.specs.declared.shape.TableNo.{TableNo}
use Rattle.pg_value.specs.declared.shape.GraphNo.{GraphNo}
use Rattle.pg_ast.specs.Trees.{LabelTree}
use Rattle.pg_meaning.specs.LabelSets.{admits}
use Rattle.pg_meaning.specs.Members.{in_nil, in_cons, in_here, in_there, in_left, in_right, in_map, from_map, from_any, in_filter}
use Rattle.pg_rules.specs.declared.entry.ElementEntry.{ElementEntry}
use Rattle.pg_rules.specs.declared.entry.EdgeEntry.{EdgeEntry}
use Rattle.pg_rules.specs.declared.entry.GraphEntry.{GraphEntry}
use Rattle.pg_rules.specs.Catalog.{Defined}
use Rattle.pg_rules.specs.Catalog.LookUps.{table_number}
use Rattle.pg_rules.specs.Catalog.GraphLookUps.{bit, has_number, is_table, elements_in, of_sort, tables_of, graph_numbered}
use Rattle.pg_rules.specs.Catalog.Sound.{IsSoundGraph}
use Rattle.pg_rules.specs.Catalog.SoundDefinitions.{IsCatalog}
use Rattle.pg_rules.specs.Definitions.Graphs.{labels_in}
use Rattle.pg_rules.specs.Queries.CheckedQueries.{set_of}
use Rattle.pg_rules.specs.Queries.TableSets.{labels_found, labels_at, SetsAreOf}
use Rattle.pg_rules.proofs.KeptSound.Lists.{some_item, true_false}
use Rattle.pg_rules.proofs.Accepted.TableSets.{set_made, set_only, small_have}
use Rattle.pg_rules.proofs.Accepted.Properties.{found_item, item_found, one_item, graph_at_sound}

bit_true : (b : Bool) → bit b ≡ 1 → b ≡ true
bit_true true h = refl
bit_true false h = absurd (omega (arith, h))

-- an element table of one sort is one of the graph
of_graph : (g : GraphEntry) (edges : Bool) (e : ElementEntry) → Contains (of_sort g edges) e → Contains (elements_in g) e
of_graph g true e c = in_right g.vertices (map (λ (k : EdgeEntry). k.element) g.edges) e c
of_graph g false e c = in_left g.vertices (map (λ (k : EdgeEntry). k.element) g.edges) e c

kept_step : {X : Type 0} (test : X → Bool) (y : X) (ys : List X) (x : X) (b : Bool) → test y ≡ b → test x ≡ true → (Contains ys x → Contains (filter test ys) x) → Contains (y ∷ ys) x
    → Contains (cond b (y ∷ filter test ys) (filter test ys)) x
kept_step test y ys x true e h rest c = elim (in_cons y ys x c) [ inl s ↦ in_here y (filter test ys) x s | inr r ↦ in_there y (filter test ys) x (rest r) ]
kept_step test y ys x false e h rest c = elim (in_cons y ys x c) [ inl s ↦ absurd (true_false (sym h ∙ ap test (sym s) ∙ e)) | inr r ↦ rest r ]

-- an item that passes a test stays
kept : {X : Type 0} (test : X → Bool) (xs : List X) (x : X) → Contains xs x → test x ≡ true → Contains (filter test xs) x
kept test [] x c h = absurd (in_nil x c)
kept test (y ∷ xs) x c h = kept_step test y xs x (test y) refl h (λ r. kept test xs x r h) c

module _ (d : Defined) (g : GraphNo) (edges : Bool) (x : LabelTree) (catalog : IsCatalog d) where
  abbrev entry : GraphEntry
  entry = graph_numbered d.1 g

  abbrev es : List ElementEntry
  es = of_sort entry edges

  abbrev meets : ElementEntry → Bool
  meets e = admits (labels_in e) x

  -- an element table is the one that its number finds
  is_found : (e : ElementEntry) → Contains es e → find (is_table e.table) es ≡ Some e
  is_found e c =
      let s : IsSoundGraph d.0 entry = graph_at_sound d.0 d.1 g.0 catalog.sound.graphs in
      let f = item_found (is_table e.table) es e c (eq-eqb e.table.0 e.table.0 refl) in
      let i = found_item (is_table e.table) es f.0 f.1 in
      let same : f.0 ≡ e = one_item (λ (k : ElementEntry). k.table) (elements_in entry) f.0 e s.differ (of_graph entry edges f.0 i.0) (of_graph entry edges e c) (ap table_number (eqb-true f.0.table.0 e.table.0 i.1)) in
      f.1 ∙ ap Some same

  labels_are : (e : ElementEntry) → Contains es e → labels_at es e.table ≡ labels_in e
  labels_are e c = ap labels_found (is_found e c)

  to_tables : (t : TableNo) → bit_at (set_of (tables_of d g edges x)).0 t.0 ≡ 1 → Contains (map (λ (e : ElementEntry). e.table) es) t × (admits (labels_at es t) x ≡ true)
  to_tables t h =
      let has : has_number t.0 (tables_of d g edges x) ≡ true = bit_true (has_number t.0 (tables_of d g edges x)) (sym (set_made (tables_of d g edges x) (small_have d g edges x catalog.small) t.0) ∙ h) in
      let u = from_any (λ (n : ℕ). n == t.0) (tables_of d g edges x) has in
      let e = from_map (λ (k : ElementEntry). k.table.0) (filter meets es) u.0 u.1 in
      let i = in_filter meets es e.0 e.1 in
      let same : e.0.table ≡ t = ap table_number (e.2 ∙ eqb-true u.0 t.0 u.2) in (
        subst (λ k. Contains (map (λ (e : ElementEntry). e.table) es) k) same (in_map (λ (k : ElementEntry). k.table) es e.0 i.0),
        subst (λ k. admits (labels_at es k) x ≡ true) same (ap (λ ls. admits ls x) (labels_are e.0 i.0) ∙ i.1),
      )

  from_tables : (t : TableNo) → Contains (map (λ (e : ElementEntry). e.table) es) t × (admits (labels_at es t) x ≡ true) → bit_at (set_of (tables_of d g edges x)).0 t.0 ≡ 1
  from_tables t h =
      let e = from_map (λ (k : ElementEntry). k.table) es t h.0 in
      let own : meets e.0 ≡ true = ap (λ ls. admits ls x) (sym (labels_are e.0 e.1) ∙ ap (labels_at es) e.2) ∙ h.1 in
      let among : Contains (tables_of d g edges x) e.0.table.0 = in_map (λ (k : ElementEntry). k.table.0) (filter meets es) e.0 (kept meets es e.0 e.1 own) in
      let has : has_number t.0 (tables_of d g edges x) ≡ true = some_item (λ (n : ℕ). n == t.0) (tables_of d g edges x) e.0.table.0 among (eq-eqb e.0.table.0 t.0 (ap (λ (k : TableNo). k.0) e.2)) in
      set_made (tables_of d g edges x) (small_have d g edges x catalog.small) t.0 ∙ ap bit has

pub sets_are_of : SetsAreOf
sets_are_of = record {
  made = set_made;
  only = set_only;
  small = small_have;
  labels = λ d g edges x catalog t. (to_tables d g edges x catalog t, from_tables d g edges x catalog t);
}
