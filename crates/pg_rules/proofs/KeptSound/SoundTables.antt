-- A table's definition that is accepted defines a sound table.
use Rattle.std.proofs.Common.{◌≡◌, ◌+◌, ◌≤◌, ℕ, zero, suc, Bool, true, false, not, ◌||◌, cond, refl, ap, sym, ◌∙◌, subst, arith, List, [], ◌∷◌, ◌++◌, map, length, Contains}
use Rattle.std.proofs.lemmas.List.{length-map}
use Rattle.std.specs.Prelude.{slice_get}
use Rattle.std.specs.List.{flat_map, position_from}
use Rattle.std.specs.Str.{bytes_eq}
use Rattle.std.specs.declared.option.Option.{Option}
use Rattle.std.specs.declared.option.Option.TheVariants.{Some, None}
use Rattle.pg_ast.specs.declared.expr.Name.{Name}
use Rattle.pg_ast.specs.declared.define.TableDef.{TableDef}
use Rattle.pg_ast.specs.declared.define.ColumnDef.{ColumnDef}
use Rattle.pg_rules.specs.declared.entry.ColumnEntry.{ColumnEntry}
use Rattle.pg_rules.specs.declared.fault.DefineFault.TheVariants as faults
use Rattle.pg_rules.specs.Places.{least, place_if}
use Rattle.pg_rules.specs.Catalog.{Defined}
use Rattle.pg_rules.specs.Catalog.Sound.{IsKeyColumn, IsSoundTable}
use Rattle.pg_rules.specs.Definitions.Tables.{table_fault, is_defined, is_full, name_taken, no_column, key_mismatch, limit, names, texts, member, unknown, repeats, beyond, too_long_column, entry_of, columns_of, column_of, key_of, is_named, place_of}
use Rattle.pg_rules.proofs.KeptSound.EmptyPlaces.{left_nil, right_nil, each_nil, no_place, no_fault, no_least, is_not}
use Rattle.pg_rules.proofs.KeptSound.Lists.{each_at, each_mapped, some_item, bytes_same, distinct_named}
use Rattle.pg_rules.proofs.KeptSound.Columns.{IsColumn, is_column, one_column}

-- A NAME OF A COLUMN

placed_step : (text : List ℕ) (from : ℕ) (b : Bool) (rest : Bool) (later : Option ℕ) → (rest ≡ true → (p : ℕ) × (later ≡ Some p)) → (b || rest) ≡ true → (p : ℕ) × (cond b (Some from) later ≡ Some p)
placed_step text from true rest later go h = (from, refl)
placed_step text from false rest later go h = go h

placed_from : (key : List Name) (cs : List ColumnDef) (text : List ℕ) (from : ℕ) → member text (texts cs) ≡ true
    → (p : ℕ) × (position_from (bytes_eq text) from (map (λ (c : ColumnEntry). c.name) (map (column_of key) cs)) ≡ Some p)
placed_from key [] text from h = absurd (cc)
placed_from key (c ∷ cs) text from h =
    placed_step text from (bytes_eq text c.name.text) (member text (texts cs)) (position_from (bytes_eq text) (from + 1) (map (λ (c : ColumnEntry). c.name) (map (column_of key) cs)))
    (placed_from key cs text (from + 1)) h

-- what stands in a list's image is an item's
stands_of : {X Y : Type 0} (f : X → Y) (xs : List X) (i : ℕ) (y : Y) → slice_get (map f xs) i ≡ Some y → (x : X) × (f x ≡ y)
stands_of f [] i y h = absurd (cc)
stands_of f (x ∷ xs) zero y h = (x, cc)
stands_of f (x ∷ xs) (suc i) y h = stands_of f xs i y h

or_true : (a b : Bool) → b ≡ true → (a || b) ≡ true
or_true true b h = refl
or_true false b h = h

module _ (t : TableDef) where
  abbrev key : List Name
  key = key_of t.keys

  known_column : (n : Name) → unknown (texts t.columns) key ≡ [] → Contains key n → IsColumn (columns_of t) n
  known_column n h c =
      let here : place_if (not (member n.text (texts t.columns))) n.at ≡ [] =
      each_at (λ (m : Name). place_if (not (member m.text (texts t.columns))) m.at ≡ []) key n (each_nil (λ (m : Name). place_if (not (member m.text (texts t.columns))) m.at) key h) c in
      let known : member n.text (texts t.columns) ≡ true = is_not (member n.text (texts t.columns)) (no_place (not (member n.text (texts t.columns))) n.at here) in
      let place = placed_from key t.columns n.text 0 known in
      is_column (columns_of t) n place.0 place.1

  -- a column that the key names is NOT NULL
  key_column : (n : Name) → unknown (texts t.columns) key ≡ [] → Contains key n → IsKeyColumn (columns_of t) (place_of (columns_of t) n)
  key_column n h c =
      let found : IsColumn (columns_of t) n = known_column n h c in
      let def : (x : ColumnDef) × (column_of key x ≡ found.column) = stands_of (column_of key) t.columns (place_of (columns_of t) n) found.column found.stands in
      let same : n.text ≡ def.0.name.text = found.named ∙ sym (ap (λ (e : ColumnEntry). e.name) def.1) in
      let among : is_named key def.0.name.text ≡ true = some_item (λ (m : Name). bytes_eq m.text def.0.name.text) key n c (bytes_same n.text def.0.name.text same) in
      record {
        column = found.column;
        stands = found.stands;
        not_null = sym (ap (λ (e : ColumnEntry). e.shape.not_null) def.1) ∙ or_true def.0.not_null (is_named key def.0.name.text) among;
      }

-- THE KEY

-- what has no place in any key has none in the first
in_first : (f : List Name → List ℕ) (keys : List (List Name)) → f [] ≡ [] → flat_map f keys ≡ [] → f (key_of keys) ≡ []
in_first f [] e h = e
in_first f (k ∷ ks) e h = left_nil (f k) (flat_map f ks) h

at_most : (ns : List Name) (most : ℕ) → beyond most ns ≡ [] → length ns ≤ most
at_most [] most h = omega arith
at_most (n ∷ ns) zero h = absurd (omega (arith, ap length h))
at_most (n ∷ ns) (suc most) h = let r = at_most ns most h in omega arith

key_sound : (t : TableDef) → repeats (key_of t.keys) ≡ [] → unknown (texts t.columns) (key_of t.keys) ≡ [] → beyond 4 (key_of t.keys) ≡ [] → IsSoundTable (entry_of t)
key_sound t once known few = record {
  short = subst (λ n. n ≤ 4) (sym (length-map (key_of t.keys) (place_of (columns_of t)))) (at_most (key_of t.keys) 4 few);
  differ = distinct_named (place_of (columns_of t)) (key_of t.keys) (λ a b c e. one_column (columns_of t) a b (known_column t a known c) (known_column t b known e)) once;
  key = each_mapped (place_of (columns_of t)) (IsKeyColumn (columns_of t)) (key_of t.keys) (λ n c. key_column t n known c);
}

pub table_sound : (d : Defined) (t : TableDef) → table_fault d t ≡ None → IsSoundTable (entry_of t)
table_sound d t h =
    let first = no_fault faults.NameTaken (least (name_taken (is_defined d t.name.text) t)) _ h in
    let second = no_fault faults.NoColumn (least (no_column t)) _ first.1 in
    let third = no_fault faults.KeyMismatch (least (key_mismatch t)) _ second.1 in
    let fourth = no_fault faults.Limit (least (limit (is_full d) t)) _ third.1 in
    let taken : name_taken (is_defined d t.name.text) t ≡ [] = no_least (name_taken (is_defined d t.name.text) t) first.0 in
    let unknowns : no_column t ≡ [] = no_least (no_column t) second.0 in
    let over : limit (is_full d) t ≡ [] = no_least (limit (is_full d) t) fourth.0 in
    let long : List ℕ = flat_map too_long_column t.columns in
    let wide : List ℕ = flat_map (beyond 4) t.keys ++ long in
    key_sound t
    (in_first repeats t.keys refl (right_nil (repeats (names t.columns)) (flat_map repeats t.keys) (right_nil (place_if (is_defined d t.name.text) t.name.at) (repeats (names t.columns) ++ flat_map repeats t.keys) taken)))
    (in_first (unknown (texts t.columns)) t.keys refl unknowns)
    (in_first (beyond 4) t.keys refl (left_nil (flat_map (beyond 4) t.keys) long (right_nil (beyond 32 (names t.columns)) wide (right_nil (place_if (is_full d) t.at) (beyond 32 (names t.columns) ++ wide) over))))
