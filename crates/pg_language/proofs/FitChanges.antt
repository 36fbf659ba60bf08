-- What an INSERT, an UPDATE or a DELETE that is not refused writes fits, where no row has a fault.
use Rattle.std.proofs.Common.{ℕ, zero, suc, ◌≡◌, ◌+◌, ◌<◌, Bool, true, false, cond, refl, ap, ap₂, sym, subst, ◌∙◌, List, [], ◌∷◌, ◌++◌, map, length, get_or, arith, inl, inr, eq-eqb}
use Rattle.std.specs.Prelude.{not, ◌==◌, ◌||◌, is_some, slice_get, find, Option, Some, None}
use Rattle.std.specs.Option.{option_map, option_and_then, unwrap_or}
use Rattle.std.specs.List.{flat_map, AllZip}
use Rattle.std.proofs.lemmas.Bool.{eqb-true}
use Rattle.std.proofs.lemmas.List.FromFn.{length-map-range_with_len, get_or-map-range_with_len}
use Rattle.std.proofs.lemmas.Option.{none-some, same_Some, slice_get-map, slice_get_within, get_or_from_slice_get}
use Rattle.pg_keyed.specs.Lists.{Each, Among, each_among, each_of, each_both, each_filter, each_kept, each_map}
use Rattle.pg_keyed.specs.Puts.{merge_each}
use Rattle.pg_value.specs.Order.{place_cmp}
use Rattle.pg_value.specs.Orders.{places}
use Rattle.pg_value.specs.Writes.{named, merge}
use Rattle.pg_value.specs.declared.value.Kind.{Kind}
use Rattle.pg_value.specs.declared.value.Value.{Value}
use Rattle.pg_value.specs.declared.value.Value.TheVariants.{Null}
use Rattle.pg_value.specs.declared.row.Key.{Key}
use Rattle.pg_value.specs.declared.row.Row.{Row}
use Rattle.pg_value.specs.declared.shape.TableNo.{TableNo}
use Rattle.pg_value.specs.declared.shape.ColumnShape.{ColumnShape}
use Rattle.pg_value.specs.declared.shape.TableShape.{TableShape}
use Rattle.pg_value.specs.declared.shape.Shapes.{Shapes}
use Rattle.pg_value.specs.declared.write.Write.{Write}
use Rattle.pg_value.specs.Tables.{Stored, Tables as Held, held_in, pick, FitsColumn, FitsKey, FitsBoth, FitsStored, FitTables, FitsWrite, FitWrites}
use Rattle.pg_ast.specs.declared.expr.Name.{Name}
use Rattle.pg_ast.specs.declared.expr.Whole.{Whole}
use Rattle.pg_ast.specs.declared.statement.InsertTuple.{InsertTuple}
use Rattle.pg_ast.specs.declared.statement.SetItem.{SetItem}
use Rattle.pg_ast.specs.declared.statement.Update.{Update}
use Rattle.pg_ast.specs.Trees.{tree_of, ColumnOf}
use Rattle.pg_meaning.specs.declared.checked.CExpr.{CExpr}
use Rattle.pg_meaning.specs.declared.checked.CheckedSet.{CheckedSet}
use Rattle.pg_meaning.specs.Meaning.{OfRow, column_of}
use Rattle.pg_meaning.specs.Sound.Changes as checked
use Rattle.pg_meaning.specs.Sound.Kinds.{OfColumns, column_kind}
use Rattle.pg_meaning.specs.Typing.{no_names, kind_of, may_be, value_kind}
use Rattle.pg_rules.specs.declared.entry.ColumnEntry.{ColumnEntry}
use Rattle.pg_rules.specs.declared.entry.TableEntry.{TableEntry}
use Rattle.pg_rules.specs.declared.fault.ResolveFault.{ResolveFault}
use Rattle.pg_rules.specs.declared.fault.ResolveFault.TheVariants as resolve
use Rattle.pg_rules.specs.Catalog.{Tables, Defined}
use Rattle.pg_rules.specs.Catalog.LookUps.{column_place, table_in, table_named, columns_named, key_named, columns_in as columns_found, key_in}
use Rattle.pg_rules.specs.Catalog.Shapes.{shapes, table_shape, table_shapes}
use Rattle.pg_rules.specs.Catalog.Sound.{IsKeyColumn, IsSoundTable, IsSound}
use Rattle.pg_rules.specs.Places.{place_if, first_fault, least, no_fault, no_least}
use Rattle.pg_rules.specs.Definitions.Entries.{kind_at, kind_in, number_of}
use Rattle.pg_rules.specs.Definitions.Tables.{place_of}
use Rattle.pg_rules.specs.Definitions.Graphs.{no_such}
use Rattle.pg_rules.specs.ExprFaults.{types_at}
use Rattle.pg_rules.specs.Changes.{Change, OfInsert, OfUpdate, OfDelete, table_of, columns_in, named_in, names_in, no_column, column_twice, count, key_update, is_place, names_of, wrong_set, types, wide, change_fault, resolved_set, resolved_condition, resolved_change}
use Rattle.pg_rules.specs.Changes.InsertJudgement.{targets, wrong_value, wrong_values, resolved, resolved_tuple}
use Rattle.pg_rules.specs.Changes.InsertEffect.{plain_value, given, row_of, write_of, column_fault}
use Rattle.pg_rules.specs.Changes.ChangeEffect.{Context, IsDone, taken, takes, value_set, updated, update_of, delete_of, proposed, columns_fault, with_writes, fault_behind}
use Rattle.pg_rules.specs.Resolving.{ResolvingKeeps, shapes_of}
use Rattle.pg_language.proofs.ValueKinds.{false_true, may_be_own, column_kept, kind_kept}
use Rattle.pg_language.proofs.FitRows.{or_none, Stands, HasKinds, row_fits, key_fits}

-- LISTS

-- what holds of an item wherever the list is cut holds of each
each_cut : {X : Type 0} (P : X → Type 0) (xs : List X) → ((front back : List X) (x : X) → xs ≡ front ++ x ∷ back → P x) → Each P xs
each_cut P [] h = tt
each_cut P (x ∷ xs) h = (h [] xs x refl, each_cut P xs (λ front back y e. h (x ∷ front) back y (ap (λ l. x ∷ l) e)))

append_none : (ps qs : List ℕ) → ps ++ qs ≡ [] → (ps ≡ []) × (qs ≡ [])
append_none [] qs h = (refl, h)
append_none (p ∷ ps) qs h = absurd cc

flat_none : {X : Type 0} (f : X → List ℕ) (xs : List X) → flat_map f xs ≡ [] → Each (λ x. f x ≡ []) xs
flat_none f [] h = tt
flat_none f (x ∷ xs) h = let r = append_none (f x) (flat_map f xs) h in (r.0, flat_none f xs r.1)

each_front : {X : Type 0} (P : X → Type 0) (xs ys : List X) → Each P (xs ++ ys) → Each P xs × Each P ys
each_front P [] ys h = (tt, h)
each_front P (x ∷ xs) ys h = let r = each_front P xs ys h.1 in ((h.0, r.0), r.1)

each_flat : {X Y : Type 0} (P : Y → Type 0) (f : X → List Y) (xs : List X) → Each P (flat_map f xs) → Each (λ x. Each P (f x)) xs
each_flat P f [] h = tt
each_flat P f (x ∷ xs) h = let r = each_front P (f x) (flat_map f xs) h in (r.0, each_flat P f xs r.1)

zip_many : {X Y : Type 0} (R : X → Y → Type 0) (xs : List X) (ys : List Y) → AllZip R xs ys → length xs ≡ length ys
zip_many R [] [] h = refl
zip_many R [] (y ∷ ys) h = absurd h
zip_many R (x ∷ xs) [] h = absurd h
zip_many R (x ∷ xs) (y ∷ ys) h = ap suc (zip_many R xs ys h.1)

-- NO PLACE

no_place : (b : Bool) (at : ℕ) → place_if b at ≡ [] → b ≡ false
no_place true at h = absurd cc
no_place false at h = refl

place_none : (b : Bool) (at : ℕ) → place_if (not b) at ≡ [] → b ≡ true
place_none true at h = refl
place_none false at h = absurd cc

first_none : {F : Type 0} (f : ℕ → F) (ps : List ℕ) (ks : List ((ℕ → F) × List ℕ)) → first_fault ((f, ps) ∷ ks) ≡ None → (ps ≡ []) × (first_fault ks ≡ None)
first_none f ps ks h = let r = no_fault f (least ps) (first_fault ks) h in (no_least ps r.0, r.1)

abbrev Faults : Type 0
Faults = List ((ℕ → ResolveFault) × List ℕ)

abbrev from_types : Tables → Change → Faults
from_types tables c = (resolve.Types, types tables c) ∷ (resolve.Wide, wide tables c) ∷ []

abbrev from_key : Tables → Change → Faults
from_key tables c = (resolve.KeyUpdate, key_update tables c) ∷ from_types tables c

abbrev from_count : Tables → Change → Faults
from_count tables c = (resolve.Count, count tables c) ∷ from_key tables c

abbrev from_twice : Tables → Change → Faults
from_twice tables c = (resolve.ColumnTwice, column_twice c) ∷ from_count tables c

abbrev from_column : Tables → Change → Faults
from_column tables c = (resolve.NoColumn, no_column tables c) ∷ from_twice tables c

-- a change that is not refused has no place of these kinds
record HasNoPlace (tables : Tables) (c : Change) : Type 0 where
  pub table : no_such tables (table_of c) ≡ []
  pub columns : no_column tables c ≡ []
  pub keys : key_update tables c ≡ []
  pub kinds : types tables c ≡ []

places_none : (tables : Tables) (c : Change) → change_fault tables c ≡ None → HasNoPlace tables c
places_none tables c h =
    let a = first_none resolve.NoTable (no_such tables (table_of c)) (from_column tables c) h in
    let b = first_none resolve.NoColumn (no_column tables c) (from_twice tables c) a.1 in
    let e = first_none resolve.ColumnTwice (column_twice c) (from_count tables c) b.1 in
    let f = first_none resolve.Count (count tables c) (from_key tables c) e.1 in
    let g = first_none resolve.KeyUpdate (key_update tables c) (from_types tables c) f.1 in
    let k = first_none resolve.Types (types tables c) ((resolve.Wide, wide tables c) ∷ []) g.1 in
    record { table = a.0; columns = b.0; keys = g.0; kinds = k.0 }

-- THE TABLE

some_at : {X : Type 0} (o : Option X) → is_some o ≡ true → (x : X) × (o ≡ Some x)
some_at None h = false_true h
some_at (Some x) h = (x, refl)

-- an entry of the table's name, with this shape
record Stand (tables : Tables) (name : Name) (shape : TableShape) : Type 0 where
  pub entry : List ℕ × TableEntry
  pub found : table_named tables name.text ≡ Some entry
  pub shape_is : table_shape entry.1 ≡ shape

shaped : (shape : TableShape) (o : Option (List ℕ × TableEntry)) → option_map (λ (t : List ℕ × TableEntry). table_shape t.1) o ≡ Some shape → (e : List ℕ × TableEntry) × (o ≡ Some e) × (table_shape e.1 ≡ shape)
shaped shape None h = absurd (none-some shape h)
shaped shape (Some e) h = (e, refl, same_Some (table_shape e.1) shape h)

stands : (tables : Tables) (name : Name) (shape : TableShape) → no_such tables name ≡ [] → slice_get (table_shapes tables) (number_of tables name.text).0 ≡ Some shape → Stand tables name shape
stands tables name shape exists at =
    let k = some_at (table_in tables name.text) (place_none (is_some (table_in tables name.text)) name.at exists) in
    let number : (number_of tables name.text).0 ≡ k.0 = ap (λ o. unwrap_or o 0) k.1 in
    let s = shaped shape (slice_get tables k.0) (sym (slice_get-map (λ (t : List ℕ × TableEntry). table_shape t.1) tables k.0) ∙ ap (slice_get (table_shapes tables)) (sym number) ∙ at) in
    record { entry = s.0; found = ap (option_and_then (slice_get tables)) k.1 ∙ s.1; shape_is = s.2 }

-- the columns of the table are those of its shape, and so is its key
columns_are : (tables : Tables) (name : Name) (shape : TableShape) → Stand tables name shape → shapes_of (columns_named tables name.text) ≡ shape.columns
columns_are tables name shape s = ap (λ o. shapes_of (columns_found o)) s.found ∙ ap (λ (x : TableShape). x.columns) s.shape_is

key_is : (tables : Tables) (name : Name) (shape : TableShape) → Stand tables name shape → key_named tables name.text ≡ shape.key
key_is tables name shape s = ap key_in s.found ∙ ap (λ (x : TableShape). x.key) s.shape_is

-- in a sound catalog each column of a key stands
keys_in : (columns : List ColumnEntry) (ks : List ℕ) → Each (IsKeyColumn columns) ks → Each (λ k. (c : ColumnShape) × (slice_get (shapes_of columns) k ≡ Some c)) ks
keys_in columns [] h = tt
keys_in columns (k ∷ ks) h = (
  (h.0.column.shape, slice_get-map (λ (e : ColumnEntry). e.shape) columns k ∙ ap (option_map (λ (e : ColumnEntry). e.shape)) h.0.stands),
  keys_in columns ks h.1,
)

keys_stand : (tables : Tables) (t : ℕ) (shape : TableShape) → Each (λ (x : List ℕ × TableEntry). IsSoundTable x.1) tables → slice_get (table_shapes tables) t ≡ Some shape → Each (Stands shape) shape.key
keys_stand [] t shape s at = absurd (none-some shape at)
keys_stand (x ∷ tables) zero shape s at = subst (λ (y : TableShape). Each (Stands y) y.key) (same_Some (table_shape x.1) shape at) (keys_in x.1.columns x.1.key s.0.key)
keys_stand (x ∷ tables) (suc t) shape s at = keys_stand tables t shape s.1 at

-- the kind of a column is that of its shape
kind_same : (o : Option ColumnEntry) (c : ColumnShape) → option_map (λ (e : ColumnEntry). e.shape) o ≡ Some c → kind_in o ≡ c.kind
kind_same None c h = absurd (none-some c h)
kind_same (Some e) c h = ap (λ (s : ColumnShape). s.kind) (same_Some e.shape c h)

kind_of_column : (columns : List ColumnEntry) (shape : TableShape) (i : ℕ) (c : ColumnShape) → shapes_of columns ≡ shape.columns → slice_get shape.columns i ≡ Some c → kind_at columns i ≡ c.kind
kind_of_column columns shape i c same e =
    kind_same (slice_get columns i) c (sym (slice_get-map (λ (e : ColumnEntry). e.shape) columns i) ∙ ap (λ cs. slice_get cs i) same ∙ e)

-- INSERT

abbrev nothing_read : Row
nothing_read = record { values = [] }

-- any name
abbrev IsName : Name → Type 0
IsName n = Unit {0}

are_names : (ns : List Name) → Each IsName ns
are_names [] = tt
are_names (n ∷ ns) = (tt, are_names ns)

abbrev value : Whole → Value
value w = plain_value (resolved [] (tree_of w.expr))

abbrev values_of : List Whole → List Value
values_of ws = map plain_value (map (λ w. resolved [] (tree_of w.expr)) ws)

value_typed : (kind : Kind) (w : Whole) → wrong_value kind w ≡ [] → may_be kind (value_kind (value w)) ≡ true
value_typed kind w h =
    kind_kept [] no_names nothing_read IsName (λ n k s t. refl) kind (tree_of w.expr) (are_names (columns_in (tree_of w.expr)))
    (place_none (may_be kind (kind_of no_names (tree_of w.expr))) w.at (append_none (place_if (not (may_be kind (kind_of no_names (tree_of w.expr)))) w.at) (types_at no_names (tree_of w.expr)) h).0)

-- what a column is given has its kind
given_kind : (columns : List ColumnEntry) (ts : List ℕ) (ws : List Whole) (column : ℕ) → wrong_values columns ts ws ≡ [] → may_be (kind_at columns column) (value_kind (given ts (values_of ws) column)) ≡ true
given_kind columns [] ws column h = refl
given_kind columns (t ∷ ts) [] column h = refl
given_kind columns (t ∷ ts) (w ∷ ws) column h = go (t == column) refl (given_kind columns ts ws column (append_none (wrong_value (kind_at columns t) w) (wrong_values columns ts ws) h).1)
  where
    first : may_be (kind_at columns t) (value_kind (value w)) ≡ true
    first = value_typed (kind_at columns t) w (append_none (wrong_value (kind_at columns t) w) (wrong_values columns ts ws) h).0

    go : (b : Bool) → (t == column) ≡ b → may_be (kind_at columns column) (value_kind (given ts (values_of ws) column)) ≡ true → may_be (kind_at columns column) (value_kind (cond b (value w) (given ts (values_of ws) column))) ≡ true
    go true e rest = subst (λ k. may_be (kind_at columns k) (value_kind (value w)) ≡ true) (eqb-true t column e) first
    go false e rest = rest

module _ (shape : TableShape) (columns : List ColumnEntry) (same : shapes_of columns ≡ shape.columns) (goals : List ℕ) where
  abbrev row : InsertTuple → Row
  row t = row_of shape goals (resolved_tuple t)

  row_many : (t : InsertTuple) → length (row t).values ≡ length shape.columns
  row_many t = length-map-range_with_len (given goals (values_of t.values)) 0 (length shape.columns)

  row_has : (t : InsertTuple) → wrong_values columns goals t.values ≡ [] → HasKinds shape (row t)
  row_has t typed i c v e f =
      let first : 0 + i ≡ i = omega arith in
      let inside : i < length shape.columns = omega (arith, slice_get_within (row t).values i v f, row_many t) in
      let is : v ≡ given goals (values_of t.values) i =
      sym (get_or_from_slice_get (row t).values i v Null f)
      ∙ get_or-map-range_with_len (given goals (values_of t.values)) 0 (length shape.columns) i (0 + i) Null inside refl
      ∙ ap (given goals (values_of t.values)) first in
      ap (λ x. may_be c.kind (value_kind x)) is ∙ ap (λ k. may_be k (value_kind (given goals (values_of t.values) i))) (sym (kind_of_column columns shape i c same e)) ∙ given_kind columns goals t.values i typed

  module _ (all : Shapes) (table : TableNo) (at : slice_get all.tables table.0 ≡ Some shape) (keys : Each (Stands shape) shape.key) where
    abbrev written : List CExpr → Write
    written tuple = write_of table shape (row_of shape goals tuple)

    inserts_fit : (ts : List InsertTuple) → Each (λ t. wrong_values columns goals t.values ≡ []) ts → Each (λ w. columns_fault shape w.row ≡ None) (map written (map resolved_tuple ts)) → Each (FitsWrite all) (map written (map resolved_tuple ts))
    inserts_fit [] typed right = tt
    inserts_fit (t ∷ ts) typed right = (
      (shape, at, key_fits shape (row t) (row_many t) (row_has t typed.0) right.0 keys, (row_fits shape (row t) (row_many t) (row_has t typed.0) right.0, refl)),
      inserts_fit ts typed.1 right.1,
    )

-- SET

own_kind : (columns : List ColumnEntry) (i : ℕ) → may_be (kind_at columns i) (column_kind (OfColumns (shapes_of columns)) i) ≡ true
own_kind [] i = refl
own_kind (c ∷ cs) zero = may_be_own c.shape.kind
own_kind (c ∷ cs) (suc i) = own_kind cs i

-- a place that is none of these differs from each of them
differs : (ks : List ℕ) (k place : ℕ) → is_place place ks ≡ false → Among k ks → (place == k) ≡ false
differs [] k place h a = absurd a
differs (j ∷ ks) k place h (inl e) = go (place == k) refl
  where
    go : (b : Bool) → (place == k) ≡ b → b ≡ false
    go true q = absurd (let p : (j == place) ≡ true = eq-eqb j place (sym e ∙ sym (eqb-true place k q)) in let r : ((j == place) || is_place place ks) ≡ true = ap (λ x. x || is_place place ks) p in let t : true ≡ false = sym r ∙ h in cc)
    go false q = refl
differs (j ∷ ks) k place h (inr a) = differs ks k place (later (j == place) (is_place place ks) h) a
  where
    later : (x y : Bool) → (x || y) ≡ false → y ≡ false
    later true y e = absurd cc
    later false y e = e

picks : (ks : List ℕ) (us vs : List Value) → Each (λ k. get_or us k Null ≡ get_or vs k Null) ks → pick ks us ≡ pick ks vs
picks [] us vs h = refl
picks (k ∷ ks) us vs h = ap₂ ◌∷◌ h.0 (picks ks us vs h.1)

module _ (columns : List ColumnEntry) (law : ResolvingKeeps) where
  abbrev IsColumn : Name → Type 0
  IsColumn n = is_some (column_place columns n.text) ≡ true

  -- the names in the value of SET stand, and it has the kind of its column
  abbrev IsRightSet : SetItem → Type 0
  IsRightSet s = Each IsColumn (columns_in (tree_of s.value.expr)) × (may_be (kind_at columns (place_of columns s.column)) (kind_of (names_of columns) (tree_of s.value.expr)) ≡ true)

  abbrev sets : List SetItem → List CheckedSet
  sets ss = map (resolved_set columns) ss

  abbrev set_at : List SetItem → ℕ → Option CheckedSet
  set_at ss i = find (λ s. s.column == i) (sets ss)

  unset : (ss : List SetItem) (k : ℕ) → Each (λ s. (place_of columns s.column == k) ≡ false) ss → set_at ss k ≡ None
  unset [] k h = refl
  unset (s ∷ ss) k h = ap (λ b. cond b (Some (resolved_set columns s)) (set_at ss k)) h.0 ∙ unset ss k h.1

  module _ (row : Row) (fits : AllZip FitsColumn (shapes_of columns) row.values) where
    reads : (n : Name) (kind : Kind) → IsColumn n → may_be kind (kind_of (names_of columns) (ColumnOf n)) ≡ true → may_be kind (value_kind (column_of (OfRow row) (place_of columns n))) ≡ true
    reads n kind s h = column_kept (shapes_of columns) row.values (place_of columns n) kind fits (ap (may_be kind) (law.kind columns (ColumnOf n) tt s) ∙ h)

    old_kept : (i : ℕ) → may_be (kind_at columns i) (value_kind (get_or row.values i Null)) ≡ true
    old_kept i = column_kept (shapes_of columns) row.values i (kind_at columns i) fits (own_kind columns i)

    set_kept : (ss : List SetItem) (i : ℕ) → Each IsRightSet ss → may_be (kind_at columns i) (value_kind (value_set (set_at ss i) row (get_or row.values i Null))) ≡ true
    set_kept [] i right = old_kept i
    set_kept (s ∷ ss) i right = go (place_of columns s.column == i) refl (set_kept ss i right.1)
      where
        go : (b : Bool) → (place_of columns s.column == i) ≡ b → may_be (kind_at columns i) (value_kind (value_set (set_at ss i) row (get_or row.values i Null))) ≡ true
            → may_be (kind_at columns i) (value_kind (value_set (cond b (Some (resolved_set columns s)) (set_at ss i)) row (get_or row.values i Null))) ≡ true
        go true e rest =
            subst (λ k. may_be (kind_at columns k) (value_kind (value_set (Some (resolved_set columns s)) row (get_or row.values i Null))) ≡ true) (eqb-true (place_of columns s.column) i e)
            (kind_kept columns (names_of columns) row IsColumn reads (kind_at columns (place_of columns s.column)) (tree_of s.value.expr) right.0.0 right.0.1)
        go false e rest = rest

    abbrev new_at : List SetItem → ℕ → Value
    new_at ss i = value_set (set_at ss i) row (get_or row.values i Null)

    new_many : (ss : List SetItem) → length (updated (sets ss) row).values ≡ length row.values
    new_many ss = length-map-range_with_len (new_at ss) 0 (length row.values)

    new_is : (ss : List SetItem) (i : ℕ) → i < length row.values → get_or (updated (sets ss) row).values i Null ≡ new_at ss i
    new_is ss i inside =
        let first : 0 + i ≡ i = omega arith in
        get_or-map-range_with_len (new_at ss) 0 (length row.values) i (0 + i) Null inside refl ∙ ap (new_at ss) first

    module _ (shape : TableShape) (same : shapes_of columns ≡ shape.columns) (ss : List SetItem) where
      row_length : length row.values ≡ length shape.columns
      row_length = sym (zip_many FitsColumn (shapes_of columns) row.values fits) ∙ ap length same

      new_has : Each IsRightSet ss → HasKinds shape (updated (sets ss) row)
      new_has right i c v e f =
          let inside : i < length row.values = omega (arith, slice_get_within (updated (sets ss) row).values i v f, new_many ss) in
          let is : v ≡ new_at ss i = sym (get_or_from_slice_get (updated (sets ss) row).values i v Null f) ∙ new_is ss i inside in
          ap (λ x. may_be c.kind (value_kind x)) is ∙ ap (λ k. may_be k (value_kind (new_at ss i))) (sym (kind_of_column columns shape i c same e)) ∙ set_kept ss i right

      same_at : (k : ℕ) → Stands shape k → Each (λ s. (place_of columns s.column == k) ≡ false) ss → get_or (updated (sets ss) row).values k Null ≡ get_or row.values k Null
      same_at k s none =
          let inside : k < length row.values = omega (arith, slice_get_within shape.columns k s.0 s.1, row_length) in
          new_is ss k inside ∙ ap (λ o. value_set o row (get_or row.values k Null)) (unset ss k none)

      same_key : Each (Stands shape) shape.key → Each (λ s. is_place (place_of columns s.column) shape.key ≡ false) ss → pick shape.key (updated (sets ss) row).values ≡ pick shape.key row.values
      same_key keys none = picks shape.key (updated (sets ss) row).values row.values
          (each_of (λ k. get_or (updated (sets ss) row).values k Null ≡ get_or row.values k Null) shape.key
          (λ k a. same_at k (each_among (Stands shape) k shape.key keys a)
          (each_map (λ s. is_place (place_of columns s.column) shape.key ≡ false) (λ s. (place_of columns s.column == k) ≡ false) (λ s h. differs shape.key k (place_of columns s.column) h a) ss none)))

      new_both : (key : Key) → Each IsRightSet ss → Each (Stands shape) shape.key → Each (λ s. is_place (place_of columns s.column) shape.key ≡ false) ss
          → pick shape.key row.values ≡ key.values → column_fault shape 0 shape.columns (updated (sets ss) row).values ≡ None → FitsBoth shape key (updated (sets ss) row)
      new_both key right keys none own faultless = (row_fits shape (updated (sets ss) row) (new_many ss ∙ row_length) (new_has right) faultless, same_key keys none ∙ own)

-- ROWS THAT ARE TAKEN

module _ (all : Shapes) (table : TableNo) (shape : TableShape) (at : slice_get all.tables table.0 ≡ Some shape) where
  -- a row of the table that fits it
  abbrev IsHeld : Stored → Type 0
  IsHeld s = ((s.table.0 == table.0) ≡ true) × FitsStored all s

  taken_fit : (condition : Option CExpr) (tables : Held) → FitTables all tables → Each IsHeld (taken table condition tables)
  taken_fit condition tables fit = each_filter IsHeld (λ s. takes condition s.row) (held_in table tables)
      (each_both (λ s. (s.table.0 == table.0) ≡ true) (FitsStored all) (held_in table tables) (each_kept (λ (s : Stored). s.table.0 == table.0) tables) (each_filter (FitsStored all) (λ s. s.table.0 == table.0) tables fit.each))

  shape_at : (s : Stored) → IsHeld s → slice_get all.tables s.table.0 ≡ Some shape
  shape_at s h = ap (slice_get all.tables) (eqb-true s.table.0 table.0 h.0) ∙ at

  held_fits : (s : Stored) → IsHeld s → FitsKey shape s.key × FitsBoth shape s.key s.row
  held_fits s h =
      let f = h.1 in
      let same : f.0 ≡ shape = same_Some f.0 shape (sym f.1 ∙ shape_at s h) in
      subst (λ x. FitsKey x s.key × FitsBoth x s.key s.row) same (f.2, f.3)

  deletes_fit : (xs : List Stored) → Each IsHeld xs → Each (FitsWrite all) (map delete_of xs)
  deletes_fit [] h = tt
  deletes_fit (s ∷ xs) h = ((shape, shape_at s h.0, (held_fits s h.0).0, tt), deletes_fit xs h.1)

  module _ (columns : List ColumnEntry) (law : ResolvingKeeps) (same : shapes_of columns ≡ shape.columns) (keys : Each (Stands shape) shape.key) (ss : List SetItem)
      (right : Each (IsRightSet columns law) ss) (none : Each (λ s. is_place (place_of columns s.column) shape.key ≡ false) ss) where
    update_fits : (s : Stored) → IsHeld s → columns_fault shape (Some (updated (sets columns law ss) s.row)) ≡ None → FitsWrite all (update_of (sets columns law ss) s)
    update_fits s h faultless =
        let f = held_fits s h in
        let fits : AllZip FitsColumn (shapes_of columns) s.row.values = subst (λ cs. AllZip FitsColumn cs s.row.values) (sym same) f.1.0 in
        (shape, shape_at s h, f.0, new_both columns law s.row fits shape same ss s.key right keys none f.1.1 faultless)

    updates_fit : (xs : List Stored) → Each IsHeld xs → Each (λ w. columns_fault shape w.row ≡ None) (map (update_of (sets columns law ss)) xs) → Each (FitsWrite all) (map (update_of (sets columns law ss)) xs)
    updates_fit [] h faultless = tt
    updates_fit (s ∷ xs) h faultless = (update_fits s h.0 faultless.0, updates_fit xs h.1 faultless.1)

-- UPDATE THAT IS NOT REFUSED

module _ (tables : Tables) (u : Update) (law : ResolvingKeeps) (free : HasNoPlace tables (OfUpdate u)) where
  abbrev own : List ColumnEntry
  own = columns_named tables u.table.text

  abbrev IsNamed : Name → Type 0
  IsNamed n = IsColumn own law n

  names_stand : Each IsNamed (names_in (OfUpdate u))
  names_stand = each_map (λ n. place_if (not (is_some (column_place own n.text))) n.at ≡ []) IsNamed (λ n h. place_none (is_some (column_place own n.text)) n.at h)
      (names_in (OfUpdate u)) (flat_none (λ (n : Name). place_if (not (is_some (column_place own n.text))) n.at) (names_in (OfUpdate u)) free.columns)

  abbrev set_names : SetItem → List Name
  set_names s = s.column ∷ named_in s.value

  sets_stand : Each (λ s. Each IsNamed (set_names s)) u.sets
  sets_stand = each_flat IsNamed set_names u.sets (each_front IsNamed (flat_map set_names u.sets) _ names_stand).0

  abbrev own_kinds : SetItem → Kind
  own_kinds s = kind_at own (place_of own s.column)

  sets_typed : Each (λ s. wrong_set own s ≡ []) u.sets
  sets_typed = flat_none (wrong_set own) u.sets (append_none (flat_map (wrong_set own) u.sets) _ free.kinds).0

  set_right : (s : SetItem) → Each IsNamed (set_names s) × (wrong_set own s ≡ []) → IsRightSet own law s
  set_right s h = (
    h.0.1,
    place_none (may_be (own_kinds s) (kind_of (names_of own) (tree_of s.value.expr))) s.value.at
        (append_none (place_if (not (may_be (own_kinds s) (kind_of (names_of own) (tree_of s.value.expr)))) s.value.at) (types_at (names_of own) (tree_of s.value.expr)) h.1).0,
  )

  sets_right : Each (IsRightSet own law) u.sets
  sets_right = each_map (λ s. Each IsNamed (set_names s) × (wrong_set own s ≡ [])) (IsRightSet own law) set_right u.sets
      (each_both (λ s. Each IsNamed (set_names s)) (λ s. wrong_set own s ≡ []) u.sets sets_stand sets_typed)

  no_key : (key : List ℕ) → key_named tables u.table.text ≡ key → Each (λ s. is_place (place_of own s.column) key ≡ false) u.sets
  no_key key e = subst (λ ks. Each (λ (s : SetItem). is_place (place_of own s.column) ks ≡ false) u.sets) e
      (each_map (λ (s : SetItem). place_if (is_place (place_of own s.column) (key_named tables u.table.text)) s.column.at ≡ []) (λ s. is_place (place_of own s.column) (key_named tables u.table.text) ≡ false)
      (λ s h. no_place (is_place (place_of own s.column) (key_named tables u.table.text)) s.column.at h) u.sets
      (flat_none (λ (s : SetItem). place_if (is_place (place_of own s.column) (key_named tables u.table.text)) s.column.at) u.sets free.keys))

-- EACH CHANGE

module _ (d : Defined) (law : ResolvingKeeps) (all : Shapes) (shape : TableShape) (sound : IsSound d) (tables : Held) (fit : FitTables all tables) where
  abbrev Faultless : List Write → Type 0
  Faultless ws = Each (λ w. columns_fault shape w.row ≡ None) ws

  proposals_fit : (c : Change) → HasNoPlace d.0 c → slice_get (shapes d).tables (number_of d.0 (table_of c).text).0 ≡ Some shape → slice_get all.tables (number_of d.0 (table_of c).text).0 ≡ Some shape
      → Faultless (proposed shape tables (resolved_change d.0 c)) → FitWrites all (proposed shape tables (resolved_change d.0 c))
  proposals_fit (OfInsert i) free stands_own at right =
      let columns = columns_named d.0 i.table.text in
      inserts_fit shape columns (columns_are d.0 i.table shape (stands d.0 i.table shape free.table stands_own)) (targets d.0 i) all (number_of d.0 i.table.text) at
      (keys_stand d.0 (number_of d.0 i.table.text).0 shape sound.tables stands_own) i.tuples (flat_none (λ (t : InsertTuple). wrong_values columns (targets d.0 i) t.values) i.tuples free.kinds) right
  proposals_fit (OfUpdate u) free stands_own at right =
      let columns = columns_named d.0 u.table.text in
      let table = number_of d.0 u.table.text in
      let entry = stands d.0 u.table shape free.table stands_own in
      updates_fit all table shape at columns law (columns_are d.0 u.table shape entry) (keys_stand d.0 table.0 shape sound.tables stands_own) u.sets (sets_right d.0 u law free)
      (no_key d.0 u law free shape.key (key_is d.0 u.table shape entry)) (taken table (resolved_condition columns u.cond) tables) (taken_fit all table shape at (resolved_condition columns u.cond) tables fit) right
  proposals_fit (OfDelete x) free stands_own at right =
      let table = number_of d.0 x.table.text in
      let condition = resolved_condition (columns_named d.0 x.table.text) x.cond in
      deletes_fit all table shape at (taken table condition tables) (taken_fit all table shape at condition tables fit)

put_fits : (all : Shapes) (ws more : List Write) → FitWrites all ws → FitWrites all more → FitWrites all (with_writes ws more)
put_fits all ws [] h k = h
put_fits all ws (w ∷ more) h k = put_fits all (merge ws (w ∷ [])) more (merge_each named place_cmp places (FitsWrite all) ws (w ∷ []) h (k.0, tt)) k.1

table_is : (d : Defined) (c : Change) → (checked.table_of (resolved_change d.0 c)).0 ≡ (number_of d.0 (table_of c).text).0
table_is d (OfInsert i) = refl
table_is d (OfUpdate u) = refl
table_is d (OfDelete x) = refl

-- a row without a fault has none in its columns
columns_right : (c : Context) (change : Change) (d : Defined) (front : List Write) (w : Write) → fault_behind c (resolved_change d.0 change) front w ≡ None → columns_fault c.shape w.row ≡ None
columns_right c change d front w h = (or_none (columns_fault c.shape w.row) _ h).0

-- what a change that is not refused makes of writes that fit, over tables that fit, where no row has a fault
pub changed_fit : (d : Defined) (law : ResolvingKeeps) (change : Change) (all : Shapes) (c : Context) (ws : List Write) (rows : ℕ) → IsSound d → change_fault d.0 change ≡ None
    → slice_get (shapes d).tables (checked.table_of (resolved_change d.0 change)).0 ≡ Some c.shape → slice_get all.tables (checked.table_of (resolved_change d.0 change)).0 ≡ Some c.shape
    → FitTables all c.tables → FitWrites all c.writes → IsDone c (resolved_change d.0 change) ws rows → FitWrites all ws
changed_fit d law change all c ws rows sound fine own at fit before done =
    let free = places_none d.0 change fine in
    let rows : List Write = proposed c.shape c.tables (resolved_change d.0 change) in
    let right : Each (λ w. columns_fault c.shape w.row ≡ None) rows = each_cut (λ w. columns_fault c.shape w.row ≡ None) rows (λ front back w e. columns_right c change d front w (done.right front back w e)) in
    subst (FitWrites all) (sym done.written)
    (put_fits all c.writes rows before
    (proposals_fit d law all c.shape sound c.tables fit change free (ap (slice_get (shapes d).tables) (sym (table_is d change)) ∙ own) (ap (slice_get all.tables) (sym (table_is d change)) ∙ at) right))
