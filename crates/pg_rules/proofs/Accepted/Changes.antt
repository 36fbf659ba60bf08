-- The checked tree of a change that is not refused is sound.
use Rattle.std.proofs.Common.{◌≡◌, ◌+◌, ◌≤◌, ◌<◌, ◌==◌, ◌&&◌, ℕ, zero, suc, Bool, true, false, not, is_some, refl, ap, sym, ◌∙◌, subst, arith, eq-eqb, List, [], ◌∷◌, ◌++◌, map, length, Contains, inl, inr, Option, Some, None}
use Rattle.std.proofs.lemmas.Bool.{eqb-true}
use Rattle.std.proofs.lemmas.List.{length-map}
use Rattle.std.proofs.lemmas.Option.{slice_get-map}
use Rattle.std.specs.Prelude.{option_map, option_to_list, slice_get}
use Rattle.std.specs.List.{AllZip, flat_map, range_with_len}
use Rattle.pg_keyed.specs.Lists.{Each, each_map}
use Rattle.pg_value.specs.declared.value.Kind.{Kind}
use Rattle.pg_value.specs.declared.value.Kind.TheVariants as kinds
use Rattle.pg_value.specs.declared.shape.ColumnShape.{ColumnShape}
use Rattle.pg_value.specs.declared.shape.TableShape.{TableShape}
use Rattle.pg_ast.specs.declared.expr.Name.{Name}
use Rattle.pg_ast.specs.declared.expr.Whole.{Whole}
use Rattle.pg_ast.specs.declared.statement.Insert.{Insert}
use Rattle.pg_ast.specs.declared.statement.InsertTuple.{InsertTuple}
use Rattle.pg_ast.specs.declared.statement.Update.{Update}
use Rattle.pg_ast.specs.declared.statement.SetItem.{SetItem}
use Rattle.pg_ast.specs.Trees.{ExprTree, tree_of, Literal, Wide, ColumnOf, PropertyOf, One, Two, Group, Counted}
use Rattle.pg_meaning.specs.declared.checked.CExpr.{CExpr}
use Rattle.pg_meaning.specs.declared.checked.CheckedSet.{CheckedSet}
use Rattle.pg_meaning.specs.Bindings.{Distinct}
use Rattle.pg_meaning.specs.CExprs.{CTree, ctree_of, tree_unary, tree_binary}
use Rattle.pg_meaning.specs.Members.{in_nil, in_cons}
use Rattle.pg_meaning.specs.Typing.{Names, typed, no_names, kind_of, width_of, may_be, unary_takes, binary_takes, unary_width, binary_width, too_wide, widest}
use Rattle.pg_meaning.specs.Sound.{IsSoundOf, IsSoundCondition, Reads, Binds, IsTyped, IsNarrow}
use Rattle.pg_meaning.specs.Sound.Kinds.{Frame, OfColumns, width_found, width_in}
use Rattle.pg_meaning.specs.Sound.Changes.{no_variables, IsSoundValue, IsSoundInsert, IsSoundUpdate, IsSoundChange}
use Rattle.pg_rules.specs.declared.entry.ColumnEntry.{ColumnEntry}
use Rattle.pg_rules.specs.declared.entry.TableEntry.{TableEntry}
use Rattle.pg_rules.specs.declared.fault.ResolveFault.TheVariants as faults
use Rattle.pg_rules.specs.Accepted.{AcceptedChangesAreSound}
use Rattle.pg_rules.specs.Places.{least, place_if, no_fault, no_least}
use Rattle.pg_rules.specs.Catalog.{Tables, Defined}
use Rattle.pg_rules.specs.Catalog.LookUps.{table_in, column_place, columns_in as columns_of_table, key_in, columns_named, key_named}
use Rattle.pg_rules.specs.Catalog.Shapes.{shapes, table_shape, table_shapes}
use Rattle.pg_rules.specs.Definitions.Tables.{repeats, place_of}
use Rattle.pg_rules.specs.Definitions.Entries.{kind_at, kind_in as kind_of_column, number_of}
use Rattle.pg_rules.specs.Definitions.Graphs.{missing, no_such}
use Rattle.pg_rules.specs.ExprFaults.{types_at, wide_at}
use Rattle.pg_rules.specs.Changes.{Change, OfInsert, OfUpdate, OfDelete, table_of, columns_in, named_in, named_in_condition, no_column, column_twice, count, is_place, key_update, names_of, wrong, wrong_condition, wrong_set, types, wide_in, wide, change_fault, resolved_condition, resolved_set, resolved_change}
use Rattle.pg_rules.specs.Changes.InsertJudgement.{listed, targets_in, targets, wrong_value, wrong_values, resolved, resolved_tuple}
use Rattle.pg_rules.specs.Resolving.{HasDigits, IsOfColumns, shapes_of}
use Rattle.pg_rules.specs.Written.{HasNoVariable, HasNoColumn, IsChangeTree, IsInsertTree, IsWrittenChange}
use Rattle.pg_rules.proofs.ResolveLaws.{same_kind, same_width}
use Rattle.pg_rules.proofs.KeptSound.EmptyPlaces.{left_nil, right_nil, each_nil, no_place, is_not, is_there}
use Rattle.pg_rules.proofs.KeptSound.Lists.{each_at, each_mapped, no_item, distinct_named, true_false}
use Rattle.pg_rules.proofs.KeptSound.Columns.{IsColumn, is_column, one_column, IsTable, is_table}
use Rattle.pg_rules.proofs.Accepted.Lists.{each_left, each_right, each_free, each_passes}
use Rattle.pg_rules.proofs.Accepted.Properties.{below}
use Rattle.pg_rules.proofs.Accepted.Exprs.{bits_narrow, not_wide, own_width, within, within_both, has_digits}

-- EXPRESSIONS OVER COLUMNS THAT STAND

abbrev Stands : List ColumnEntry → Name → Type 0
Stands cs n = is_some (column_place cs n.text) ≡ true

column_of : (cs : List ColumnEntry) (n : Name) → Stands cs n → IsColumn cs n
column_of cs n h = let p = is_there (column_place cs n.text) h in is_column cs n p.0 p.1

of_columns : (cs : List ColumnEntry) (t : ExprTree) → HasNoVariable t → Each (Stands cs) (columns_in t) → IsOfColumns cs t
of_columns cs (Literal v bits at) h k = tt
of_columns cs (Wide at) h k = tt
of_columns cs (ColumnOf n) h k = k.0
of_columns cs (PropertyOf v n) h k = absurd h
of_columns cs (One op x at) h k = of_columns cs x h k
of_columns cs (Two op x y at) h k = (of_columns cs x h.0 (each_left (Stands cs) (columns_in x) (columns_in y) k), of_columns cs y h.1 (each_right (Stands cs) (columns_in x) (columns_in y) k))
of_columns cs (Group agg x at) h k = absurd h
of_columns cs (Counted v at) h k = absurd h

module _ (cs : List ColumnEntry) where
  abbrev frame : Frame
  frame = OfColumns (shapes_of cs)

  abbrev names : Names
  names = names_of cs

  abbrev tree : ExprTree → CTree
  tree t = ctree_of (resolved cs t)

  reads : (t : ExprTree) → IsOfColumns cs t → Reads frame (tree t)
  reads (Literal v bits at) h = tt
  reads (Wide at) h = tt
  reads (ColumnOf n) h =
      let c : IsColumn cs n = column_of cs n h in
      subst (λ k. place_of cs n < k) (sym (length-map cs (λ (e : ColumnEntry). e.shape))) (below cs (place_of cs n) c.column c.stands)
  reads (PropertyOf v n) h = absurd h
  reads (One op x at) h = subst (Reads frame) (sym (tree_unary op (resolved cs x))) (reads x h)
  reads (Two op x y at) h = subst (Reads frame) (sym (tree_binary op (resolved cs x) (resolved cs y))) (reads x h.0, reads y h.1)
  reads (Group agg x at) h = absurd h
  reads (Counted v at) h = absurd h

  binds : (t : ExprTree) → IsOfColumns cs t → Binds no_variables (tree t)
  binds (Literal v bits at) h = tt
  binds (Wide at) h = tt
  binds (ColumnOf n) h = tt
  binds (PropertyOf v n) h = absurd h
  binds (One op x at) h = subst (Binds no_variables) (sym (tree_unary op (resolved cs x))) (binds x h)
  binds (Two op x y at) h = subst (Binds no_variables) (sym (tree_binary op (resolved cs x) (resolved cs y))) (binds x h.0, binds y h.1)
  binds (Group agg x at) h = absurd h
  binds (Counted v at) h = absurd h

  is_typed : (t : ExprTree) → HasDigits t → IsOfColumns cs t → types_at names t ≡ [] → IsTyped frame (tree t)
  is_typed (Literal v bits at) h c k = tt
  is_typed (Wide at) h c k = tt
  is_typed (ColumnOf n) h c k = tt
  is_typed (PropertyOf v n) h c k = absurd c
  is_typed (One op x at) h c k =
      let test : Bool = unary_takes op (kind_of names x) in
      let own : test ≡ true = is_not test (no_place (not test) at (left_nil (place_if (not test) at) (types_at names x) k)) in
      subst (IsTyped frame) (sym (tree_unary op (resolved cs x)))
      (ap (unary_takes op) (same_kind cs x h c) ∙ own, is_typed x h c (right_nil (place_if (not test) at) (types_at names x) k))
  is_typed (Two op x y at) h c k =
      let test : Bool = binary_takes op (kind_of names x) (kind_of names y) in
      let both = right_nil (place_if (not test) at) (types_at names x ++ types_at names y) k in
      let own : test ≡ true = is_not test (no_place (not test) at (left_nil (place_if (not test) at) (types_at names x ++ types_at names y) k)) in
      subst (IsTyped frame) (sym (tree_binary op (resolved cs x) (resolved cs y))) (
        (λ i. binary_takes op (same_kind cs x h.0 c.0 i) (same_kind cs y h.1 c.1 i)) ∙ own,
        is_typed x h.0 c.0 (left_nil (types_at names x) (types_at names y) both),
        is_typed y h.1 c.1 (right_nil (types_at names x) (types_at names y) both),
      )
  is_typed (Group agg x at) h c k = absurd c
  is_typed (Counted v at) h c k = absurd c

  found_narrow : (o : Option ColumnShape) → width_found (option_map (λ (s : ColumnShape). typed s.kind) o) ≤ widest
  found_narrow None = omega arith
  found_narrow (Some s) = bits_narrow s.kind

  narrow : (t : ExprTree) → HasDigits t → IsOfColumns cs t → wide_at names t ≡ [] → IsNarrow frame (tree t)
  narrow (Literal v bits at) h c k = subst (λ w. w ≤ widest) h (not_wide bits (no_place (too_wide bits) at k))
  narrow (Wide at) h c k = absurd h
  narrow (ColumnOf n) h c k = found_narrow (slice_get (shapes_of cs) (place_of cs n))
  narrow (PropertyOf v n) h c k = absurd c
  narrow (One op x at) h c k =
      let w : ℕ = width_of names x in
      let place : Bool = too_wide (unary_width op w) && not (too_wide w) in
      let rest : IsNarrow frame (tree x) = narrow x h c (right_nil (place_if place at) (wide_at names x) k) in
      let same : width_in frame (tree x) ≡ w = same_width cs x h c in
      let own : unary_width op w ≤ widest = within (unary_width op w) w (no_place place at (left_nil (place_if place at) (wide_at names x) k)) (subst (λ n. n ≤ widest) same (own_width frame (tree x) rest)) in
      subst (IsNarrow frame) (sym (tree_unary op (resolved cs x))) (subst (λ n. unary_width op n ≤ widest) (sym same) own, rest)
  narrow (Two op x y at) h c k =
      let v : ℕ = width_of names x in
      let w : ℕ = width_of names y in
      let place : Bool = too_wide (binary_width op v w) && (not (too_wide v) && not (too_wide w)) in
      let both = right_nil (place_if place at) (wide_at names x ++ wide_at names y) k in
      let first : IsNarrow frame (tree x) = narrow x h.0 c.0 (left_nil (wide_at names x) (wide_at names y) both) in
      let second : IsNarrow frame (tree y) = narrow y h.1 c.1 (right_nil (wide_at names x) (wide_at names y) both) in
      let a : width_in frame (tree x) ≡ v = same_width cs x h.0 c.0 in
      let b : width_in frame (tree y) ≡ w = same_width cs y h.1 c.1 in
      let own : binary_width op v w ≤ widest =
      within_both (binary_width op v w) v w (no_place place at (left_nil (place_if place at) (wide_at names x ++ wide_at names y) k))
      (subst (λ n. n ≤ widest) a (own_width frame (tree x) first)) (subst (λ n. n ≤ widest) b (own_width frame (tree y) second)) in
      subst (IsNarrow frame) (sym (tree_binary op (resolved cs x) (resolved cs y)))
      (subst (λ n. n ≤ widest) (λ i. binary_width op (sym a i) (sym b i)) own, first, second)
  narrow (Group agg x at) h c k = absurd c
  narrow (Counted v at) h c k = absurd c

  -- a value or a condition of a kind
  whole_sound : (kind : Kind) (w : Whole) → IsChangeTree (tree_of w.expr) → Each (Stands cs) (named_in w) → wrong names kind w ≡ [] → wide_in names w ≡ []
      → IsSoundOf kind frame no_variables (resolved cs (tree_of w.expr))
  whole_sound kind w written stands right fits =
      let t : ExprTree = tree_of w.expr in
      let c : IsOfColumns cs t = of_columns cs t written.1 stands in
      let digits : HasDigits t = has_digits names t written.0 fits in
      let place : List ℕ = place_if (not (may_be kind (kind_of names t))) w.at in
      record {
        sound = record {
          reads = reads t c;
          binds = binds t c;
          typed = is_typed t digits c (right_nil place (types_at names t) right);
          narrow = narrow t digits c fits;
        };
        of_kind = ap (may_be kind) (same_kind cs t digits c) ∙ is_not (may_be kind (kind_of names t)) (no_place (not (may_be kind (kind_of names t))) w.at (left_nil place (types_at names t) right));
      }

  condition_sound : (o : Option Whole) → Each (λ w. IsChangeTree (tree_of w.expr)) (option_to_list o) → Each (Stands cs) (named_in_condition o) → wrong_condition names o ≡ []
      → flat_map (wide_in names) (option_to_list o) ≡ [] → IsSoundCondition frame no_variables (resolved_condition cs o)
  condition_sound None written stands right fits = tt
  condition_sound (Some w) written stands right fits =
      whole_sound kinds.Bool w written.0 (each_left (Stands cs) (named_in w) [] stands) (left_nil (wrong names kinds.Bool w) [] right) (left_nil (wide_in names w) [] fits)

-- A TABLE THAT IS CHANGED

-- the shape of the table of a name
abbrev shape_named : Tables → List ℕ → TableShape
shape_named tables text = record { columns = shapes_of (columns_named tables text); key = key_named tables text }

shape_is : (tables : Tables) (text : List ℕ) (t : IsTable tables text) → slice_get (table_shapes tables) (number_of tables text).0 ≡ Some (shape_named tables text)
shape_is tables text t =
    let same : shape_named tables text ≡ table_shape t.table.1 = λ i. record { columns = shapes_of (columns_of_table (t.found i)); key = key_in (t.found i) } in
    slice_get-map (λ (e : List ℕ × TableEntry). table_shape e.1) tables (number_of tables text).0 ∙ ap (option_map (λ (e : List ℕ × TableEntry). table_shape e.1)) t.stands ∙ ap Some (sym same)

-- a column stands at a place
abbrev IsAt : List ColumnEntry → ℕ → Type 0
IsAt cs c = (e : ColumnEntry) × (slice_get cs c ≡ Some e)

value_sound : (tables : Tables) (text : List ℕ) (frame : Frame) (c : ℕ) (value : CExpr) → IsAt (columns_named tables text) c
    → IsSoundOf (kind_at (columns_named tables text) c) frame no_variables value → IsSoundValue (shape_named tables text) frame c value
value_sound tables text frame c value at h = record {
  column = at.0.shape;
  stands = slice_get-map (λ (e : ColumnEntry). e.shape) (columns_named tables text) c ∙ ap (option_map (λ (e : ColumnEntry). e.shape)) at.1;
  sound = subst (λ k. IsSoundOf k frame no_variables value) (ap kind_of_column at.1) h;
}

-- INSERT

no_columns : (t : ExprTree) → HasNoColumn t → columns_in t ≡ []
no_columns (Literal v bits at) h = refl
no_columns (Wide at) h = refl
no_columns (ColumnOf n) h = absurd h
no_columns (PropertyOf v n) h = refl
no_columns (One op x at) h = no_columns x h
no_columns (Two op x y at) h = λ i. no_columns x h.0 i ++ no_columns y h.1 i
no_columns (Group agg x at) h = no_columns x h
no_columns (Counted v at) h = refl

nothing_named : no_names ≡ names_of []
nothing_named = λ i. λ v n. same v n i
  where
    same : (v : Option (List ℕ)) (n : List ℕ) → no_names v n ≡ names_of [] v n
    same None n = refl
    same (Some v) n = refl

tuple_sound : (tables : Tables) (text : List ℕ) (ps : List ℕ) (ws : List Whole) → Each (IsAt (columns_named tables text)) ps → length ws ≡ length ps → wrong_values (columns_named tables text) ps ws ≡ []
    → Each (λ w. wide_at no_names (tree_of w.expr) ≡ []) ws → Each (λ w. IsInsertTree (tree_of w.expr)) ws
    → AllZip (IsSoundValue (shape_named tables text) (OfColumns [])) ps (map (λ (w : Whole). resolved [] (tree_of w.expr)) ws)
tuple_sound tables text [] [] at n right fits written = tt
tuple_sound tables text [] (w ∷ ws) at n right fits written = absurd (omega (arith, n))
tuple_sound tables text (p ∷ ps) [] at n right fits written = absurd (omega (arith, n))
tuple_sound tables text (p ∷ ps) (w ∷ ws) at n right fits written =
    let cs : List ColumnEntry = columns_named tables text in
    let t : ExprTree = tree_of w.expr in
    let own : wrong_value (kind_at cs p) w ≡ [] = left_nil (wrong_value (kind_at cs p) w) (wrong_values cs ps ws) right in (
      value_sound tables text (OfColumns []) p (resolved [] t) at.0
          (whole_sound [] (kind_at cs p) w (written.0.0, written.0.1) (subst (Each (Stands [])) (sym (no_columns t written.0.2)) tt)
          (subst (λ (ns : Names). wrong ns (kind_at cs p) w ≡ []) nothing_named own) (subst (λ (ns : Names). wide_in ns w ≡ []) nothing_named fits.0)),
      tuple_sound tables text ps ws at.1 (omega (arith, n)) (right_nil (wrong_value (kind_at cs p) w) (wrong_values cs ps ws) right) fits.1 written.1,
    )

in_range : (n k x : ℕ) → Contains (range_with_len n k) x → n ≤ x
in_range n zero x c = absurd (in_nil x c)
in_range n (suc k) x c = elim (in_cons n (range_with_len (n + 1) k) x c) [
  | inl e ↦ omega (arith, e)
  | inr r ↦ (let l = in_range (n + 1) k x r in omega (arith, l))
]

range_differs : (n k : ℕ) → Distinct (range_with_len n k)
range_differs n zero = tt
range_differs n (suc k) = (λ c. let l = in_range (n + 1) k n c in absurd (omega (arith, l)), range_differs (n + 1) k)

range_stands : (all : List ColumnEntry) (n : ℕ) (cs : List ColumnEntry) → ((k : ℕ) → slice_get all (n + k) ≡ slice_get cs k) → Each (IsAt all) (range_with_len n (length cs))
range_stands all n [] h = tt
range_stands all n (c ∷ cs) h =
    let first : n ≡ n + 0 = omega arith in
    ((c, ap (slice_get all) first ∙ h 0), range_stands all (n + 1) cs (λ k. let next : (n + 1) + k ≡ n + suc k = omega arith in ap (slice_get all) next ∙ h (suc k)))

columns_known : (cs : List ColumnEntry) (ns : List Name) → missing cs ns ≡ [] → Each (Stands cs) ns
columns_known cs ns h = each_passes (λ (n : Name). is_some (column_place cs n.text)) (λ (n : Name). n.at) ns h

places_differ : (cs : List ColumnEntry) (ns : List Name) → Each (Stands cs) ns → repeats ns ≡ [] → Distinct (map (place_of cs) ns)
places_differ cs ns known h =
    distinct_named (place_of cs) ns (λ a b x y e. one_column cs a b (column_of cs a (each_at (Stands cs) ns a known x)) (column_of cs b (each_at (Stands cs) ns b known y)) e) h

targets_stand : (cs : List ColumnEntry) (o : Option (List Name)) → Each (Stands cs) (listed o) → Each (IsAt cs) (targets_in cs o)
targets_stand cs None known = range_stands cs 0 cs (λ k. let same : 0 + k ≡ k = omega arith in ap (slice_get cs) same)
targets_stand cs (Some ns) known = each_mapped (place_of cs) (IsAt cs) ns (λ n c. let k = column_of cs n (each_at (Stands cs) ns n known c) in (k.column, k.stands))

targets_differ : (cs : List ColumnEntry) (o : Option (List Name)) → Each (Stands cs) (listed o) → repeats (listed o) ≡ [] → Distinct (targets_in cs o)
targets_differ cs None known h = range_differs 0 (length cs)
targets_differ cs (Some ns) known h = places_differ cs ns known h

tuples_sound : (tables : Tables) (i : Insert) → Each (IsAt (columns_named tables i.table.text)) (targets tables i) → (ts : List InsertTuple)
    → Each (λ (t : InsertTuple). (length t.values == length (targets tables i)) ≡ true) ts
    → Each (λ (t : InsertTuple). wrong_values (columns_named tables i.table.text) (targets tables i) t.values ≡ []) ts
    → Each (λ (t : InsertTuple). Each (λ w. wide_at no_names (tree_of w.expr) ≡ []) t.values) ts → Each (λ (t : InsertTuple). Each (λ w. IsInsertTree (tree_of w.expr)) t.values) ts
    → Each (λ tuple. AllZip (IsSoundValue (shape_named tables i.table.text) (OfColumns [])) (targets tables i) tuple) (map resolved_tuple ts)
tuples_sound tables i at [] n right fits written = tt
tuples_sound tables i at (t ∷ ts) n right fits written = (
  tuple_sound tables i.table.text (targets tables i) t.values at (eqb-true (length t.values) (length (targets tables i)) n.0) right.0 fits.0 written.0,
  tuples_sound tables i at ts n.1 right.1 fits.1 written.1,
)

insert_sound : (tables : Tables) (i : Insert) → Each (λ t. Each (λ w. IsInsertTree (tree_of w.expr)) t.values) i.tuples → no_column tables (OfInsert i) ≡ [] → column_twice (OfInsert i) ≡ []
    → count tables (OfInsert i) ≡ [] → types tables (OfInsert i) ≡ [] → wide tables (OfInsert i) ≡ []
    → IsSoundInsert (shape_named tables i.table.text) (targets tables i) (map resolved_tuple i.tuples)
insert_sound tables i written known twice counted right fits =
    let cs : List ColumnEntry = columns_named tables i.table.text in
    let stand : Each (Stands cs) (listed i.columns) = columns_known cs (listed i.columns) known in
    record {
      differ = targets_differ cs i.columns stand twice;
      values = tuples_sound tables i (targets_stand cs i.columns stand) i.tuples
          (each_passes (λ (t : InsertTuple). length t.values == length (targets tables i)) (λ (t : InsertTuple). t.at) i.tuples counted)
          (each_nil (λ (t : InsertTuple). wrong_values cs (targets tables i) t.values) i.tuples right)
          (each_map (λ (t : InsertTuple). flat_map (λ w. wide_at no_names (tree_of w.expr)) t.values ≡ []) (λ (t : InsertTuple). Each (λ w. wide_at no_names (tree_of w.expr) ≡ []) t.values)
          (λ t e. each_nil (λ (w : Whole). wide_at no_names (tree_of w.expr)) t.values e) i.tuples
          (each_nil (λ (t : InsertTuple). flat_map (λ w. wide_at no_names (tree_of w.expr)) t.values) i.tuples fits))
          written;
    }

-- UPDATE

columns_set : (cs : List ColumnEntry) (ss : List SetItem) → map (λ (s : CheckedSet). s.column) (map (resolved_set cs) ss) ≡ map (place_of cs) (map (λ (s : SetItem). s.column) ss)
columns_set cs [] = refl
columns_set cs (s ∷ ss) = ap (λ ps. place_of cs s.column ∷ ps) (columns_set cs ss)

set_known : (cs : List ColumnEntry) (ss : List SetItem) → Each (Stands cs) (flat_map (λ (s : SetItem). s.column ∷ named_in s.value) ss) → Each (Stands cs) (map (λ (s : SetItem). s.column) ss)
set_known cs [] h = tt
set_known cs (s ∷ ss) h =
    (h.0, set_known cs ss (each_right (Stands cs) (s.column ∷ named_in s.value) (flat_map (λ (s : SetItem). s.column ∷ named_in s.value) ss) h))

not_key : (key : List ℕ) (place : ℕ) → is_place place key ≡ false → Contains key place → ⊥
not_key key place h c = true_false (sym (eq-eqb place place refl) ∙ no_item (λ p. p == place) key place h c)

sets_no_key : (cs : List ColumnEntry) (key : List ℕ) (ss : List SetItem) → Each (λ (s : SetItem). is_place (place_of cs s.column) key ≡ false) ss
    → Each (λ (s : CheckedSet). Contains key s.column → ⊥) (map (resolved_set cs) ss)
sets_no_key cs key [] h = tt
sets_no_key cs key (s ∷ ss) h = (not_key key (place_of cs s.column) h.0, sets_no_key cs key ss h.1)

sets_sound : (tables : Tables) (text : List ℕ) (ss : List SetItem) → Each (λ s. IsChangeTree (tree_of s.value.expr)) ss
    → Each (Stands (columns_named tables text)) (flat_map (λ (s : SetItem). s.column ∷ named_in s.value) ss) → Each (λ s. wrong_set (columns_named tables text) s ≡ []) ss
    → Each (λ (s : SetItem). wide_in (names_of (columns_named tables text)) s.value ≡ []) ss
    → Each (λ (s : CheckedSet). IsSoundValue (shape_named tables text) (OfColumns (shapes_of (columns_named tables text))) s.column s.value) (map (resolved_set (columns_named tables text)) ss)
sets_sound tables text [] written known right fits = tt
sets_sound tables text (s ∷ ss) written known right fits =
    let cs : List ColumnEntry = columns_named tables text in
    let rest : List Name = flat_map (λ (s : SetItem). s.column ∷ named_in s.value) ss in
    let own = each_left (Stands cs) (s.column ∷ named_in s.value) rest known in
    let c : IsColumn cs s.column = column_of cs s.column own.0 in (
      value_sound tables text (OfColumns (shapes_of cs)) (place_of cs s.column) (resolved cs (tree_of s.value.expr)) (c.column, c.stands)
          (whole_sound cs (kind_at cs (place_of cs s.column)) s.value written.0 own.1 right.0 fits.0),
      sets_sound tables text ss written.1 (each_right (Stands cs) (s.column ∷ named_in s.value) rest known) right.1 fits.1,
    )

update_sound : (tables : Tables) (u : Update) → IsWrittenChange (OfUpdate u) → no_column tables (OfUpdate u) ≡ [] → column_twice (OfUpdate u) ≡ [] → key_update tables (OfUpdate u) ≡ []
    → types tables (OfUpdate u) ≡ [] → wide tables (OfUpdate u) ≡ []
    → IsSoundUpdate (shape_named tables u.table.text) (map (resolved_set (columns_named tables u.table.text)) u.sets) (resolved_condition (columns_named tables u.table.text) u.cond)
update_sound tables u written known twice keys right fits =
    let cs : List ColumnEntry = columns_named tables u.table.text in
    let in_sets : List Name = flat_map (λ (s : SetItem). s.column ∷ named_in s.value) u.sets in
    let stand : Each (Stands cs) (in_sets ++ named_in_condition u.cond) = columns_known cs (in_sets ++ named_in_condition u.cond) known in
    let set_stand : Each (Stands cs) in_sets = each_left (Stands cs) in_sets (named_in_condition u.cond) stand in
    let wrong_sets : List ℕ = flat_map (wrong_set cs) u.sets in
    let wide_sets : List ℕ = flat_map (λ (s : SetItem). wide_in (names_of cs) s.value) u.sets in
    record {
      differ = subst Distinct (sym (columns_set cs u.sets)) (places_differ cs (map (λ (s : SetItem). s.column) u.sets) (set_known cs u.sets set_stand) twice);
      no_key = sets_no_key cs (key_named tables u.table.text) u.sets (each_free (λ (s : SetItem). is_place (place_of cs s.column) (key_named tables u.table.text)) (λ (s : SetItem). s.column.at) u.sets keys);
      values = sets_sound tables u.table.text u.sets written.0 set_stand (each_nil (wrong_set cs) u.sets (left_nil wrong_sets (wrong_condition (names_of cs) u.cond) right))
          (each_nil (λ (s : SetItem). wide_in (names_of cs) s.value) u.sets (left_nil wide_sets (flat_map (wide_in (names_of cs)) (option_to_list u.cond)) fits));
      condition_sound = condition_sound cs u.cond written.1 (each_right (Stands cs) in_sets (named_in_condition u.cond) stand) (right_nil wrong_sets (wrong_condition (names_of cs) u.cond) right)
          (right_nil wide_sets (flat_map (wide_in (names_of cs)) (option_to_list u.cond)) fits);
    }

-- EVERY CHANGE

-- no kind has a place
record HasNoPlace (tables : Tables) (c : Change) : Type 0 where
  table : no_such tables (table_of c) ≡ []
  columns : no_column tables c ≡ []
  twice : column_twice c ≡ []
  counts : count tables c ≡ []
  keys : key_update tables c ≡ []
  kinds : types tables c ≡ []
  widths : wide tables c ≡ []

accepted : (tables : Tables) (c : Change) → change_fault tables c ≡ None → HasNoPlace tables c
accepted tables c h =
    let a = no_fault faults.NoTable (least (no_such tables (table_of c))) _ h in
    let b = no_fault faults.NoColumn (least (no_column tables c)) _ a.1 in
    let e = no_fault faults.ColumnTwice (least (column_twice c)) _ b.1 in
    let f = no_fault faults.Count (least (count tables c)) _ e.1 in
    let k = no_fault faults.KeyUpdate (least (key_update tables c)) _ f.1 in
    let t = no_fault faults.Types (least (types tables c)) _ k.1 in
    let w = no_fault faults.Wide (least (wide tables c)) _ t.1 in
    record {
      table = no_least (no_such tables (table_of c)) a.0;
      columns = no_least (no_column tables c) b.0;
      twice = no_least (column_twice c) e.0;
      counts = no_least (count tables c) f.0;
      keys = no_least (key_update tables c) k.0;
      kinds = no_least (types tables c) t.0;
      widths = no_least (wide tables c) w.0;
    }

table_there : (tables : Tables) (n : Name) → no_such tables n ≡ [] → IsTable tables n.text
table_there tables n h = is_table tables n.text (is_not (is_some (table_in tables n.text)) (no_place (not (is_some (table_in tables n.text))) n.at h))

change_sound : (d : Defined) (c : Change) → IsWrittenChange c → HasNoPlace d.0 c → IsSoundChange (shapes d) (resolved_change d.0 c)
change_sound d (OfInsert i) written free = record {
  table = shape_named d.0 i.table.text;
  stands = shape_is d.0 i.table.text (table_there d.0 i.table free.table);
  sound = insert_sound d.0 i written free.columns free.twice free.counts free.kinds free.widths;
}
change_sound d (OfUpdate u) written free = record {
  table = shape_named d.0 u.table.text;
  stands = shape_is d.0 u.table.text (table_there d.0 u.table free.table);
  sound = update_sound d.0 u written free.columns free.twice free.keys free.kinds free.widths;
}
change_sound d (OfDelete x) written free =
    let cs : List ColumnEntry = columns_named d.0 x.table.text in
    record {
      table = shape_named d.0 x.table.text;
      stands = shape_is d.0 x.table.text (table_there d.0 x.table free.table);
      sound = condition_sound cs x.cond written (columns_known cs (named_in_condition x.cond) free.columns) free.kinds free.widths;
    }

pub accepted_changes_are_sound : AcceptedChangesAreSound
accepted_changes_are_sound d c written h = change_sound d c written (accepted d.0 c h)
