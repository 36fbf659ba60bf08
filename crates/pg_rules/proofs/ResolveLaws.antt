-- Resolving an expression of a change keeps its kind and its width.
use Rattle.std.proofs.Common.{◌≡◌, ◌+◌, ◌-◌, ◌≤◌, ℕ, suc, Bool, true, false, cond, is_some, refl, ap, sym, ◌∙◌, arith, List, [], ◌∷◌, map, Option, Some, None, find}
use Rattle.std.proofs.lemmas.Option.{slice_get-map}
use Rattle.std.specs.Prelude.{option_map, slice_get}
use Rattle.std.specs.List.{position_from}
use Rattle.std.specs.Option.{unwrap_or}
use Rattle.std.specs.Str.{bytes_eq}
use Rattle.pg_value.specs.declared.shape.ColumnShape.{ColumnShape}
use Rattle.pg_ast.specs.declared.expr.Name.{Name}
use Rattle.pg_ast.specs.Trees.{ExprTree, Literal, Wide, ColumnOf, PropertyOf, One, Two, Group, Counted}
use Rattle.pg_meaning.specs.CExprs.{ctree_of, tree_unary, tree_binary}
use Rattle.pg_meaning.specs.Typing.{Typed, typed, kind_of, width_of, width_named, unary_width, binary_width}
use Rattle.pg_meaning.specs.Sound.Kinds.{Frame, OfColumns, column_at, width_found, kind_in, width_in}
use Rattle.pg_rules.specs.declared.entry.ColumnEntry.{ColumnEntry}
use Rattle.pg_rules.specs.Catalog.LookUps.{column_place}
use Rattle.pg_rules.specs.Definitions.Tables.{place_of}
use Rattle.pg_rules.specs.Changes.InsertJudgement.{resolved}
use Rattle.pg_rules.specs.Changes.{names_of}
use Rattle.pg_rules.specs.Resolving.{HasDigits, IsOfColumns, ResolvingKeeps, shapes_of}

-- COLUMNS

none_is : {X : Type 0} (x : X) → None ≡ Some x → ⊥
none_is x h = cc

some_is : {X : Type 0} (x y : X) → Some x ≡ Some y → x ≡ y
some_is x y h = cc

found : {X : Type 0} (o : Option X) → is_some o ≡ true → (x : X) × (o ≡ Some x)
found None h = absurd (differ h)
  where
    differ : false ≡ true → ⊥
    differ e = cc
found (Some x) h = (x, refl)

-- the place at which a test is passed first has the item that passes it first
pub record First {X : Type 0} (test : X → Bool) (i : ℕ) (xs : List X) (p : ℕ) : Type 0 where
  pub behind : i ≤ p
  pub item : slice_get xs (p - i) ≡ find test xs

first_at : {X K : Type 0} (t : K → Bool) (f : X → K) (i : ℕ) (xs : List X) (p : ℕ) → position_from t i (map f xs) ≡ Some p → First (λ x. t (f x)) i xs p
first_at t f i [] p h = absurd (none_is p h)
first_at t f i (x ∷ xs) p h = go (t (f x)) refl h (first_at t f (i + 1) xs p)
  where
    go : (b : Bool) → t (f x) ≡ b → cond b (Some i) (position_from t (i + 1) (map f xs)) ≡ Some p
        → (position_from t (i + 1) (map f xs) ≡ Some p → First (λ x. t (f x)) (i + 1) xs p) → First (λ x. t (f x)) i (x ∷ xs) p
    go true e k rest =
        let s : i ≡ p = some_is i p k in
        let z : p - i ≡ 0 = omega (arith, s) in
        record { behind = omega (arith, s); item = ap (slice_get (x ∷ xs)) z ∙ sym (ap (λ b. cond b (Some x) (find (λ x. t (f x)) xs)) e) }
    go false e k rest =
        let r = rest k in
        let b = r.behind in
        let z : p - i ≡ suc (p - (i + 1)) = omega (arith, b) in
        record { behind = omega (arith, b); item = ap (slice_get (x ∷ xs)) z ∙ r.item ∙ sym (ap (λ b. cond b (Some x) (find (λ x. t (f x)) xs)) e) }

twice : {X Y Z : Type 0} (f : X → Y) (g : Y → Z) (o : Option X) → option_map g (option_map f o) ≡ option_map (λ x. g (f x)) o
twice f g None = refl
twice f g (Some x) = refl

-- the column at a name's place is the one that the name stands for
same_column : (columns : List ColumnEntry) (n : Name) → is_some (column_place columns n.text) ≡ true → column_at (shapes_of columns) (place_of columns n) ≡ names_of columns None n.text
same_column columns n h =
    let p : (q : ℕ) × (column_place columns n.text ≡ Some q) = found (column_place columns n.text) h in
    let at : place_of columns n ≡ p.0 = ap (λ o. unwrap_or o 0) p.1 in
    let first = first_at (bytes_eq n.text) (λ (c : ColumnEntry). c.name) 0 columns p.0 p.1 in
    let zero : p.0 ≡ p.0 - 0 = omega arith in
    ap (column_at (shapes_of columns)) at
    ∙ ap (option_map (λ (s : ColumnShape). typed s.kind)) (slice_get-map (λ (c : ColumnEntry). c.shape) columns p.0 ∙ ap (λ q. option_map (λ (c : ColumnEntry). c.shape) (slice_get columns q)) zero ∙ ap (option_map (λ (c : ColumnEntry). c.shape)) first.item)
    ∙ twice (λ (c : ColumnEntry). c.shape) (λ (s : ColumnShape). typed s.kind) (find (λ (c : ColumnEntry). bytes_eq n.text c.name) columns)

-- EXPRESSIONS

abbrev frame : List ColumnEntry → Frame
frame columns = OfColumns (shapes_of columns)

pub same_kind : (columns : List ColumnEntry) (t : ExprTree) → HasDigits t → IsOfColumns columns t → kind_in (frame columns) (ctree_of (resolved columns t)) ≡ kind_of (names_of columns) t
same_kind columns (Literal v bits at) h k = refl
same_kind columns (Wide at) h k = absurd h
same_kind columns (ColumnOf n) h k = ap (option_map (λ (t : Typed). t.kind)) (same_column columns n k)
same_kind columns (PropertyOf v n) h k = absurd k
same_kind columns (One op x at) h k = ap (kind_in (frame columns)) (tree_unary op (resolved columns x))
same_kind columns (Two op x y at) h k = ap (kind_in (frame columns)) (tree_binary op (resolved columns x) (resolved columns y))
same_kind columns (Group agg x at) h k = absurd k
same_kind columns (Counted v at) h k = absurd k

same_width_named : (o p : Option Typed) → o ≡ p → width_found o ≡ width_named p
same_width_named o None e = ap width_found e
same_width_named o (Some t) e = ap width_found e

pub same_width : (columns : List ColumnEntry) (t : ExprTree) → HasDigits t → IsOfColumns columns t → width_in (frame columns) (ctree_of (resolved columns t)) ≡ width_of (names_of columns) t
same_width columns (Literal v bits at) h k = sym h
same_width columns (Wide at) h k = absurd h
same_width columns (ColumnOf n) h k = same_width_named (column_at (shapes_of columns) (place_of columns n)) (names_of columns None n.text) (same_column columns n k)
same_width columns (PropertyOf v n) h k = absurd k
same_width columns (One op x at) h k = ap (width_in (frame columns)) (tree_unary op (resolved columns x)) ∙ ap (unary_width op) (same_width columns x h k)
same_width columns (Two op x y at) h k =
    ap (width_in (frame columns)) (tree_binary op (resolved columns x) (resolved columns y)) ∙ (λ i. binary_width op (same_width columns x h.0 k.0 i) (same_width columns y h.1 k.1 i))
same_width columns (Group agg x at) h k = absurd k
same_width columns (Counted v at) h k = absurd k

pub resolving_keeps : ResolvingKeeps
resolving_keeps = record { kind = same_kind; width = same_width }
