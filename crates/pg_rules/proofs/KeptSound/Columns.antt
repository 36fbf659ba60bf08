-- The column and the table that a name finds.
use Rattle.std.proofs.Common.{◌≡◌, ◌+◌, ℕ, suc, Bool, true, false, cond, refl, ap, sym, ◌∙◌, subst, arith, List, [], ◌∷◌, map, is_some}
use Rattle.std.proofs.lemmas.Iterator.Adapters.{position_from-zero}
use Rattle.std.specs.Prelude.{slice_get}
use Rattle.std.specs.List.{position_from}
use Rattle.std.specs.Option.{option_and_then, unwrap_or}
use Rattle.std.specs.Str.{bytes_eq}
use Rattle.std.specs.declared.option.Option.{Option}
use Rattle.std.specs.declared.option.Option.TheVariants.{Some}
use Rattle.pg_value.specs.declared.shape.TableNo.{TableNo}
use Rattle.pg_ast.specs.declared.expr.Name.{Name}
use Rattle.pg_rules.specs.declared.entry.ColumnEntry.{ColumnEntry}
use Rattle.pg_rules.specs.declared.entry.TableEntry.{TableEntry}
use Rattle.pg_rules.specs.Catalog.{Tables}
use Rattle.pg_rules.specs.Catalog.LookUps.{table_in, column_place, table_named}
use Rattle.pg_rules.specs.Definitions.Tables.{place_of}
use Rattle.pg_rules.specs.Definitions.Entries.{number_of}
use Rattle.pg_rules.proofs.KeptSound.EmptyPlaces.{is_there}
use Rattle.pg_rules.proofs.KeptSound.Lists.{same_bytes}

-- ITEMS THAT HAVE NAMES

-- the item at a place has this name
pub record IsNamed {X : Type 0} (name : X → List ℕ) (xs : List X) (text : List ℕ) (p : ℕ) : Type 0 where
  pub item : X
  pub stands : slice_get xs p ≡ Some item
  pub named : text ≡ name item

abbrev FoundFrom : {X : Type 0} → (X → List ℕ) → List X → List ℕ → ℕ → ℕ → Type 0
FoundFrom name xs text from p = (k : ℕ) × (p ≡ from + k) × IsNamed name xs text k

found_step : {X : Type 0} (name : X → List ℕ) (x : X) (xs : List X) (text : List ℕ) (from p : ℕ) (rest : Option ℕ) (b : Bool) → bytes_eq text (name x) ≡ b
    → (rest ≡ Some p → FoundFrom name xs text (from + 1) p) → cond b (Some from) rest ≡ Some p → FoundFrom name (x ∷ xs) text from p
found_step name x xs text from p rest true e later h =
    let same : from ≡ p = cc in
    (0, omega arith, record { item = x; stands = refl; named = same_bytes text (name x) e })
found_step name x xs text from p rest false e later h =
    let r = later h in
    let next : p ≡ from + suc r.0 = omega (arith, r.1) in
    (suc r.0, next, record { item = r.2.item; stands = r.2.stands; named = r.2.named })

found_from : {X : Type 0} (name : X → List ℕ) (xs : List X) (text : List ℕ) (from p : ℕ) → position_from (bytes_eq text) from (map name xs) ≡ Some p → FoundFrom name xs text from p
found_from name [] text from p h = absurd (cc)
found_from name (x ∷ xs) text from p h =
    found_step name x xs text from p (position_from (bytes_eq text) (from + 1) (map name xs)) (bytes_eq text (name x)) refl (found_from name xs text (from + 1) p) h

pub found_named : {X : Type 0} (name : X → List ℕ) (xs : List X) (text : List ℕ) (p : ℕ) → position_from (bytes_eq text) 0 (map name xs) ≡ Some p → IsNamed name xs text p
found_named name xs text p h =
    let r = found_from name xs text 0 p h in
    let same : r.0 ≡ p = omega (arith, r.1) in
    subst (λ n. IsNamed name xs text n) same r.2

-- two names that find one item are one
pub one_name : {X : Type 0} (name : X → List ℕ) (xs : List X) (a b : List ℕ) (p q : ℕ) → IsNamed name xs a p → IsNamed name xs b q → p ≡ q → a ≡ b
one_name name xs a b p q h k e =
    let same : Some h.item ≡ Some k.item = sym h.stands ∙ ap (slice_get xs) e ∙ k.stands in
    let item : h.item ≡ k.item = cc in
    h.named ∙ ap name item ∙ sym k.named

-- COLUMNS

abbrev pub column_name : ColumnEntry → List ℕ
column_name c = c.name

-- a name of a column that stands: its place, and the column there
pub record IsColumn (columns : List ColumnEntry) (n : Name) : Type 0 where
  pub column : ColumnEntry
  pub stands : slice_get columns (place_of columns n) ≡ Some column
  pub named : n.text ≡ column.name

pub is_column : (columns : List ColumnEntry) (n : Name) (p : ℕ) → column_place columns n.text ≡ Some p → IsColumn columns n
is_column columns n p h =
    let found : IsNamed column_name columns n.text p = found_named column_name columns n.text p h in
    let place : place_of columns n ≡ p = ap (λ (o : Option ℕ). unwrap_or o 0) h in
    record { column = found.item; stands = ap (slice_get columns) place ∙ found.stands; named = found.named }

pub one_column : (columns : List ColumnEntry) (a b : Name) → IsColumn columns a → IsColumn columns b → place_of columns a ≡ place_of columns b → a.text ≡ b.text
one_column columns a b h k e =
    let same : Some h.column ≡ Some k.column = sym h.stands ∙ ap (slice_get columns) e ∙ k.stands in
    let column : h.column ≡ k.column = cc in
    h.named ∙ ap column_name column ∙ sym k.named

-- TABLES

abbrev table_name : List ℕ × TableEntry → List ℕ
table_name t = t.0

-- a name of a table that stands: its place, and the table there
pub record IsTable (tables : Tables) (text : List ℕ) : Type 0 where
  pub table : List ℕ × TableEntry
  pub stands : slice_get tables (number_of tables text).0 ≡ Some table
  pub found : table_named tables text ≡ Some table
  pub named : text ≡ table.0

pub is_table : (tables : Tables) (text : List ℕ) → is_some (table_in tables text) ≡ true → IsTable tables text
is_table tables text h =
    let there : (p : ℕ) × (table_in tables text ≡ Some p) = is_there (table_in tables text) h in
    let at : position_from (bytes_eq text) 0 (map table_name tables) ≡ Some there.0 = sym (position_from-zero (bytes_eq text) (map table_name tables)) ∙ there.1 in
    let item : IsNamed table_name tables text there.0 = found_named table_name tables text there.0 at in
    let place : (number_of tables text).0 ≡ there.0 = ap (λ (o : Option ℕ). unwrap_or o 0) there.1 in
    record {
      table = item.item;
      stands = ap (slice_get tables) place ∙ item.stands;
      found = ap (λ (o : Option ℕ). option_and_then (slice_get tables) o) there.1 ∙ item.stands;
      named = item.named;
    }

-- tables that there are, of one number, have one name
pub one_table : (tables : Tables) (a b : List ℕ) → IsTable tables a → IsTable tables b → number_of tables a ≡ number_of tables b → a ≡ b
one_table tables a b h k e =
    let same : Some h.table ≡ Some k.table = sym h.stands ∙ ap (λ (t : TableNo). slice_get tables t.0) e ∙ k.stands in
    let table : h.table ≡ k.table = cc in
    h.named ∙ ap table_name table ∙ sym k.named

-- the table of a number is the one that its name finds
pub table_is : (tables : Tables) (text : List ℕ) (t : List ℕ × TableEntry) → IsTable tables text → slice_get tables (number_of tables text).0 ≡ Some t → table_named tables text ≡ Some t
table_is tables text t h stands = h.found ∙ sym h.stands ∙ stands
