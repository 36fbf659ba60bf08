-- A base under the writes of a run, and a base for other shapes.
use Rattle.std.proofs.Common.{◌≡◌, List, [], get_or, refl, ap, sym, ◌∙◌, subst}
use Rattle.std.specs.Prelude.{Result, Ok, Err, IfOk}
use Rattle.pg_value.specs.declared.shape.TableNo.{TableNo}
use Rattle.pg_value.specs.declared.shape.Shapes.{Shapes}
use Rattle.pg_value.specs.declared.shape.EdgeShape.{EdgeShape}
use Rattle.pg_keyed.specs.Puts.{put_nothing}
use Rattle.pg_value.specs.Order.{key_cmp}
use Rattle.pg_value.specs.Orders.{keys}
use Rattle.pg_view.specs.RowEnds.{all_ends}
use Rattle.pg_snap.specs.Bases.{ends_held}
use Rattle.pg_value.specs.declared.write.Write.{Write}
use Rattle.pg_value.specs.Order.{place_cmp}
use Rattle.pg_value.specs.Orders.{places}
use Rattle.pg_value.specs.Tables.{Stored, Tables, IsInOrder, FitWrites, FitTables, held_in, place_of}
use Rattle.pg_value.specs.TablesLaws.{key_of, key_named, writes_to, put_in, held_put_in, put_in_order, put_fits}
use Rattle.pg_value.specs.Writes as writes
use Rattle.pg_value.specs.Writes.{named}
use Rattle.pg_value.specs.Log.{put, row_given}
use Rattle.pg_meaning.specs.Sound.Graphs.{AreSoundShapes}
use Rattle.pg_view.specs.Lists.{joined, Hold, AreLists, ListsAreTables}
use Rattle.pg_rows.specs.Rows.{AreUnder}

pub if_ok : {A E : Type 0} (r : Result A E) (P Q : A → Type 0) → ((a : A) → P a → Q a) → IfOk r P → IfOk r Q
if_ok (Ok a) P Q f h = f a h
if_ok (Err e) P Q f h = tt

-- each table of the writes has its list
abbrev pub AreListsOf : List (List Write) → List Write → Type 0
AreListsOf lists ws = (t : TableNo) → get_or lists t.0 [] ≡ writes_to t ws

holds : (shapes : Shapes) (old new : List (List Stored)) (lists : List (List Write)) (ws : List Write) → AreLists shapes old → writes.IsInOrder ws → AreListsOf lists ws → AreUnder old lists new → Hold new (put (joined old) ws)
holds shapes old new lists ws a b g u t = held_put_in t (joined old) ws a.fit.in_order b ∙ (λ i. put_in (a.hold t i) (sym (g t) i)) ∙ sym (u t.0)

pub merged_whole : ListsAreTables → (shapes : Shapes) (old new : List (List Stored)) (lists : List (List Write)) (ws : List Write) → AreLists shapes old → writes.IsInOrder ws → AreListsOf lists ws → AreUnder old lists new → joined new ≡ put (joined old) ws
merged_whole law shapes old new lists ws a b g u = law.tables new (put (joined old) ws) (put_in_order (joined old) ws a.fit.in_order) (holds shapes old new lists ws a b g u)

pub merged_lists : ListsAreTables → (shapes : Shapes) (old new : List (List Stored)) (lists : List (List Write)) (ws : List Write) → AreLists shapes old → writes.IsInOrder ws → FitWrites shapes ws → AreListsOf lists ws → AreUnder old lists new → AreLists shapes new
merged_lists law shapes old new lists ws a b f g u = law.view shapes new (put (joined old) ws) a.sound (put_fits shapes (joined old) ws a.fit f) (holds shapes old new lists ws a b g u)

-- a table without writes
pub nothing_put : (shape : EdgeShape) (tables : Tables) (ws : List Write) → IsInOrder tables → writes.IsInOrder ws → writes_to shape.table ws ≡ [] → ends_held (put tables ws) shape ≡ ends_held tables shape
nothing_put shape tables ws a b n =
    ap (all_ends shape) (held_put_in shape.table tables ws a b ∙ ap (put_in (held_in shape.table tables)) n ∙ put_nothing key_of key_named row_given key_cmp keys (held_in shape.table tables))

put_none : (tables : Tables) → put tables [] ≡ tables
put_none tables = put_nothing place_of named row_given place_cmp places tables

-- the same lists for other shapes, which they fit
pub reshaped_lists : ListsAreTables → (shapes other : Shapes) (old new : List (List Stored)) → AreLists shapes old → AreSoundShapes other → FitTables other (joined old) → AreUnder old [] new → AreLists other new
reshaped_lists law shapes other old new a s f u = law.view other new (put (joined old) []) s (subst (λ ts. FitTables other ts) (sym (put_none (joined old))) f) (holds shapes old new [] [] a tt (λ t. refl) u)

pub reshaped_whole : ListsAreTables → (shapes : Shapes) (old new : List (List Stored)) → AreLists shapes old → AreUnder old [] new → joined new ≡ joined old
reshaped_whole law shapes old new a u = merged_whole law shapes old new [] [] a tt (λ t. refl) u ∙ put_none (joined old)
