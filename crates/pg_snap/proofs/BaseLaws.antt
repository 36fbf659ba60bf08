-- What is found in a base is what its tables hold.
use Rattle.std.proofs.Common.{ℕ, zero, suc, ◌≡◌, ◌≤◌, ◌+◌, List, [], ◌∷◌, length, get_or, refl, ap, sym, ◌∙◌, arith}
use Rattle.std.specs.Prelude.{slice_get}
use Rattle.std.specs.Option.{option_map, unwrap_or}
use Rattle.pg_chunks.specs.Digits.{digits, digits_more}
use Rattle.pg_value.specs.declared.value.Value.{Value}
use Rattle.pg_value.specs.declared.value.Dir.{Dir}
use Rattle.pg_value.specs.declared.value.Dir.TheVariants.{Out, In}
use Rattle.pg_value.specs.declared.shape.TableNo.{TableNo}
use Rattle.pg_value.specs.declared.shape.EdgeNo.{EdgeNo}
use Rattle.pg_value.specs.declared.shape.EdgeShape.{EdgeShape}
use Rattle.pg_value.specs.declared.shape.Shapes.{Shapes}
use Rattle.pg_value.specs.Tables.{Stored, Tables, stored_at, held_in}
use Rattle.pg_value.specs.TablesLaws.{stored_in, stored_at_in}
use Rattle.pg_adj.specs.declared.ends.EdgeEnds.{EdgeEnds}
use Rattle.pg_view.specs.Lists.{joined, rows_in, Hold, AreLists}
use Rattle.pg_snap.specs.Costs.{base_cost}
use Rattle.pg_snap.specs.Bases.{BaseOf, ends_held, ends_in_base, entries_in_base}
use Rattle.pg_snap.specs.declared.vertex.Side.{Side}
use Rattle.pg_snap.specs.declared.sides.BothSides.{BothSides}
use Rattle.pg_snap.specs.Under.{sides_of}
use Rattle.pg_snap.specs.Sides.{AreSides, AreBothSides, AreSidesOf, side, side_of_table, sides_at}

pub found : (lists : List (List Stored)) (t : TableNo) (k : List Value) (rows : List Stored) → Hold lists (joined lists) → rows ≡ rows_in lists t → stored_in k rows ≡ stored_at (t.0, k) (joined lists)
found lists t k rows h e = ap (stored_in k) (e ∙ sym (h t)) ∙ stored_at_in t k (joined lists)

none_there : (dir : Dir) → AreSides dir [] []
none_there dir = record { full = tt; few = (omega arith); at = λ k. refl }

one_side : (dir : Dir) (ends : List EdgeEnds) (both : BothSides) → AreBothSides ends both → AreSides dir ends (side dir both)
one_side Out ends both a = a.out
one_side In ends both a = a.into

pub sides_are_of : (tables : Tables) (shapes : List EdgeShape) (sides : List BothSides) (n : ℕ) (dir : Dir) → AreSidesOf shapes tables sides → AreSides dir (unwrap_or (option_map (ends_held tables) (slice_get shapes n)) []) (side_of_table dir (slice_get sides n))
sides_are_of tables [] [] n dir a = none_there dir
sides_are_of tables [] (b ∷ sides) n dir a = absurd a
sides_are_of tables (s ∷ shapes) [] n dir a = absurd a
sides_are_of tables (s ∷ shapes) (b ∷ sides) zero dir a = one_side dir (ends_held tables s) b a.0
sides_are_of tables (s ∷ shapes) (b ∷ sides) (suc n) dir a = sides_are_of tables shapes sides n dir a.1

pub base_sides : (shapes : Shapes) (n : ℕ) (lists : List (List Stored)) (sides : List BothSides) (base : BaseOf) (e : EdgeNo) (dir : Dir) (v : List Value) (r : List Side) → AreSidesOf shapes.edges (joined lists) sides
    → record { shapes = shapes; no = n; tables = joined lists } ≡ base → r ≡ sides_at v (side_of_table dir (slice_get sides e.0)) → r ≡ sides_of (entries_in_base base e dir v)
base_sides shapes n lists sides base e dir v r b q h = h ∙ (sides_are_of (joined lists) shapes.edges sides e.0 dir b).at v ∙ ap (λ c. sides_of (entries_in_base c e dir v)) q

pub sides_cost : (shapes : Shapes) (n : ℕ) (lists : List (List Stored)) (sides : List BothSides) (base : BaseOf) (e : EdgeNo) (dir : Dir) (before after : ℕ) → AreSidesOf shapes.edges (joined lists) sides
    → record { shapes = shapes; no = n; tables = joined lists } ≡ base → after ≤ before + 2 + digits (length (side_of_table dir (slice_get sides e.0))) → after ≤ before + (3 + digits (length (ends_in_base base e)))
sides_cost shapes n lists sides base e dir before after b q h =
    let d = digits_more _ _ (sides_are_of (joined lists) shapes.edges sides e.0 dir b).few in
    let k = ap (λ c. digits (length (ends_in_base c e))) q in
    omega (arith, h, d, k)

pub row_cost : (shapes : Shapes) (n : ℕ) (lists : List (List Stored)) (base : BaseOf) (t : TableNo) (before after : ℕ) → AreLists shapes lists → record { shapes = shapes; no = n; tables = joined lists } ≡ base
    → after ≤ before + 1 + digits (length (get_or lists t.0 [])) → after ≤ before + base_cost base t
row_cost shapes n lists base t before after a q h =
    let e = ap (λ rows. digits (length rows)) (sym (a.hold t)) in
    let k = ap (λ c. digits (length (held_in t c.tables))) q in
    omega (arith, h, e, k)
