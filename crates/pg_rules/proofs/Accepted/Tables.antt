-- A table that is accepted has a column and a key column.
use Rattle.std.proofs.Common.{◌≡◌, ◌≤◌, ◌==◌, ℕ, Bool, true, not, sym, subst, arith, eqb-true, List, [], ◌∷◌, length}
use Rattle.std.proofs.lemmas.List.{length-map}
use Rattle.std.specs.List.{flat_map}
use Rattle.pg_keyed.specs.Lists.{Each}
use Rattle.pg_ast.specs.declared.expr.Name.{Name}
use Rattle.pg_ast.specs.declared.define.ColumnDef.{ColumnDef}
use Rattle.pg_rules.specs.declared.fault.DefineFault.TheVariants as faults
use Rattle.pg_rules.specs.Accepted.{AcceptedTablesAreFull}
use Rattle.pg_rules.specs.Places.{least, place_if, no_fault, no_least}
use Rattle.pg_rules.specs.Definitions.Tables.{name_taken, no_column, key_mismatch, member, unknown, texts, is_defined, key_of, column_of, columns_of, place_of}
use Rattle.pg_rules.proofs.KeptSound.EmptyPlaces.{left_nil, no_place, is_not}
use Rattle.pg_rules.proofs.KeptSound.Lists.{true_false}

-- what some columns have among them is there
some_column : (cs : List ColumnDef) (text : List ℕ) → member text (texts cs) ≡ true → 1 ≤ length cs
some_column [] text h = absurd (true_false (sym h))
some_column (c ∷ cs) text h = omega arith

full : (cs : List ColumnDef) (keys : List (List Name)) → length keys ≡ 1 → Each (λ key. 1 ≤ length key) keys → flat_map (unknown (texts cs)) keys ≡ [] → (1 ≤ length cs) × (1 ≤ length (key_of keys))
full cs [] n h k = absurd (omega (arith, n))
full cs ([] ∷ keys) n h k = let l = h.0 in absurd (omega (arith, l))
full cs ((name ∷ names) ∷ keys) n h k =
    let own = left_nil (unknown (texts cs) (name ∷ names)) (flat_map (unknown (texts cs)) keys) k in
    let place : Bool = not (member name.text (texts cs)) in
    let known = is_not (member name.text (texts cs)) (no_place place name.at (left_nil (place_if place name.at) (unknown (texts cs) names) own)) in
    (some_column cs name.text known, omega arith)

pub accepted_tables_are_full : AcceptedTablesAreFull
accepted_tables_are_full d t written h =
    let a = no_fault faults.NameTaken (least (name_taken (is_defined d t.name.text) t)) _ h in
    let b = no_fault faults.NoColumn (least (no_column t)) _ a.1 in
    let c = no_fault faults.KeyMismatch (least (key_mismatch t)) _ b.1 in
    let one = no_place (not (length t.keys == 1)) t.name.at (no_least (key_mismatch t) c.0) in
    let f = full t.columns t.keys (eqb-true (length t.keys) 1 (is_not (length t.keys == 1) one)) written (no_least (no_column t) b.0) in (
      subst (λ n. 1 ≤ n) (sym (length-map t.columns (column_of (key_of t.keys)))) f.0,
      subst (λ n. 1 ≤ n) (sym (length-map (key_of t.keys) (place_of (columns_of t)))) f.1,
    )
