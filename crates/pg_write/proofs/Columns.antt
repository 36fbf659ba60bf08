-- A row that has no more values has no fault in its other columns.
use Rattle.std.proofs.Common.{ℕ, ◌≡◌, ◌≤◌, length, refl, ap, ◌∙◌, List, [], ◌∷◌, drop}
use Rattle.std.proofs.lemmas.List.{drop_all}
use Rattle.std.specs.declared.option.Option.TheVariants.{None}
use Rattle.pg_value.specs.declared.value.Value.{Value}
use Rattle.pg_value.specs.declared.shape.ColumnShape.{ColumnShape}
use Rattle.pg_value.specs.declared.shape.TableShape.{TableShape}
use Rattle.pg_rules.specs.Changes.InsertEffect.{column_fault}

nothing : (shape : TableShape) (column : ℕ) (cs : List ColumnShape) → column_fault shape column cs [] ≡ None
nothing shape column [] = refl
nothing shape column (c ∷ cs) = refl

pub run_out : (shape : TableShape) (i : ℕ) (cs : List ColumnShape) (vs : List Value) → length vs ≤ i → column_fault shape i (drop i cs) (drop i vs) ≡ None
run_out shape i cs vs h = ap (column_fault shape i (drop i cs)) (drop_all i vs h) ∙ nothing shape i (drop i cs)
