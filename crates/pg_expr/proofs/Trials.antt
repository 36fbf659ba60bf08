-- Conditions that are met by numbers at the ends of what widths allow, and the values there.
use Rattle.std.proofs.Common.{◌≡◌, ◌≤◌, ℕ, ℤ, pos, negsuc, unsigned_abs, [], ◌∷◌, false, inl, inr, refl, sym, subst, arith, lit<, lit≤}
use Rattle.std.proofs.lemmas.Int.{ints}
use Rattle.std.proofs.lemmas.Int.Digits.{length-digits_of-le}
use Rattle.pg_value.specs.declared.value.Kind.TheVariants as kinds
use Rattle.pg_value.specs.declared.value.Value.TheVariants.{Null, Int}
use Rattle.pg_value.specs.declared.value.Truth.TheVariants.{True}
use Rattle.pg_value.specs.declared.row.Row.{Row}
use Rattle.pg_value.specs.declared.shape.ColumnShape.{ColumnShape}
use Rattle.pg_ast.specs.Grammar.Exprs.{binary_digits}
use Rattle.pg_ast.specs.declared.expr.BinOp.TheVariants.{Minus as Less', Times, Lt}
use Rattle.pg_meaning.specs.declared.checked.CExpr.{CExpr}
use Rattle.pg_meaning.specs.declared.checked.CExpr.TheVariants.{Lit, Column, Binary}
use Rattle.pg_meaning.specs.CExprs.{CTree, Literal, ColumnAt, Two, tree_binary}
use Rattle.pg_meaning.specs.Meaning.{Scope, OfRow, value_of, truth_of}
use Rattle.pg_meaning.specs.Sound.{IsSoundTree}
use Rattle.pg_meaning.specs.Sound.Changes.{no_variables}
use Rattle.pg_meaning.specs.Sound.Kinds.{OfColumns}
use Rattle.pg_expr.specs.Conditions.{IsCheckedForRow}

-- A PRODUCT OF TWO NUMBERS OF 63 DIGITS

abbrev long' : ℕ
long' = 9223372036854775807

digits : binary_digits long' ≤ 63
digits = length-digits_of-le 2 63 long' (lit≤ tt) (lit< tt)

abbrev product : ℤ → ℤ → CExpr
product m n = Binary Times (Lit (Int m)) (Lit (Int n))

abbrev product_tree : ℤ → ℤ → CTree
product_tree m n = Two Times (Literal (Int m)) (Literal (Int n))

product_sound : (m n : ℤ) → binary_digits (unsigned_abs m) ≤ 63 → binary_digits (unsigned_abs n) ≤ 63 → IsSoundTree (OfColumns []) no_variables (product_tree m n)
product_sound m n h k = record { reads = (tt, tt); binds = (tt, tt); typed = (refl, tt, tt); narrow = (omega (arith, h, k), omega (arith, h), omega (arith, k)) }

product_checked : (m n : ℤ) → binary_digits (unsigned_abs m) ≤ 63 → binary_digits (unsigned_abs n) ≤ 63 → (row : Row) → IsCheckedForRow row (product m n)
product_checked m n h k row = record {
  columns = [];
  sound = subst (IsSoundTree (OfColumns []) no_variables) (sym (tree_binary Times (Lit (Int m)) (Lit (Int n)))) (product_sound m n h k);
  fits = inr refl;
}

long_checked : (row : Row) → IsCheckedForRow row (product (pos long') (negsuc 9223372036854775806))
long_checked row = product_checked (pos long') (negsuc 9223372036854775806) digits digits row

long_value : (scope : Scope) → value_of (product_tree (pos long') (negsuc 9223372036854775806)) scope ≡ Int (negsuc 85070591730234615847396907784232501248)
long_value scope = refl

-- THE ENDS OF INTEGER

abbrev integer : ColumnShape
integer = record { kind = kinds.Int; not_null = false; max_bytes = 0 }

abbrev ends : Row
ends = record { values = Int (negsuc 2147483647) ∷ Int (pos 2147483647) ∷ Null ∷ [] }

abbrev difference : CExpr
difference = Binary Less' (Column 0) (Column 1)

difference_sound : IsSoundTree (OfColumns (integer ∷ integer ∷ integer ∷ [])) no_variables (Two Less' (ColumnAt 0) (ColumnAt 1))
difference_sound = record { reads = (lit< tt, lit< tt); binds = (tt, tt); typed = (refl, tt, tt); narrow = (lit≤ tt, lit≤ tt, lit≤ tt) }

difference_checked : IsCheckedForRow ends difference
difference_checked = record {
  columns = integer ∷ integer ∷ integer ∷ [];
  sound = subst (IsSoundTree (OfColumns (integer ∷ integer ∷ integer ∷ [])) no_variables) (sym (tree_binary Less' (Column 0) (Column 1))) difference_sound;
  fits = inl ((refl, omega (arith, ints), omega (arith, ints)), ((refl, omega (arith, ints), omega (arith, ints)), (refl, tt)));
}

differences : value_of (Two Less' (ColumnAt 0) (ColumnAt 1)) (OfRow ends) ∷ value_of (Two Less' (ColumnAt 1) (ColumnAt 0)) (OfRow ends) ∷ value_of (Two Less' (ColumnAt 0) (ColumnAt 2)) (OfRow ends) ∷ []
    ≡ Int (negsuc 4294967294) ∷ Int (pos 4294967295) ∷ Null ∷ []
differences = refl

least_is_less : truth_of (Two Lt (ColumnAt 0) (ColumnAt 1)) (OfRow ends) ≡ True
least_is_less = refl
