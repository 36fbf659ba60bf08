-- Expressions of the tests that are sound: an operator between two literals of kinds that it takes, of at most 63 binary digits each, a column
-- of text, and an aggregate over nothing.
use Rattle.std.proofs.Common.{◌≡◌, ◌≤◌, ◌<◌, ◌^◌, ℕ, ℤ, suc, zero, unsigned_abs, List, [], ◌∷◌, length, true, false, inl, inr, refl, ap, sym, subst, arith, lit≤, lit<}
use Rattle.std.specs.Prelude.{slice_get, Some, None}
use Rattle.std.specs.List.{AllZip}
use Rattle.std.proofs.lemmas.Int.Digits.{length-digits_of-le}
use Rattle.pg_value.specs.declared.value.Kind.TheVariants as kinds
use Rattle.pg_value.specs.declared.value.Value.{Value}
use Rattle.pg_value.specs.declared.value.Value.TheVariants.{Null, Int, Text, Bool as Truth'}
use Rattle.pg_value.specs.declared.row.Row.{Row}
use Rattle.pg_value.specs.declared.shape.ColumnShape.{ColumnShape}
use Rattle.pg_value.specs.declared.shape.Shapes.{Shapes}
use Rattle.pg_value.specs.Tables.{FitsColumn}
use Rattle.pg_ast.specs.declared.expr.BinOp.{BinOp}
use Rattle.pg_ast.specs.declared.expr.BinOp.TheVariants as bin
use Rattle.pg_ast.specs.declared.expr.Agg.{Agg as AggName}
use Rattle.pg_ast.specs.declared.expr.Agg.TheVariants.{Count, Sum, Min, Max}
use Rattle.pg_meaning.specs.declared.checked.CExpr.{CExpr}
use Rattle.pg_meaning.specs.declared.checked.CExpr.TheVariants.{Lit, Column, Property, Binary, Agg}
use Rattle.pg_meaning.specs.declared.checked.Slot.TheVariants.{Many}
use Rattle.pg_meaning.specs.declared.checked.Bound.{Bound}
use Rattle.pg_meaning.specs.CExprs.{is_agg, is_binary}
use Rattle.pg_meaning.specs.Typing.{value_kind, agg_takes, agg_width, binary_takes, binary_width, widest}
use Rattle.pg_meaning.specs.Members.{in_here, in_nil}
use Rattle.pg_meaning.specs.Mentions.{Grouped}
use Rattle.pg_meaning.specs.Sound.{Degrees, IsSoundTree}
use Rattle.pg_meaning.specs.Sound.Changes.{no_variables}
use Rattle.pg_meaning.specs.Sound.Kinds.{OfColumns, OfTables, literal_width}
use Rattle.pg_meaning.specs.Sound.Queries.{FitsBound}
use Rattle.pg_expr.specs.Operands.{number_in}
use Rattle.pg_expr.specs.Conditions.{IsCheckedForBound, IsCheckedForRow}

-- TWO LITERALS

narrow : (op : BinOp) (v w : ℕ) → v ≤ 63 → w ≤ 63 → binary_width op v w ≤ widest
narrow bin.Or v w h k = lit≤ tt
narrow bin.And v w h k = lit≤ tt
narrow bin.Eq v w h k = lit≤ tt
narrow bin.Ne v w h k = lit≤ tt
narrow bin.Lt v w h k = lit≤ tt
narrow bin.Le v w h k = lit≤ tt
narrow bin.Gt v w h k = lit≤ tt
narrow bin.Ge v w h k = lit≤ tt
narrow bin.Plus v w h k = omega (arith, h, k)
narrow bin.Minus v w h k = omega (arith, h, k)
narrow bin.Times v w h k = omega (arith, h, k)

within : (w : ℕ) → w ≤ 63 → w ≤ widest
within w h = omega (arith, h)

pub pair_checked : (row : Row) (e : CExpr) (op : BinOp) (u v : Value) → e ≡ Binary op (Lit u) (Lit v) → binary_takes op (value_kind u) (value_kind v) ≡ true → literal_width u ≤ 63 → literal_width v ≤ 63
    → IsCheckedForRow row e
pair_checked row e op u v is takes h k = record {
  columns = [];
  sound = subst (IsSoundTree (OfColumns []) no_variables) (sym (is_binary e op (Lit u) (Lit v) is))
      (record { reads = (tt, tt); binds = (tt, tt); typed = (takes, tt, tt); narrow = (narrow op (literal_width u) (literal_width v) h k, within (literal_width u) h, within (literal_width v) k) });
  fits = inr refl;
}

pub short : (v : Value) (n : ℤ) → number_in v ≡ Some n → unsigned_abs n < 2 ^ 63 → literal_width v ≤ 63
short Null n is h = cc
short (Text t) n is h = cc
short (Truth' b) n is h = cc
short (Int m) n is h =
    let same : n ≡ m = cc in
    length-digits_of-le 2 63 (unsigned_abs m) (lit≤ tt) (subst (λ n. unsigned_abs n < 2 ^ 63) same h)

pub no_number : (v : Value) → number_in v ≡ None → literal_width v ≤ 63
no_number Null h = lit≤ tt
no_number (Text t) h = lit≤ tt
no_number (Truth' b) h = lit≤ tt
no_number (Int n) h = cc

-- A COLUMN OF TEXT

abbrev of_text : List ℕ → ColumnShape
of_text t = record { kind = kinds.Text; not_null = false; max_bytes = length t }

pub column_checked : (t : List ℕ) (row : Row) → row.values ≡ Text t ∷ [] → IsCheckedForRow row (Column 0)
column_checked t row is = record {
  columns = of_text t ∷ [];
  sound = record { reads = lit< tt; binds = tt; typed = tt; narrow = lit≤ tt };
  fits = inl (subst (AllZip FitsColumn (of_text t ∷ [])) (sym is) ((refl, omega arith), tt));
}

-- AN AGGREGATE OVER NOTHING

abbrev no_shapes : Shapes
no_shapes = record { tables = []; edges = [] }

abbrev grouped : Degrees
grouped zero = Some Grouped
grouped (suc x) = None

takes_any : (agg : AggName) → agg_takes agg None ≡ true
takes_any Count = refl
takes_any Sum = refl
takes_any Min = refl
takes_any Max = refl

narrow_agg : (agg : AggName) → agg_width agg 0 ≤ widest
narrow_agg Count = lit≤ tt
narrow_agg Sum = lit≤ tt
narrow_agg Min = lit≤ tt
narrow_agg Max = lit≤ tt

nothing_fits : (bound : Bound) → bound.vars ≡ Many [] ∷ [] → FitsBound grouped [] bound
nothing_fits bound is zero = (Many [], ap (λ vars. slice_get vars 0) is, (tt, lit< tt))
nothing_fits bound is (suc x) = tt

pub aggregate_checked : (bound : Bound) (e : CExpr) (agg : AggName) → e ≡ Agg agg (Property 0 []) → bound.vars ≡ Many [] ∷ [] → IsCheckedForBound no_shapes [] bound e
aggregate_checked bound e agg is vars = record {
  degrees = grouped;
  sound = subst (IsSoundTree (OfTables no_shapes) grouped) (sym (is_agg e agg (Property 0 []) is)) (record {
    reads = record { stand = tt; one_kind = λ a b h k. absurd (in_nil a h) };
    binds = record { variable = 0; grouped = refl; stands = in_here 0 [] 0 refl; alone = refl };
    typed = (takes_any agg, tt);
    narrow = (narrow_agg agg, lit≤ tt);
  });
  fits = nothing_fits bound vars;
}
