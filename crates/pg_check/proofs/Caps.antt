-- Counting widths as far as 127 loses nothing.
use Rattle.std.proofs.Common.{◌≡◌, ℕ, refl, arith, Bool, true, false, not, ◌&&◌, ap, ◌∙◌}
use Rattle.pg_ast.specs.declared.expr.UnOp.{UnOp}
use Rattle.pg_ast.specs.declared.expr.UnOp.TheVariants.{Minus, Not, IsNull, IsNotNull}
use Rattle.pg_ast.specs.declared.expr.BinOp.{BinOp}
use Rattle.pg_ast.specs.declared.expr.BinOp.TheVariants as bin
use Rattle.pg_ast.specs.declared.expr.Agg.{Agg}
use Rattle.pg_ast.specs.declared.expr.Agg.TheVariants.{Count, Sum, Min, Max}
use Rattle.pg_meaning.specs.Typing.{too_wide, unary_width, binary_width, agg_width}
use Rattle.pg_check.specs.Scopes.{capped, is_over}

pub cap_unary : (op : UnOp) (w : ℕ) → capped (unary_width op (capped w)) ≡ capped (unary_width op w)
cap_unary Minus w = omega arith
cap_unary Not w = refl
cap_unary IsNull w = refl
cap_unary IsNotNull w = refl

pub cap_binary : (op : BinOp) (v w : ℕ) → capped (binary_width op (capped v) (capped w)) ≡ capped (binary_width op v w)
cap_binary bin.Or v w = refl
cap_binary bin.And v w = refl
cap_binary bin.Eq v w = refl
cap_binary bin.Ne v w = refl
cap_binary bin.Lt v w = refl
cap_binary bin.Le v w = refl
cap_binary bin.Gt v w = refl
cap_binary bin.Ge v w = refl
cap_binary bin.Plus v w = omega arith
cap_binary bin.Minus v w = omega arith
cap_binary bin.Times v w = omega arith

pub cap_agg : (agg : Agg) (w : ℕ) → capped (agg_width agg (capped w)) ≡ capped (agg_width agg w)
cap_agg Count w = refl
cap_agg Sum w = omega arith
cap_agg Min w = omega arith
cap_agg Max w = omega arith

pub below : (w : ℕ) → too_wide w ≡ false → capped w ≡ w
below w h = grind arith

same : (f : ℕ → ℕ) (w : ℕ) → is_over (f (capped w)) (capped w) 0 ≡ is_over (f w) w 0
same f w = elim (too_wide w) as (λ b. too_wide w ≡ b → is_over (f (capped w)) (capped w) 0 ≡ is_over (f w) w 0) [ true ↦ λ e. grind arith | false ↦ λ e. ap (λ n. is_over (f n) n 0) (below w e) ] refl

same_two : (f : ℕ → ℕ → ℕ) (v w : ℕ) → is_over (f (capped v) (capped w)) (capped v) (capped w) ≡ is_over (f v w) v w
same_two f v w = elim (too_wide v) as (λ b. too_wide v ≡ b → is_over (f (capped v) (capped w)) (capped v) (capped w) ≡ is_over (f v w) v w) [
  | true ↦ λ e. grind arith
  | false ↦ λ e. elim (too_wide w) as (λ b. too_wide w ≡ b → is_over (f (capped v) (capped w)) (capped v) (capped w) ≡ is_over (f v w) v w) [
    | true ↦ λ e'. grind arith
    | false ↦ λ e'. ap (λ n. is_over (f n (capped w)) n (capped w)) (below v e) ∙ ap (λ n. is_over (f v n) v n) (below w e')
  ] refl
] refl

and_true : (a b : Bool) → (a && (b && true)) ≡ (a && b)
and_true true true = refl
and_true true false = refl
and_true false b = refl

pub over_unary : (op : UnOp) (w : ℕ) → is_over (unary_width op (capped w)) (capped w) 0 ≡ (too_wide (unary_width op w) && not (too_wide w))
over_unary op w = same (unary_width op) w ∙ and_true (too_wide (unary_width op w)) (not (too_wide w))

pub over_binary : (op : BinOp) (v w : ℕ) → is_over (binary_width op (capped v) (capped w)) (capped v) (capped w) ≡ is_over (binary_width op v w) v w
over_binary op v w = same_two (binary_width op) v w

pub over_agg : (agg : Agg) (w : ℕ) → is_over (agg_width agg (capped w)) (capped w) 0 ≡ (too_wide (agg_width agg w) && not (too_wide w))
over_agg agg w = same (agg_width agg) w ∙ and_true (too_wide (agg_width agg w)) (not (too_wide w))
