-- Expressions and label expressions as plain data: the trees that definitions and laws recurse over.
use Rattle.std.specs.Prelude.{ℕ, ◌≡◌}
use Rattle.std.proofs.Common.{refl, ap, ◌∙◌}
use Rattle.pg_value.specs.declared.value.Value.{Value}
use Rattle.pg_ast.specs.declared.expr.Name.{Name}
use Rattle.pg_ast.specs.declared.expr.UnOp.{UnOp}
use Rattle.pg_ast.specs.declared.expr.BinOp.{BinOp}
use Rattle.pg_ast.specs.declared.expr.Agg.{Agg as AggName}
use Rattle.pg_ast.specs.declared.expr.Expr.{Expr, Lit, TooWide, Column, Property, Unary', Binary', Agg', CountVar, more_of-Expr, end_of-Expr}
use Rattle.pg_ast.specs.declared.expr.Expr.TheBlock.{hidden-the_row-Expr-0}
use denote.Hole.Carrier.{hidden}
use Rattle.pg_ast.specs.declared.expr.Expr.TheVariants.{Unary, Binary, Agg}
use Rattle.pg_ast.specs.declared.pattern.LabelExpr.{LabelExpr, All, Is, Not', And', Or', more_of-LabelExpr, end_of-LabelExpr}
use Rattle.pg_ast.specs.declared.pattern.LabelExpr.TheBlock.{hidden-the_row-LabelExpr-0}
use Rattle.pg_ast.specs.declared.pattern.LabelExpr.TheVariants as label

-- EXPRESSIONS

pub data ExprTree : Type 0 where
  Literal : Value → ℕ → ℕ → ExprTree
  Wide : ℕ → ExprTree
  ColumnOf : Name → ExprTree
  PropertyOf : Name → Name → ExprTree
  One : UnOp → ExprTree → ℕ → ExprTree
  Two : BinOp → ExprTree → ExprTree → ℕ → ExprTree
  Group : AggName → ExprTree → ℕ → ExprTree
  Counted : Name → ℕ → ExprTree

abbrev pub tree_of : Expr → ExprTree
tree_of (Lit v bits at) = Literal v bits at
tree_of (TooWide at) = Wide at
tree_of (Column n) = ColumnOf n
tree_of (Property v n) = PropertyOf v n
tree_of (Unary' op s (more_of-Expr x end_of-Expr) at) = One op (tree_of x) at
tree_of (Binary' op s (more_of-Expr x end_of-Expr) r (more_of-Expr y end_of-Expr) at) = Two op (tree_of x) (tree_of y) at
tree_of (Agg' agg s (more_of-Expr x end_of-Expr) at) = Group agg (tree_of x) at
tree_of (CountVar v at) = Counted v at

pub tree_unary : (op : UnOp) (x : Expr) (at : ℕ) → tree_of (Unary op x at) ≡ One op (tree_of x) at
unfolding hidden-the_row-Expr-0 hidden
tree_unary op x at = refl

pub tree_binary : (op : BinOp) (x y : Expr) (at : ℕ) → tree_of (Binary op x y at) ≡ Two op (tree_of x) (tree_of y) at
unfolding hidden-the_row-Expr-0 hidden
tree_binary op x y at = refl

pub tree_agg : (agg : AggName) (x : Expr) (at : ℕ) → tree_of (Agg agg x at) ≡ Group agg (tree_of x) at
unfolding hidden-the_row-Expr-0 hidden
tree_agg agg x at = refl

pub is_unary : (e : Expr) (op : UnOp) (x : Expr) (at : ℕ) → e ≡ Unary op x at → tree_of e ≡ One op (tree_of x) at
is_unary e op x at h = ap tree_of h ∙ tree_unary op x at

pub is_binary : (e : Expr) (op : BinOp) (x y : Expr) (at : ℕ) → e ≡ Binary op x y at → tree_of e ≡ Two op (tree_of x) (tree_of y) at
is_binary e op x y at h = ap tree_of h ∙ tree_binary op x y at

pub is_agg : (e : Expr) (agg : AggName) (x : Expr) (at : ℕ) → e ≡ Agg agg x at → tree_of e ≡ Group agg (tree_of x) at
is_agg e agg x at h = ap tree_of h ∙ tree_agg agg x at

-- LABEL EXPRESSIONS

pub data LabelTree : Type 0 where
  Every : LabelTree
  Named : Name → LabelTree
  NotL : LabelTree → LabelTree
  AndL : LabelTree → LabelTree → LabelTree
  OrL : LabelTree → LabelTree → LabelTree

abbrev pub label_tree : LabelExpr → LabelTree
label_tree All = Every
label_tree (Is n) = Named n
label_tree (Not' s (more_of-LabelExpr x end_of-LabelExpr)) = NotL (label_tree x)
label_tree (And' s (more_of-LabelExpr x end_of-LabelExpr) r (more_of-LabelExpr y end_of-LabelExpr)) = AndL (label_tree x) (label_tree y)
label_tree (Or' s (more_of-LabelExpr x end_of-LabelExpr) r (more_of-LabelExpr y end_of-LabelExpr)) = OrL (label_tree x) (label_tree y)

pub tree_not : (x : LabelExpr) → label_tree (label.Not x) ≡ NotL (label_tree x)
unfolding hidden-the_row-LabelExpr-0 hidden
tree_not x = refl

pub tree_and : (x y : LabelExpr) → label_tree (label.And x y) ≡ AndL (label_tree x) (label_tree y)
unfolding hidden-the_row-LabelExpr-0 hidden
tree_and x y = refl

pub tree_or : (x y : LabelExpr) → label_tree (label.Or x y) ≡ OrL (label_tree x) (label_tree y)
unfolding hidden-the_row-LabelExpr-0 hidden
tree_or x y = refl

pub is_not : (e x : LabelExpr) → e ≡ label.Not x → label_tree e ≡ NotL (label_tree x)
is_not e x h = ap label_tree h ∙ tree_not x

pub is_and : (e x y : LabelExpr) → e ≡ label.And x y → label_tree e ≡ AndL (label_tree x) (label_tree y)
is_and e x y h = ap label_tree h ∙ tree_and x y

pub is_or : (e x y : LabelExpr) → e ≡ label.Or x y → label_tree e ≡ OrL (label_tree x) (label_tree y)
is_or e x y h = ap label_tree h ∙ tree_or x y
