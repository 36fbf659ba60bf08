-- A checked expression as plain data, for definitions by recursion.
use Rattle.std.specs.Prelude.{ℕ, ◌≡◌, List, Option}
use Rattle.std.proofs.Common.{refl, ap, ◌∙◌}
use Rattle.pg_value.specs.declared.value.Value.{Value}
use Rattle.pg_ast.specs.declared.expr.UnOp.{UnOp}
use Rattle.pg_ast.specs.declared.expr.BinOp.{BinOp}
use Rattle.pg_ast.specs.declared.expr.Agg.{Agg as AggName}
use Rattle.pg_meaning.specs.declared.checked.CExpr.{CExpr, Lit, Column, Property, Unary', Binary', Agg', CountVar, more_of-CExpr, end_of-CExpr}
use Rattle.pg_meaning.specs.declared.checked.CExpr.TheBlock.{hidden-the_row-CExpr-0}
use denote.Hole.Carrier.{hidden}
use Rattle.pg_meaning.specs.declared.checked.CExpr.TheVariants.{Unary, Binary, Agg}

pub data CTree : Type 0 where
  Literal : Value → CTree
  ColumnAt : ℕ → CTree
  PropertyOf : ℕ → List (Option ℕ) → CTree
  One : UnOp → CTree → CTree
  Two : BinOp → CTree → CTree → CTree
  Group : AggName → CTree → CTree
  Counted : ℕ → CTree

abbrev pub ctree_of : CExpr → CTree
ctree_of (Lit v) = Literal v
ctree_of (Column c) = ColumnAt c
ctree_of (Property x columns) = PropertyOf x columns
ctree_of (Unary' op s (more_of-CExpr x end_of-CExpr)) = One op (ctree_of x)
ctree_of (Binary' op s (more_of-CExpr x end_of-CExpr) r (more_of-CExpr y end_of-CExpr)) = Two op (ctree_of x) (ctree_of y)
ctree_of (Agg' agg s (more_of-CExpr x end_of-CExpr)) = Group agg (ctree_of x)
ctree_of (CountVar x) = Counted x

pub tree_unary : (op : UnOp) (x : CExpr) → ctree_of (Unary op x) ≡ One op (ctree_of x)
unfolding hidden-the_row-CExpr-0 hidden
tree_unary op x = refl

pub tree_binary : (op : BinOp) (x y : CExpr) → ctree_of (Binary op x y) ≡ Two op (ctree_of x) (ctree_of y)
unfolding hidden-the_row-CExpr-0 hidden
tree_binary op x y = refl

pub tree_agg : (agg : AggName) (x : CExpr) → ctree_of (Agg agg x) ≡ Group agg (ctree_of x)
unfolding hidden-the_row-CExpr-0 hidden
tree_agg agg x = refl

pub is_unary : (e : CExpr) (op : UnOp) (x : CExpr) → e ≡ Unary op x → ctree_of e ≡ One op (ctree_of x)
is_unary e op x h = ap ctree_of h ∙ tree_unary op x

pub is_binary : (e : CExpr) (op : BinOp) (x y : CExpr) → e ≡ Binary op x y → ctree_of e ≡ Two op (ctree_of x) (ctree_of y)
is_binary e op x y h = ap ctree_of h ∙ tree_binary op x y

pub is_agg : (e : CExpr) (agg : AggName) (x : CExpr) → e ≡ Agg agg x → ctree_of e ≡ Group agg (ctree_of x)
is_agg e agg x h = ap ctree_of h ∙ tree_agg agg x
