use Rattle.std.proofs.Common.{◌≡◌, ◌+◌, take}
use Rattle.pg_meaning.specs.CExprs.{ctree_of}
use Rattle.pg_meaning.specs.Meaning.{aggregate, present, elems_of}
use Rattle.pg_expr.specs.Operands.{seen}
use Rattle.pg_expr.specs.References.{values_at}
use Rattle.pg_expr.proofs.Parts.{depth}
use Rattle.pg_expr.proofs.evaluate.+value.Given as goal

abbrev pub decreases-value : goal.decreases-value
decreases-value g l = depth (ctree_of l.expr.now)

abbrev pub decreases-aggregate : goal.decreases-aggregate
decreases-aggregate g l = depth (ctree_of l.arg.now) + 1

-- the aggregate over the elements so far
abbrev pub invariant-aggregate-loop-elem : goal.invariant-aggregate-loop-elem
invariant-aggregate-loop-elem g l =
    seen l.so_far ≡ aggregate l.fn.agg (present (values_at (ctree_of l.fn.arg) (g.R.References.scope l.fn.references) l.fn.var (take l.elem-index (elems_of (g.R.References.scope l.fn.references) l.fn.var))))
