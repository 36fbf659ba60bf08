use Rattle.std.proofs.Common.{◌+◌, ◌<◌, arith, sym, ap, subst, ◌∙◌}
use Rattle.std.specs.Prelude.{not, is_some}
use Rattle.pg_meaning.specs.CExprs.{ctree_of}
use Rattle.pg_meaning.specs.Typing.{widest}
use Rattle.pg_meaning.specs.Sound.Kinds.{IsWithin}
use Rattle.pg_expr.specs.Evaluable.{IsEvaluable, IsGroupEvaluable}
use Rattle.pg_expr.specs.Operands.{seen}
use Rattle.pg_expr.specs.References.{chosen_in}
use Rattle.pg_expr.proofs.Aggregation.{turn}
use Rattle.pg_expr.proofs.Parts.{depth, first_var, below_unary, below_binary, below_agg, of_unary, of_binary, both_values, both_within, left_settles, one_value, operand_value, group_evaluable, group_value}
use Rattle.pg_expr.proofs.evaluate.+value.Goals as goal

pub value-value-arg-requires : goal.value-value-arg-requires
value-value-arg-requires g t c κs within =
    let scope = chosen_in c.args.chosen (g.R.References.scope c.args.references.now) in
    let part = of_unary (not (is_some c.args.chosen)) scope c.args.expr.now c.in-Unary.op c.in-Unary.arg c.in-Unary.is c.requires.evaluable in
    let less = subst (λ e. depth (ctree_of e) < depth (ctree_of c.args.expr.now)) (sym c.get.ensures) (below_unary c.args.expr.now c.in-Unary.op c.in-Unary.arg c.in-Unary.is) in
    (omega (arith, less), (within, (subst (λ e. IsEvaluable (not (is_some c.args.chosen)) (ctree_of e) scope) (sym c.get.ensures) part, c.requires.choice)))

pub value-value-left-requires : goal.value-value-left-requires
value-value-left-requires g t c κs within =
    let scope = chosen_in c.args.chosen (g.R.References.scope c.args.references.now) in
    let parts = of_binary (not (is_some c.args.chosen)) scope c.args.expr.now c.in-Binary.op c.in-Binary.left c.in-Binary.right c.in-Binary.is c.requires.evaluable in
    let less = subst (λ e. depth (ctree_of e) < depth (ctree_of c.args.expr.now)) (sym c.get-in-Binary.ensures) (below_binary c.args.expr.now c.in-Binary.op c.in-Binary.left c.in-Binary.right c.in-Binary.is).0 in
    (omega (arith, less), (within, (subst (λ e. IsEvaluable (not (is_some c.args.chosen)) (ctree_of e) scope) (sym c.get-in-Binary.ensures) parts.1, c.requires.choice)))

pub value-value-right-requires : goal.value-value-right-requires
value-value-right-requires g t c κs within =
    let scope = chosen_in c.args.chosen (g.R.References.scope c.args.references.now) in
    let parts = of_binary (not (is_some c.args.chosen)) scope c.args.expr.now c.in-Binary.op c.in-Binary.left c.in-Binary.right c.in-Binary.is c.requires.evaluable in
    let less = subst (λ e. depth (ctree_of e) < depth (ctree_of c.args.expr.now)) (sym c.get-in-None.ensures) (below_binary c.args.expr.now c.in-Binary.op c.in-Binary.left c.in-Binary.right c.in-Binary.is).1 in
    (omega (arith, less), (within, (subst (λ e. IsEvaluable (not (is_some c.args.chosen)) (ctree_of e) scope) (sym c.get-in-None.ensures) parts.2, c.requires.choice)))

pub value-returns-in-Some : goal.value-returns-in-Some
value-returns-in-Some g t c =
    let scope = chosen_in c.args.chosen (g.R.References.scope c.args.references.now) in
    left_settles scope c.args.expr.now c.in-Binary.op c.in-Binary.left c.in-Binary.right c.get-in-Binary-2.result.now c.in-Some.truth c.in-Binary.is
    (operand_value scope c.in-Binary.left c.get-in-Binary.result.now c.get-in-Binary-2.result.now (seen c.value-left.result) c.get-in-Binary-2.ensures c.value-left.ensures c.get-in-Binary.ensures) c.in-Some.ensures

pub value-binary-requires : goal.value-binary-requires
value-binary-requires g t c =
    let scope = chosen_in c.args.chosen (g.R.References.scope c.args.references.now) in
    both_within (not (is_some c.args.chosen)) scope c.args.expr.now c.in-Binary.op c.in-Binary.left c.in-Binary.right c.get-in-None-2.result.now c.get-in-None-3.result.now c.in-Binary.is
    (operand_value scope c.in-Binary.left c.get-in-Binary.result.now c.get-in-None-2.result.now (seen c.value-left.result) c.get-in-None-2.ensures c.value-left.ensures c.get-in-Binary.ensures)
    (operand_value scope c.in-Binary.right c.get-in-None.result.now c.get-in-None-3.result.now (seen c.value-right.result) c.get-in-None-3.ensures c.value-right.ensures c.get-in-None.ensures) c.requires.evaluable

pub value-returns-in-Binary : goal.value-returns-in-Binary
value-returns-in-Binary g t c =
    let scope = chosen_in c.args.chosen (g.R.References.scope c.args.references.now) in
    both_values scope c.args.expr.now c.in-Binary.op c.in-Binary.left c.in-Binary.right c.get-in-None-2.result.now c.get-in-None-3.result.now c.binary.result c.in-Binary.is
    (operand_value scope c.in-Binary.left c.get-in-Binary.result.now c.get-in-None-2.result.now (seen c.value-left.result) c.get-in-None-2.ensures c.value-left.ensures c.get-in-Binary.ensures)
    (operand_value scope c.in-Binary.right c.get-in-None.result.now c.get-in-None-3.result.now (seen c.value-right.result) c.get-in-None-3.ensures c.value-right.ensures c.get-in-None.ensures) c.binary.ensures

pub value-aggregate-requires : goal.value-aggregate-requires
value-aggregate-requires g t c κs within =
    let own = c.get-in-Some-variable.ensures in
    let less = subst (λ e. depth (ctree_of e) + 1 < depth (ctree_of c.args.expr.now)) (sym own) (below_agg c.args.expr.now c.in-Agg.agg c.in-Agg.arg c.in-Agg.is) in
    let first = sym (c.variable.ensures ∙ ap first_var c.get-in-Agg.ensures) ∙ c.in-Some-variable.is in
    let group = group_evaluable c.args.chosen (g.R.References.scope c.args.references.now) c.args.expr.now c.in-Agg.agg c.in-Agg.arg c.in-Some-variable.var c.in-Agg.is c.requires.evaluable first in
    (omega (arith, less), (within, subst (λ e. IsGroupEvaluable c.in-Agg.agg (ctree_of e) (g.R.References.scope c.args.references.now) c.in-Some-variable.var) (sym own) group))

pub value-returns-in-Some-variable : goal.value-returns-in-Some-variable
value-returns-in-Some-variable g t c =
    let first = sym (c.variable.ensures ∙ ap first_var c.get-in-Agg.ensures) ∙ c.in-Some-variable.is in
    group_value c.args.chosen (g.R.References.scope c.args.references.now) c.args.expr.now c.in-Agg.agg c.in-Agg.arg c.get-in-Some-variable.result.now c.in-Some-variable.var (seen c.aggregate.result) c.in-Agg.is
    c.requires.evaluable first c.get-in-Some-variable.ensures c.aggregate.ensures

pub aggregate-added-so_far-requires : goal.aggregate-added-so_far-requires
aggregate-added-so_far-requires g t c =
    subst (IsWithin widest)
    (turn c.args.agg (ctree_of c.args.arg.now) (g.R.References.scope c.args.references.now) c.args.var c.elements-elem-items.result.now c.loop-elem.elem-index c.elem-item.result (seen c.loop-elem.so_far) (seen c.value.result)
    c.elements-elem-items.ensures c.loop-elem-test.true c.elem-item.is c.loop-elem.invariant c.value.ensures)
    (c.requires.fronts (c.loop-elem.elem-index + 1))

pub aggregate-loop-elem-preserved : goal.aggregate-loop-elem-preserved
aggregate-loop-elem-preserved g t c =
    c.added-so_far.ensures
    ∙ sym (turn c.args.agg (ctree_of c.args.arg.now) (g.R.References.scope c.args.references.now) c.args.var c.elements-elem-items.result.now c.loop-elem.elem-index c.elem-item.result (seen c.loop-elem.so_far) (seen c.value.result)
    c.elements-elem-items.ensures c.loop-elem-test.true c.elem-item.is c.loop-elem.invariant c.value.ensures)

pub value-returns-in-Unary : goal.value-returns-in-Unary
value-returns-in-Unary g t c =
    let scope = chosen_in c.args.chosen (g.R.References.scope c.args.references.now) in
    one_value scope c.args.expr.now c.in-Unary.op c.in-Unary.arg c.get-in-Unary.result.now c.unary.result c.in-Unary.is
    (operand_value scope c.in-Unary.arg c.get.result.now c.get-in-Unary.result.now (seen c.value-arg.result) c.get-in-Unary.ensures c.value-arg.ensures c.get.ensures) c.unary.ensures
