use Rattle.std.proofs.Common.{◌≡◌, ℕ, ap, sym, ◌∙◌, Option}
use Rattle.pg_ast.specs.Trees.{tree_of, is_unary, is_binary, is_agg}
use Rattle.pg_meaning.specs.Typing.{width_of, unary_width, binary_width, agg_width}
use Rattle.pg_rules.specs.ExprFaults.{wide_at}
use Rattle.pg_rules.specs.Places.{least, sooner, place_if, least_append}
use Rattle.pg_check.specs.Scopes.{capped, is_over}
use Rattle.pg_check.proofs.Caps.{cap_unary, cap_binary, cap_agg}
use Rattle.pg_check.proofs.WidthLaws.{wide_one, wide_two, wide_group}
use Rattle.pg_check.proofs.widths.+width.Goals as goal

pub returns-in-Unary-clause-bits : goal.returns-in-Unary-clause-bits
returns-in-Unary-clause-bits g t c =
    let names = g.K.NameKinds.names c.args.kinds.now in
    c.of_unary.ensures.bits
    ∙ ap (λ w. capped (unary_width c.in-Unary.op w)) (c.width.ensures.bits ∙ ap (λ x. capped (width_of names (tree_of x))) c.get.ensures)
    ∙ cap_unary c.in-Unary.op (width_of names (tree_of c.in-Unary.arg))
    ∙ sym (ap (λ e. capped (width_of names e)) (is_unary _ _ _ _ c.in-Unary.is))

pub returns-in-Unary-clause-wide : goal.returns-in-Unary-clause-wide
returns-in-Unary-clause-wide g t c =
    let names = g.K.NameKinds.names c.args.kinds.now in
    c.of_unary.ensures.wide
    ∙ wide_one names c.in-Unary.op (tree_of c.in-Unary.arg) c.in-Unary.at c.width.result.bits c.width.result.wide (c.width.ensures.bits ∙ ap (λ x. capped (width_of names (tree_of x))) c.get.ensures) (c.width.ensures.wide ∙ ap (λ x. least (wide_at names (tree_of x))) c.get.ensures)
    ∙ sym (ap (λ e. least (wide_at names e)) (is_unary _ _ _ _ c.in-Unary.is))

pub returns-in-Binary-clause-bits : goal.returns-in-Binary-clause-bits
returns-in-Binary-clause-bits g t c =
    let names = g.K.NameKinds.names c.args.kinds.now in
    c.of_binary.ensures.bits
    ∙ ap (λ w. capped (binary_width c.in-Binary.op w c.width-right.result.bits)) (c.width-left.ensures.bits ∙ ap (λ x. capped (width_of names (tree_of x))) c.get-in-Binary.ensures)
    ∙ ap (λ w. capped (binary_width c.in-Binary.op (capped (width_of names (tree_of c.in-Binary.left))) w)) (c.width-right.ensures.bits ∙ ap (λ x. capped (width_of names (tree_of x))) c.get-in-Binary-2.ensures)
    ∙ cap_binary c.in-Binary.op (width_of names (tree_of c.in-Binary.left)) (width_of names (tree_of c.in-Binary.right))
    ∙ sym (ap (λ e. capped (width_of names e)) (is_binary _ _ _ _ _ c.in-Binary.is))

pub returns-in-Binary-clause-wide : goal.returns-in-Binary-clause-wide
returns-in-Binary-clause-wide g t c =
    let names = g.K.NameKinds.names c.args.kinds.now in
    c.of_binary.ensures.wide
    ∙ wide_two names c.in-Binary.op (tree_of c.in-Binary.left) (tree_of c.in-Binary.right) c.in-Binary.at c.width-left.result.bits c.width-right.result.bits c.width-left.result.wide c.width-right.result.wide (c.width-left.ensures.bits ∙ ap (λ x. capped (width_of names (tree_of x))) c.get-in-Binary.ensures) (c.width-right.ensures.bits ∙ ap (λ x. capped (width_of names (tree_of x))) c.get-in-Binary-2.ensures) (c.width-left.ensures.wide ∙ ap (λ x. least (wide_at names (tree_of x))) c.get-in-Binary.ensures) (c.width-right.ensures.wide ∙ ap (λ x. least (wide_at names (tree_of x))) c.get-in-Binary-2.ensures)
    ∙ sym (ap (λ e. least (wide_at names e)) (is_binary _ _ _ _ _ c.in-Binary.is))

pub returns-in-Agg-clause-bits : goal.returns-in-Agg-clause-bits
returns-in-Agg-clause-bits g t c =
    let names = g.K.NameKinds.names c.args.kinds.now in
    c.of_agg.ensures.bits
    ∙ ap (λ w. capped (agg_width c.in-Agg.agg w)) (c.width-in-Agg.ensures.bits ∙ ap (λ x. capped (width_of names (tree_of x))) c.get-in-Agg.ensures)
    ∙ cap_agg c.in-Agg.agg (width_of names (tree_of c.in-Agg.arg))
    ∙ sym (ap (λ e. capped (width_of names e)) (is_agg _ _ _ _ c.in-Agg.is))

pub returns-in-Agg-clause-wide : goal.returns-in-Agg-clause-wide
returns-in-Agg-clause-wide g t c =
    let names = g.K.NameKinds.names c.args.kinds.now in
    c.of_agg.ensures.wide
    ∙ wide_group names c.in-Agg.agg (tree_of c.in-Agg.arg) c.in-Agg.at c.width-in-Agg.result.bits c.width-in-Agg.result.wide (c.width-in-Agg.ensures.bits ∙ ap (λ x. capped (width_of names (tree_of x))) c.get-in-Agg.ensures) (c.width-in-Agg.ensures.wide ∙ ap (λ x. least (wide_at names (tree_of x))) c.get-in-Agg.ensures)
    ∙ sym (ap (λ e. least (wide_at names e)) (is_agg _ _ _ _ c.in-Agg.is))
