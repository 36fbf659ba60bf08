use Rattle.std.proofs.Common.{ap, sym, ◌∙◌}
use Rattle.std.specs.Option.{option_copied}
use Rattle.pg_meaning.specs.CExprs.{ctree_of, is_unary, is_binary, is_agg}
use Rattle.pg_write.specs.KeyOfCondition as spec
use Rattle.pg_write.proofs.KeyLaws.{found_first, beside, no_link}
use Rattle.pg_write.proofs.keyed.+literal_for.Goals as goal

pub returns-in-Some : goal.returns-in-Some
returns-in-Some t c =
    sym (ap (spec.literal_for c.args.column) (is_binary _ _ _ _ c.in-Binary.is)
    ∙ found_first c.args.column c.in-Binary.op (ctree_of c.in-Binary.left) (ctree_of c.in-Binary.right) _ (sym c.is_and.ensures ∙ c.if-is_and.true)
    (ap (λ x. spec.literal_for c.args.column (ctree_of x)) (sym c.get.ensures) ∙ sym c.literal_for.ensures ∙ ap option_copied c.in-Some.is))

pub returns-then-is_equals : goal.returns-then-is_equals
returns-then-is_equals t c =
    c.literal_beside.ensures
    ∙ (λ i. spec.literal_beside c.args.column (ctree_of (c.get-then-is_equals.ensures i)) (ctree_of (c.get-then-is_equals-2.ensures i)))
    ∙ sym (ap (spec.literal_for c.args.column) (is_binary _ _ _ _ c.in-Binary.is)
    ∙ beside c.args.column c.in-Binary.op (ctree_of c.in-Binary.left) (ctree_of c.in-Binary.right) (sym c.is_and.ensures ∙ c.if-is_and.false) (sym c.is_equals.ensures ∙ c.if-is_equals.true))

pub returns-else-is_equals : goal.returns-else-is_equals
returns-else-is_equals t c =
    sym (ap (spec.literal_for c.args.column) (is_binary _ _ _ _ c.in-Binary.is)
    ∙ no_link c.args.column c.in-Binary.op (ctree_of c.in-Binary.left) (ctree_of c.in-Binary.right) (sym c.is_and.ensures ∙ c.if-is_and.false) (sym c.is_equals.ensures ∙ c.if-is_equals.false))

pub returns-in-Unary : goal.returns-in-Unary
returns-in-Unary t c = sym (ap (spec.literal_for c.args.column) (is_unary _ _ _ c.in-Unary.is))

pub returns-in-Agg : goal.returns-in-Agg
returns-in-Agg t c = sym (ap (spec.literal_for c.args.column) (is_agg _ _ _ c.in-Agg.is))
