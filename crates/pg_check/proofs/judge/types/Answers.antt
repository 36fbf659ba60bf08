use Rattle.std.proofs.Common.{◌∙◌, ap, not, ◌++◌}
use Rattle.std.specs.List.{flat_map}
use Rattle.pg_value.specs.declared.value.Kind.TheVariants as kinds
use Rattle.pg_ast.specs.Trees.{tree_of}
use Rattle.pg_meaning.specs.Typing.{kind_of, may_be}
use Rattle.pg_rules.specs.ExprFaults.{types_at}
use Rattle.pg_rules.specs.Places.{least, place_if}
use Rattle.pg_rules.specs.Queries.{names_of}
use Rattle.pg_rules.specs.Queries.Collections.{conditions, inner, outer}
use Rattle.pg_check.specs.Scopes.{scope}
use Rattle.pg_check.proofs.Loops.{joined}
use Rattle.pg_check.proofs.Judging.{over_both}
use Rattle.pg_check.proofs.JudgeLaws.{conditions_judged, untrue_same, types_same}
use Rattle.pg_check.proofs.judge.types.Goals as goal

pub returns : goal.returns
returns c = λ g q h cs cond are.
    let ks = c.args.kinds.now in
    let names = scope ks in
    joined (flat_map (λ w. place_if (not (may_be kinds.Bool (kind_of (names_of g) (tree_of w.expr)))) w.at) (conditions q)) (flat_map (types_at (names_of g)) (inner q ++ outer q)) c.sooner-untrue.result c.sooner-operators.result c.sooner.result
    (conditions_judged names q c.args.conditions.now c.args.condition.now c.untrue_inside-inside.result c.untrue_at_end-end.result c.sooner-untrue.result cs cond c.untrue_inside-inside.ensures c.untrue_at_end-end.ensures c.sooner-untrue.ensures ∙ ap least (untrue_same g ks q h))
    (over_both (types_at names) q c.args.inner.now c.args.outer.now c.wrong_operators-first.result c.wrong_operators-second.result c.sooner-operators.result are c.wrong_operators-first.ensures c.wrong_operators-second.ensures c.sooner-operators.ensures ∙ ap least (types_same g ks q h))
    c.sooner.ensures
