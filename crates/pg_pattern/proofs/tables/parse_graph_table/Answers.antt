-- The query at a place, or the first fault.
use Rattle.std.proofs.Common.{◌≡◌, ◌-◌, length, refl, sym, ap, subst, ◌∙◌, arith}
use Rattle.pg_ast.specs.Grammar.Queries.{QueryAt, FirstFault}
use Rattle.pg_pattern.specs.Read as parser
use Rattle.pg_pattern.proofs.QueryPlaces.{from-slice, found, left, only, never, fault, failed-so}
use Rattle.pg_pattern.proofs.tables.parse_graph_table.Goals as goal

pub overflow_sub-tokens : goal.overflow_sub-tokens
overflow_sub-tokens c =
    let start = c.new-cursor.ensures ∙ from-slice c.args.first _ c.args.tokens.now c.as_slice-tokens.ensures in
    let few = left c.args.tokens.now c.args.first _ _ (ap parser.query (sym start) ∙ c.in-Ok.ensures) in
    let all = ap length c.as_slice-tokens.ensures in
    omega (arith, few, all, c.len.ensures)

pub returns-in-Ok-try_from-clause-found : goal.returns-in-Ok-try_from-clause-found
returns-in-Ok-try_from-clause-found c =
    let start = c.new-cursor.ensures ∙ from-slice c.args.first _ c.args.tokens.now c.as_slice-tokens.ensures in
    let after : c.in-Ok-try_from.after ≡ length c.args.tokens.now - length c.query.new.cursor =
    c.in-Ok-try_from.ensures.1 ∙ ap (λ n. n - c.len.result) (ap length c.as_slice-tokens.ensures) ∙ ap (λ n. length c.args.tokens.now - n) c.len.ensures in
    subst (λ n. QueryAt c.args.tokens.now c.args.first c.in-Ok.query n) (sym after)
    (found c.args.tokens.now c.args.first c.in-Ok.query c.query.new.cursor (let w = c.requires.within in omega (arith, w)) (ap parser.query (sym start) ∙ c.in-Ok.ensures))

pub returns-in-Ok-try_from-clause-only : goal.returns-in-Ok-try_from-clause-only
returns-in-Ok-try_from-clause-only c q n h =
    let start = c.new-cursor.ensures ∙ from-slice c.args.first _ c.args.tokens.now c.as_slice-tokens.ensures in
    let after : c.in-Ok-try_from.after ≡ length c.args.tokens.now - length c.query.new.cursor =
    c.in-Ok-try_from.ensures.1 ∙ ap (λ n. n - c.len.result) (ap length c.as_slice-tokens.ensures) ∙ ap (λ n. length c.args.tokens.now - n) c.len.ensures in
    let k = only c.args.tokens.now c.args.first c.in-Ok.query q c.query.new.cursor n (ap parser.query (sym start) ∙ c.in-Ok.ensures) h in
    let same = after ∙ k.1 in
    rw (k.0, same) refl

pub returns-in-Err-Syntax-clause-only : goal.returns-in-Err-Syntax-clause-only
returns-in-Err-Syntax-clause-only c q n h =
    let start = c.new-cursor.ensures ∙ from-slice c.args.first _ c.args.tokens.now c.as_slice-tokens.ensures in
    let e = failed-so _ _ _ c.in-Err-Syntax.field-0-is c.in-Err-Syntax.ensures in
    absurd (never c.args.tokens.now c.args.first q _ n (ap parser.query (sym start) ∙ e) h)

pub returns-in-Err-Syntax-clause-fault : goal.returns-in-Err-Syntax-clause-fault
returns-in-Err-Syntax-clause-fault c =
    let start = c.new-cursor.ensures ∙ from-slice c.args.first _ c.args.tokens.now c.as_slice-tokens.ensures in
    let e = failed-so _ _ _ c.in-Err-Syntax.field-0-is c.in-Err-Syntax.ensures in
    subst (λ n. FirstFault c.args.tokens.now c.args.first n) (sym c.place.ensures)
    (fault c.args.tokens.now c.args.first c.query.new.cursor c.requires.ended c.requires.within (ap parser.query (sym start) ∙ e))
