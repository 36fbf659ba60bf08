use Rattle.std.proofs.Common.{◌∙◌, ◌≤◌, List, sym, subst, map, length, false}
use Rattle.std.specs.List.{AllZip}
use Rattle.std.proofs.lemmas.Result.{err_from_is_err_and}
use Rattle.pg_script.specs.declared.parts.Content.TheVariants as contents
use Rattle.pg_script.specs.declared.statements.Span.{Span}
use Rattle.pg_script.specs.Script.{IsWrong}
use Rattle.pg_script.specs.Passes.{parts_of, statement_at}
use Rattle.pg_script.specs.Passes.Drafts.{FaultOf, HasBadStatement, IsGoodItem, part_with}
use Rattle.pg_script.proofs.Passes.Drafts.{no_parts, some_parts, setup_misplaced, setup_fault, setup_added}
use Rattle.pg_script.proofs.draft.Draft.add_setup.Goals as goal

pub returns-then-not-is_empty : goal.returns-then-not-is_empty
returns-then-not-is_empty c =
    subst (FaultOf (IsWrong c.args.bytes.now (parts_of c.args.bytes.now c.args.before.now) (part_with c.args.bytes.now c.args.at (contents.Setup c.args.spans.now)))) (sym c.bad.ensures)
    (setup_misplaced c.args.bytes.now (parts_of c.args.bytes.now c.args.before.now) c.args.at c.args.spans.now (some_parts c.args.bytes.now c.args.before.now (sym c.is_empty.ensures ∙ c.if-not-is_empty.true)) c.requires.lies)

pub returns-in_err-items : goal.returns-in_err-items
returns-in_err-items c =
    let p = err_from_is_err_and c.from_residual.result c.from_residual.ensures.1 in
    rw (p.1, p.2)
    (setup_fault c.args.bytes.now (parts_of c.args.bytes.now c.args.before.now) c.args.at c.args.spans.now c.in_err-items.field-0.0 (no_parts c.args.bytes.now c.args.before.now (sym c.is_empty.ensures ∙ c.if-not-is_empty.false))
    (subst (λ (w : List Span). FaultOf (HasBadStatement c.args.bytes.now (parts_of c.args.bytes.now c.args.before.now) false (map (statement_at c.args.bytes.now) w)) c.in_err-items.field-0.0) c.as_slice.ensures c.in_err-items.ensures.err))

pub returns : goal.returns
returns c =
    setup_added c.args.bytes.now (parts_of c.args.bytes.now c.args.before.now) c.args.at c.args.spans.now c.args.self.now c.in_ok-items.items (no_parts c.args.bytes.now c.args.before.now (sym c.is_empty.ensures ∙ c.if-not-is_empty.false)) c.requires.drafted
    (subst (λ (w : List Span). AllZip (IsGoodItem (parts_of c.args.bytes.now c.args.before.now) false) (map (statement_at c.args.bytes.now) w) c.in_ok-items.items) c.as_slice.ensures c.in_ok-items.ensures.ok)
    (subst (λ (w : List Span). length w ≤ 100000) c.as_slice.ensures c.in_ok-items.ensures.few)
