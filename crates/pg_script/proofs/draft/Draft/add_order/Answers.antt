use Rattle.std.proofs.Common.{List, sym, subst, map}
use Rattle.std.specs.List.{AllZip}
use Rattle.std.proofs.lemmas.Result.{err_from_is_err_and}
use Rattle.pg_script.specs.declared.parts.Content.TheVariants as contents
use Rattle.pg_script.specs.declared.statements.Span.{Span}
use Rattle.pg_script.specs.Script.{IsTurn, IsWrong}
use Rattle.pg_script.specs.Passes.{parts_of, turn_at}
use Rattle.pg_script.specs.Passes.Drafts.{FaultOf, HasUnknown, part_with}
use Rattle.pg_script.proofs.Passes.Drafts.{order_misplaced, order_fault, order_added}
use Rattle.pg_script.proofs.draft.Draft.add_order.Goals as goal

pub returns-then-self : goal.returns-then-self
returns-then-self c =
    subst (FaultOf (IsWrong c.args.bytes.now (parts_of c.args.bytes.now c.args.before.now) (part_with c.args.bytes.now c.args.at (contents.Order c.args.words.now)))) (sym c.bad.ensures)
    (order_misplaced c.args.bytes.now (parts_of c.args.bytes.now c.args.before.now) c.args.at c.args.words.now c.args.self.now c.requires.drafted c.if-self.true c.requires.lies)

pub returns-in_err-turns : goal.returns-in_err-turns
returns-in_err-turns c =
    let p = err_from_is_err_and c.from_residual.result c.from_residual.ensures.1 in
    rw (p.1, p.2)
    (order_fault c.args.bytes.now (parts_of c.args.bytes.now c.args.before.now) c.args.at c.args.words.now c.args.self.now c.in_err-turns.field-0.0 c.requires.drafted c.if-self.false
    (subst (λ (w : List Span). FaultOf (HasUnknown c.args.bytes.now (parts_of c.args.bytes.now c.args.before.now) (map (turn_at c.args.bytes.now) w)) c.in_err-turns.field-0.0) c.as_slice.ensures c.in_err-turns.ensures))

pub returns : goal.returns
returns c =
    order_added c.args.bytes.now c.args.before.now c.args.at c.args.words.now c.args.self.now c.in_ok-turns.turns c.requires.drafted c.if-self.false
    (subst (λ (w : List Span). AllZip (IsTurn (parts_of c.args.bytes.now c.args.before.now)) (map (turn_at c.args.bytes.now) w) c.in_ok-turns.turns) c.as_slice.ensures c.in_ok-turns.ensures)
