use Rattle.std.proofs.Common.{◌≡◌, ◌∙◌, ◌≤◌, ◌<◌, true, false, List, ℕ, sym, subst, ap, map, length, arith}
use Rattle.std.specs.Prelude.{not, ◌&&◌}
use Rattle.std.specs.List.{AllZip}
use Rattle.std.proofs.lemmas.Result.{err_from_is_err_and}
use Rattle.pg_script.specs.declared.parts.Content.TheVariants as contents
use Rattle.pg_script.specs.declared.statements.Span.{Span}
use Rattle.pg_script.specs.Script.{IsWrong, has_session}
use Rattle.pg_script.specs.Passes.{parts_of, statement_at, cut}
use Rattle.pg_script.specs.Passes.Drafts.{FaultOf, HasBadStatement, IsGoodItem, part_with}
use Rattle.pg_script.proofs.Passes.Drafts.{session_misplaced, session_many, session_fault, session_added}
use Rattle.pg_script.proofs.draft.Draft.add_session.Goals as goal

pub returns-then-not-is_new : goal.returns-then-not-is_new
returns-then-not-is_new c =
    let old : (not c.args.self.now.has_order && not (has_session (cut c.args.bytes.now c.args.name) (parts_of c.args.bytes.now c.args.before.now))) ≡ false =
    ap (λ (n : List ℕ). not c.args.self.now.has_order && not (has_session n (parts_of c.args.bytes.now c.args.before.now))) (sym c.cut-name.ensures) ∙ (sym c.is_new.ensures ∙ c.if-not-is_new.true) in
    subst (FaultOf (IsWrong c.args.bytes.now (parts_of c.args.bytes.now c.args.before.now) (part_with c.args.bytes.now c.args.at (contents.Session c.args.name c.args.spans.now)))) (sym c.bad.ensures)
    (session_misplaced c.args.bytes.now (parts_of c.args.bytes.now c.args.before.now) c.args.at c.args.name c.args.spans.now c.args.self.now c.requires.drafted old c.requires.lies)

pub returns-then-len-ge-MOST_SESSIONS : goal.returns-then-len-ge-MOST_SESSIONS
returns-then-len-ge-MOST_SESSIONS c =
    let new : (not c.args.self.now.has_order && not (has_session (cut c.args.bytes.now c.args.name) (parts_of c.args.bytes.now c.args.before.now))) ≡ true =
    ap (λ (n : List ℕ). not c.args.self.now.has_order && not (has_session n (parts_of c.args.bytes.now c.args.before.now))) (sym c.cut-name.ensures) ∙ (sym c.is_new.ensures ∙ c.if-not-is_new.false) in
    let many : 64 ≤ length c.args.self.now.sessions = omega (arith, c.if-len-ge-MOST_SESSIONS.true, c.len.ensures) in
    subst (FaultOf (IsWrong c.args.bytes.now (parts_of c.args.bytes.now c.args.before.now) (part_with c.args.bytes.now c.args.at (contents.Session c.args.name c.args.spans.now)))) (sym c.bad-then-len-ge-MOST_SESSIONS.ensures)
    (session_many c.args.bytes.now (parts_of c.args.bytes.now c.args.before.now) c.args.at c.args.name c.args.spans.now c.args.self.now c.requires.drafted new many c.requires.lies)

pub returns-in_err-items : goal.returns-in_err-items
returns-in_err-items c =
    let new : (not c.args.self.now.has_order && not (has_session (cut c.args.bytes.now c.args.name) (parts_of c.args.bytes.now c.args.before.now))) ≡ true =
    ap (λ (n : List ℕ). not c.args.self.now.has_order && not (has_session n (parts_of c.args.bytes.now c.args.before.now))) (sym c.cut-name.ensures) ∙ (sym c.is_new.ensures ∙ c.if-not-is_new.false) in
    let few : length c.args.self.now.sessions < 64 = omega (arith, c.if-len-ge-MOST_SESSIONS.false, c.len.ensures) in
    let p = err_from_is_err_and c.from_residual.result c.from_residual.ensures.1 in
    rw (p.1, p.2)
    (session_fault c.args.bytes.now (parts_of c.args.bytes.now c.args.before.now) c.args.at c.args.name c.args.spans.now c.args.self.now c.in_err-items.field-0.0 c.requires.drafted new few
    (subst (λ (w : List Span). FaultOf (HasBadStatement c.args.bytes.now (parts_of c.args.bytes.now c.args.before.now) true (map (statement_at c.args.bytes.now) w)) c.in_err-items.field-0.0) c.as_slice.ensures c.in_err-items.ensures.err))

pub returns : goal.returns
returns c =
    let new : (not c.args.self.now.has_order && not (has_session (cut c.args.bytes.now c.args.name) (parts_of c.args.bytes.now c.args.before.now))) ≡ true =
    ap (λ (n : List ℕ). not c.args.self.now.has_order && not (has_session n (parts_of c.args.bytes.now c.args.before.now))) (sym c.cut-name.ensures) ∙ (sym c.is_new.ensures ∙ c.if-not-is_new.false) in
    let few : length c.args.self.now.sessions < 64 = omega (arith, c.if-len-ge-MOST_SESSIONS.false, c.len.ensures) in
    session_added c.args.bytes.now (parts_of c.args.bytes.now c.args.before.now) c.args.at c.args.name c.args.spans.now c.args.self.now c.in_ok-items.items c.in_ok-name.name c.push.new.self c.requires.drafted new few
    (subst (λ (w : List Span). AllZip (IsGoodItem (parts_of c.args.bytes.now c.args.before.now) true) (map (statement_at c.args.bytes.now) w) c.in_ok-items.items) c.as_slice.ensures c.in_ok-items.ensures.ok)
    (subst (λ (w : List Span). length w ≤ 100000) c.as_slice.ensures c.in_ok-items.ensures.few)
    (c.in_ok-name.ensures ∙ c.cut-name.ensures) c.in_ok-push.ensures.ok
