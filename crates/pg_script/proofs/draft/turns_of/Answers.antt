use Rattle.std.proofs.Common.{◌≡◌, ◌≤◌, ◌∙◌, None, Some, ℕ, List, sym, subst, ap, map, get_or, arith}
use Rattle.pg_script.specs.declared.statements.Span.{Span}
use Rattle.pg_script.specs.Passes.{parts_of, turn_at, cut}
use Rattle.pg_script.specs.Passes.Drafts.{FaultOf, HasUnknown, find_session}
use Rattle.pg_script.proofs.Passes.Drafts.{section_small, turn_found, unknown_first, turns_more}
use Rattle.pg_script.proofs.draft.turns_of.Goals as goal

pub overflow_cast-section : goal.overflow_cast-section
overflow_cast-section c =
    let small : c.in-Some.section ≤ 64 = section_small (parts_of c.args.bytes.now c.args.before.now) c.cut.result.now c.in-Some.section c.requires.fair c.in-Some.ensures in
    omega arith

pub returns-in-None : goal.returns-in-None
returns-in-None c =
    let d : Span = record { from = 0; to = 0 } in
    let w : Span = get_or c.args.words.now c.words.word-index d in
    let none : None ≡ find_session (cut c.args.bytes.now w) 0 1 (parts_of c.args.bytes.now c.args.before.now) = c.in-None.ensures ∙ ap (λ (n : List ℕ). find_session n 0 1 (parts_of c.args.bytes.now c.args.before.now)) c.cut.ensures in
    subst (FaultOf (HasUnknown c.args.bytes.now (parts_of c.args.bytes.now c.args.before.now) (map (turn_at c.args.bytes.now) c.args.words.now))) (sym c.bad.ensures)
    (unknown_first c.args.bytes.now (parts_of c.args.bytes.now c.args.before.now) c.args.words.now c.words.word-index d c.words.out c.requires.rise.0 c.requires.rise.1 c.words-test.true c.words.invariant none c.requires.rise.2)

pub words-preserved : goal.words-preserved
words-preserved c =
    let d : Span = record { from = 0; to = 0 } in
    let w : Span = get_or c.args.words.now c.words.word-index d in
    let found : Some c.in-Some.section ≡ find_session (cut c.args.bytes.now w) 0 1 (parts_of c.args.bytes.now c.args.before.now) = c.in-Some.ensures ∙ ap (λ (n : List ℕ). find_session n 0 1 (parts_of c.args.bytes.now c.args.before.now)) c.cut.ensures in
    turns_more c.args.bytes.now (parts_of c.args.bytes.now c.args.before.now) c.args.words.now c.words.word-index d c.words.out c.push.new.self c.in-Some.section c.words-test.true c.words.invariant
    (turn_found c.args.bytes.now (parts_of c.args.bytes.now c.args.before.now) w c.in-Some.section found) c.in-Ok.ensures.ok
