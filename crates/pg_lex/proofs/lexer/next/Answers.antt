use Rattle.std.proofs.Common.{◌+◌, drop, sym, subst}
use Rattle.pg_lex.specs.Front.{IsFront}
use Rattle.pg_lex.specs.Steps.{IsNext}
use Rattle.pg_lex.proofs.StepLaws.{read_at, found_next, end_next, bad_next, unclosed_next}
use Rattle.pg_lex.proofs.lexer.next.Goals as goal

pub returns-in-Found : goal.returns-in-Found
returns-in-Found c =
    let text = c.args.text.now in
    let left = c.split_at.result.1.now in
    let read = read_at text c.as_bytes.result.now left c.args.at c.gap_len.result c.as_bytes.ensures.value c.split_at.ensures.back c.requires.within c.gap_len.ensures.within c.gap_len.ensures.gap in
    let found = subst (λ f. IsFront f (drop (c.args.at + c.gap_len.result) text)) c.in-Found.is c.in_ok-kind.ensures in
    found_next c.args.base c.args.at c.gap_len.result c.in-Found.len text left c.in-Found.kind read found

pub returns-in-Unclosed : goal.returns-in-Unclosed
returns-in-Unclosed c =
    let text = c.args.text.now in
    let left = c.split_at.result.1.now in
    let read = read_at text c.as_bytes.result.now left c.args.at c.gap_len.result c.as_bytes.ensures.value c.split_at.ensures.back c.requires.within c.gap_len.ensures.within c.gap_len.ensures.gap in
    let found = subst (λ f. IsFront f (drop (c.args.at + c.gap_len.result) text)) c.in-Unclosed.is c.in_ok-kind.ensures in
    subst (IsNext c.args.base text c.args.at) (sym c.last.ensures) (unclosed_next c.args.base c.args.at c.gap_len.result text left read found.0 found.1)

pub returns-then-from-text : goal.returns-then-from-text
returns-then-from-text c =
    let text = c.args.text.now in
    let left = c.split_at.result.1.now in
    let read = read_at text c.as_bytes.result.now left c.args.at c.gap_len.result c.as_bytes.ensures.value c.split_at.ensures.back c.requires.within c.gap_len.ensures.within c.gap_len.ensures.gap in
    subst (IsNext c.args.base text c.args.at) (sym c.last-then-from-text.ensures) (end_next c.args.base c.args.at c.gap_len.result text left read c.if-from-text.true)

pub returns-else-from-text : goal.returns-else-from-text
returns-else-from-text c =
    let text = c.args.text.now in
    let left = c.split_at.result.1.now in
    let read = read_at text c.as_bytes.result.now left c.args.at c.gap_len.result c.as_bytes.ensures.value c.split_at.ensures.back c.requires.within c.gap_len.ensures.within c.gap_len.ensures.gap in
    let found = subst (λ f. IsFront f (drop (c.args.at + c.gap_len.result) text)) c.in-Nothing.is c.in_ok-kind.ensures in
    subst (IsNext c.args.base text c.args.at) (sym c.last-else-from-text.ensures)
    (bad_next c.args.base c.args.at c.gap_len.result text left read c.if-from-text.false found.0 found.1)
