use Rattle.std.proofs.Common.{◌≡◌, ◌+◌, ◌≤◌, List, length, refl, sym, subst, arith}
use Rattle.pg_script.specs.declared.statements.Span.{Span}
use Rattle.pg_script.proofs.Passes.Spans.{Completes, completes_none, completes_more, completes_all}
use Rattle.pg_script.proofs.statements.statements.Goals as goal

pub pieces-init : goal.pieces-init
pieces-init c = record {
  within = omega arith;
  so_far = subst (λ (out : List Span). Completes c.args.at c.args.text.now out 0) (sym c.new-out.ensures) (completes_none c.args.at c.args.text.now);
}

pub returns-then-piece-eq0 : goal.returns-then-piece-eq0
returns-then-piece-eq0 c =
    completes_all c.args.at c.pieces.from c.args.text.now c.split_at.result.1.now c.pieces.out c.push_piece.new.out c.front_piece-piece.result c.pieces.invariant.so_far c.split_at.ensures.back
    c.front_piece-piece.ensures c.if-piece-eq0.true c.in_ok-push_piece.ensures

pub pieces-preserved : goal.pieces-preserved
pieces-preserved c =
    let p = c.front_piece-piece.result in
    let n : length c.split_at.result.1.now + c.pieces.from ≡ length c.args.text.now = c.split_at.ensures.back_len in
    let w : p.gap + p.body + p.end ≤ length c.split_at.result.1.now = c.front_piece-piece.ensures.within in
    record {
      within = omega (arith, n, w);
      so_far = completes_more c.args.at c.pieces.from _ c.args.text.now c.split_at.result.1.now c.pieces.out c.push_piece.new.out p c.pieces.invariant.so_far c.split_at.ensures.back
          c.front_piece-piece.ensures c.if-piece-eq0.false refl c.in_ok-push_piece.ensures;
    }
