use Rattle.std.proofs.Common.{refl, inl, inr}
use Rattle.pg_script.proofs.Passes.Spans.{front_is}
use Rattle.pg_script.proofs.statements.front_piece.Goals as goal

pub returns-then-gap-body : goal.returns-then-gap-body
returns-then-gap-body c =
    front_is c.args.bytes.now c.split_at.result.1.now c.gap_len-gap.result c.piece_len-body.result 0 c.gap_len-gap.ensures.within c.gap_len-gap.ensures.gap c.split_at.ensures.back c.piece_len-body.ensures.within
    c.piece_len-body.ensures.uncut c.piece_len-body.ensures.cut (inl (c.if-gap-body.true, refl))

pub returns-else-gap-body : goal.returns-else-gap-body
returns-else-gap-body c =
    front_is c.args.bytes.now c.split_at.result.1.now c.gap_len-gap.result c.piece_len-body.result 1 c.gap_len-gap.ensures.within c.gap_len-gap.ensures.gap c.split_at.ensures.back c.piece_len-body.ensures.within
    c.piece_len-body.ensures.uncut c.piece_len-body.ensures.cut (inr (c.if-gap-body.false, refl))
