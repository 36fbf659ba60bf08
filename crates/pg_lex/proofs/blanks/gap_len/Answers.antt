use Rattle.std.proofs.Common.{◌<◌, arith}
use Rattle.pg_lex.proofs.BlankLaws.{so_far_more}
use Rattle.pg_lex.proofs.blanks.gap_len.Goals as goal

pub blanks-preserved : goal.blanks-preserved
blanks-preserved c =
    let some : 0 < c.blank_len-len.result = omega (arith, c.if-len-eq0.false) in
    record {
      within = omega arith;
      so_far = so_far_more c.args.bytes.now c.split_at.result.1.now c.blanks.at c.blank_len-len.result c.blanks.invariant.so_far c.split_at.ensures.back (c.blank_len-len.ensures.some some);
    }
