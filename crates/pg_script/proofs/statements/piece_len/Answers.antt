use Rattle.std.proofs.Common.{◌<◌, arith}
use Rattle.pg_script.proofs.Passes.Atoms.{so_far_more}
use Rattle.pg_script.proofs.statements.piece_len.Goals as goal

pub atoms-preserved : goal.atoms-preserved
atoms-preserved c =
    let some : 0 < c.atom_len-len.result = omega (arith, c.if-len-eq0.false) in
    record {
      within = omega arith;
      so_far = so_far_more c.args.bytes.now c.split_at.result.1.now c.atoms.at c.atom_len-len.result c.atoms.invariant.so_far c.split_at.ensures.back (c.atom_len-len.ensures.some some);
    }
