use Rattle.std.proofs.Common.{◌++◌, take, arith}
use Rattle.std.proofs.lemmas.Grind.{common_steps}
use Rattle.pgq.proofs.KnownBytes.{Consumes-join}
use Rattle.pgq.proofs.bytes.read_all.Goals as goal

pub returns-in-Err-extend_from_slice-clause-some : goal.returns-in-Err-extend_from_slice-clause-some
returns-in-Err-extend_from_slice-clause-some g c = record {
  bytes = c.chunks.out.items ++ take c.in-Ok.count c.read.new.into;
  taken = Consumes-join _ _ _ _ _ c.chunks.invariant.taken c.in-Ok.ensures.bytes.0;
  within = grind (arith, common_steps);
}
