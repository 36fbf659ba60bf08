use Rattle.std.proofs.Common.{arith}
use Rattle.std.proofs.lemmas.Grind.{common_steps}
use Rattle.pg_write.proofs.TargetLaws.{one_more}
use Rattle.pg_write.proofs.change.insert.all_places.Goals as goal

pub loop-i-preserved : goal.loop-i-preserved
loop-i-preserved c = let e = one_more c.loop-i.i in grind (arith, common_steps)
