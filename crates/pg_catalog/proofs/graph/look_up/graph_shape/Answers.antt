use Rattle.std.proofs.Common.{arith}
use Rattle.std.proofs.lemmas.Grind.{common_steps}
use Rattle.pg_catalog.proofs.EdgeNumbers.{before_is}
use Rattle.pg_catalog.proofs.graph.look_up.graph_shape.Goals as goal

pub returns : goal.returns
returns c = let e = before_is c.args.graph c.args.graphs.now.entries in grind (arith, common_steps)
