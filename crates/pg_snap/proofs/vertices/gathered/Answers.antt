use Rattle.std.proofs.Common.{subst}
use Rattle.pg_value.specs.declared.row.Key.{Key}
use Rattle.pg_snap.specs.Folds.{Has}
use Rattle.pg_snap.proofs.VertexLaws.{gathered_more}
use Rattle.pg_snap.proofs.vertices.gathered.Goals as goal

pub ends-preserved : goal.ends-preserved
ends-preserved g c =
    gathered_more c.args.dir c.args.groups.now c.args.ends.now c.ends.edge-index c.edge-item.result c.ends.vertices c.add_grouped.new.vertices c.ends-test.true c.edge-item.is c.ends.invariant c.in-Ok.ensures.more
    (subst (λ (k : Key). Has k.values c.add_grouped.new.vertices) c.end_of.ensures c.in-Ok.ensures.there)
