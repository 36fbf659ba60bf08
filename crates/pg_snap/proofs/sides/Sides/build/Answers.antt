use Rattle.pg_view.specs.Lists.{joined}
use Rattle.pg_snap.specs.Bases.{ends_held}
use Rattle.pg_snap.specs.Sides.{AreBothSides}
use Rattle.pg_snap.proofs.Growing.{zipped}
use Rattle.pg_snap.proofs.sides.Sides.build.Goals as goal

pub loop-shape-preserved : goal.loop-shape-preserved
loop-shape-preserved g c =
    zipped (λ shape both. AreBothSides (ends_held (joined c.args.rows.now) shape) both) c.args.shapes.now c.loop-shape.tables.items c.push.new.self.items c.loop-shape.shape-index c.shape-item.result c.in_ok-build.field-0
    c.loop-shape-test.true c.shape-item.is c.loop-shape.invariant c.in_ok-build.ensures c.in_ok-push.ensures.items
