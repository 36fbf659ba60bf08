use Rattle.pg_view.specs.Sides.{IsSides}
use Rattle.pg_view.proofs.Growing.{zipped}
use Rattle.pg_view.proofs.sides.all_sides.Goals as goal

pub loop-number-preserved : goal.loop-number-preserved
loop-number-preserved c =
    zipped (IsSides c.args.lists.now) c.args.shapes.now c.loop-number.all.items c.push.new.self.items c.loop-number.number c.index-shapes-number.result c.in_ok-sides_of.field-0 c.loop-number-test.true c.index-shapes-number.is
    c.loop-number.invariant c.in_ok-sides_of.ensures c.in_ok-push.ensures.items
