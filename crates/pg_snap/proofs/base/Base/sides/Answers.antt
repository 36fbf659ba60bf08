use Rattle.pg_snap.proofs.BaseLaws.{base_sides, sides_cost}
use Rattle.pg_snap.proofs.base.Base.sides.Goals as goal

pub returns-clause-value : goal.returns-clause-value
returns-clause-value g c = let b = c.self.inside in base_sides b.shapes b.no b.rows b.sides c.args.self.now c.args.edge c.args.dir c.args.vertex.now.values _ c.self.invariant.1 c.self.view_is c.at.ensures.value

pub returns-clause-cost : goal.returns-clause-cost
returns-clause-cost g c = let b = c.self.inside in sides_cost b.shapes b.no b.rows b.sides c.args.self.now c.args.edge c.args.dir c.args.steps.now c.at.new.steps c.self.invariant.1 c.self.view_is c.at.ensures.cost
