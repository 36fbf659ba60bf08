use Rattle.std.proofs.Common.{◌∙◌, ap, refl}
use Rattle.pg_value.specs.Tables.{stored_at}
use Rattle.pg_snap.specs.Bases.{BaseOf}
use Rattle.pg_snap.proofs.BaseLaws.{found, row_cost}
use Rattle.pg_snap.proofs.base.Base.row.Goals as goal

pub returns-clause-value : goal.returns-clause-value
returns-clause-value g c =
    let b = c.self.inside in
    c.get.ensures.value ∙ found b.rows c.args.table c.args.key.now.values _ c.self.invariant.0.hold refl ∙ ap (λ (x : BaseOf). stored_at (c.args.table.0, c.args.key.now.values) x.tables) c.self.view_is

pub returns-clause-cost : goal.returns-clause-cost
returns-clause-cost g c = let b = c.self.inside in row_cost b.shapes b.no b.rows c.args.self.now c.args.table c.args.steps.now c.get.new.steps c.self.invariant.0 c.self.view_is c.get.ensures.cost
