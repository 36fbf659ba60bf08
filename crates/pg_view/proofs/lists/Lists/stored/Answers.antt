use Rattle.std.proofs.Common.{ap, ◌∙◌}
use Rattle.pg_value.specs.Tables.{stored_at}
use Rattle.pg_view.proofs.ViewLaws.{found}
use Rattle.pg_view.proofs.lists.Lists.stored.Goals as goal

pub returns-clause-value : goal.returns-clause-value
returns-clause-value g c =
    c.stored_in.ensures.value ∙ found c.self.inside.lists.now c.self.invariant.0.hold c.args.table c.args.key.now.values
    ∙ ap (λ v. stored_at (c.args.table.0, c.args.key.now.values) v.tables) c.self.view_is
