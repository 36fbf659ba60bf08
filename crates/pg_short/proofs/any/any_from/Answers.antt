use Rattle.pg_short.proofs.FoundRounds.{if_ok}
use Rattle.pg_short.proofs.Ended.{shortest_is_any}
use Rattle.pg_short.proofs.any.any_from.Goals as goal

pub returns-clause-selected : goal.returns-clause-selected
returns-clause-selected g c = if_ok c.any_shortest_from.result _ _ (λ found a. shortest_is_any (g.V.View.shapes c.args.view.now) (g.V.View.tables c.args.view.now) c.args.path.now c.args.start.now found a) c.any_shortest_from.ensures.selected
