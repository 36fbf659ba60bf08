use Rattle.std.proofs.Common.{◌&&◌, ap, sym, ◌∙◌}
use Rattle.pg_meaning.specs.Walks.{graph_of}
use Rattle.pg_auto.specs.Autos.{leg_view}
use Rattle.pg_auto.specs.Tests.{node_admits}
use Rattle.pg_search.proofs.hops.leg_admits.Goals as goal

pub returns-then-admits : goal.returns-then-admits
returns-then-admits g c = λ graph.
    c.node_admits.ensures graph
    ∙ sym (ap (λ b. b && node_admits (graph_of (g.V.View.shapes c.args.view.now) graph (g.V.View.tables c.args.view.now)) (leg_view c.args.leg.now).node c.args.hop.now.other) (sym (c.admits.ensures graph) ∙ c.if-admits.true))

pub returns-else-admits : goal.returns-else-admits
returns-else-admits g c = λ graph.
    c.if-admits.false
    ∙ sym (ap (λ b. b && node_admits (graph_of (g.V.View.shapes c.args.view.now) graph (g.V.View.tables c.args.view.now)) (leg_view c.args.leg.now).node c.args.hop.now.other) (sym (c.admits.ensures graph) ∙ c.if-admits.false))
