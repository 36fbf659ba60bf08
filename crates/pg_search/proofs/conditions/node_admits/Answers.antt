use Rattle.std.proofs.Common.{ap, sym, ◌∙◌}
use Rattle.std.specs.Option.{option_copied}
use Rattle.pg_meaning.specs.Walks.{graph_of}
use Rattle.pg_auto.specs.Tests.{node_admits}
use Rattle.pg_search.proofs.conditions.node_admits.Goals as goal

pub returns-in-Some : goal.returns-in-Some
returns-in-Some g c = λ graph.
    c.admits.ensures graph
    ∙ sym (ap (λ n. node_admits (graph_of (g.V.View.shapes c.args.view.now) graph (g.V.View.tables c.args.view.now)) (option_copied n) c.args.vertex.now) c.in-Some.is)
