use Rattle.std.proofs.Common.{◌++◌, ap, ◌∙◌}
use Rattle.std.specs.Prelude.{flat_map}
use Rattle.pg_search.specs.Hops.{neighbours_over}
use Rattle.pg_search.proofs.ReadHops.{read_flat, take_whole}
use Rattle.pg_search.proofs.hops.push_read.Goals as goal

pub returns-clause-ok : goal.returns-clause-ok
returns-clause-ok g c =
    c.loop-edge.invariant.read
    ∙ ap (λ es. c.args.out.now ++ flat_map (neighbours_over (g.V.View.shapes c.args.view.now) (g.V.View.tables c.args.view.now) c.args.arrow c.args.set c.args.vertex.now) es) (take_whole c.args.edges.now c.loop-edge.edge-index c.loop-edge-test.false)
    ∙ ap (λ ns. c.args.out.now ++ ns) (read_flat (g.V.View.shapes c.args.view.now) (g.V.View.tables c.args.view.now) c.args.arrow c.args.set c.args.vertex.now c.args.edges.now)
