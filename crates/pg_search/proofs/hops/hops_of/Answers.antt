use Rattle.std.proofs.Common.{◌≡◌, [], ◌∷◌, ◌++◌, cond, map, ap, ◌∙◌}
use Rattle.std.specs.Prelude.{flat_map}
use Rattle.pg_value.specs.declared.shape.GraphShape.{GraphShape}
use Rattle.pg_view.specs.declared.view.Neighbour.{Neighbour}
use Rattle.pg_meaning.specs.Walks.{graph_of}
use Rattle.pg_auto.specs.Autos.{leg_view}
use Rattle.pg_auto.specs.Tests.{leg_admits}
use Rattle.pg_search.specs.Hops.{hop_view, read_at, hops_of}
use Rattle.pg_view.specs.Neighbours.{neighbour}
use Rattle.pg_search.proofs.ReadHops.{admitted_flat, if_ok}
use Rattle.pg_search.proofs.hops.hops_of.Goals as goal

pub returns-clause-ok : goal.returns-clause-ok
returns-clause-ok g c =
    let shapes = g.V.View.shapes c.args.view.now in
    let tables = g.V.View.tables c.args.view.now in
    let leg = leg_view c.args.leg.now in
    let test = leg_admits (graph_of shapes c.args.graph.now tables) leg in
    let f = λ (n : Neighbour). cond (test (hop_view n)) (n ∷ []) [] in
    let read = read_at shapes tables c.args.leg.now.arrow c.args.leg.now.edge.now.tables c.args.vertex.now c.args.graph.now.edges in
    let was : c.push_read.new.out ≡ map neighbour read = c.in_ok-push_read.ensures.ok ∙ ap (λ l. l ++ map neighbour (read_at shapes tables c.args.leg.now.arrow c.args.leg.now.edge.now.tables c.args.vertex.now c.as_slice-edges.result.now)) c.new-read.ensures ∙ ap (λ es. map neighbour (read_at shapes tables c.args.leg.now.arrow c.args.leg.now.edge.now.tables c.args.vertex.now es)) c.as_slice-edges.ensures in
    if_ok c.admitted.result
    (λ hops. (graph : GraphShape) → hops ≡ flat_map (λ (hop : Neighbour). cond (leg_admits (graph_of shapes graph tables) leg (hop_view hop)) (hop ∷ []) []) c.push_read.new.out)
    (λ hops. hops ≡ map neighbour (hops_of shapes c.args.graph.now tables leg c.args.vertex.now))
    (λ hops h. h c.args.graph.now ∙ ap (flat_map f) was ∙ admitted_flat test read)
    c.admitted.ensures
