use Rattle.std.proofs.Common.{◌≡◌, ◌++◌, [], ◌∷◌, map, ap, ◌∙◌, List}
use Rattle.pg_value.specs.declared.shape.ElemId.{ElemId}
use Rattle.pg_view.specs.declared.view.Neighbour.{Neighbour}
use Rattle.pg_view.specs.Neighbours.{neighbour}
use Rattle.pg_meaning.specs.Walks.{last_vertex}
use Rattle.pg_auto.specs.Autos.{leg_view}
use Rattle.pg_search.specs.Hops.{hops_of}
use Rattle.pg_short.specs.Rounds.{hops_in, all_hops}
use Rattle.pg_short.proofs.FoundRounds.{on_ok, all_both, each_longer}
use Rattle.pg_short.proofs.rounds.push_longer.Goals as goal

pub returns-clause-hops : goal.returns-clause-hops
returns-clause-hops g c =
    let shapes = g.V.View.shapes c.args.view.now in
    let tables = g.V.View.tables c.args.view.now in
    let leg = leg_view c.args.leg.now in
    let over = λ (v : ElemId). hops_of shapes c.args.graph.now tables leg v in
    let front = c.args.front.now in
    let read : c.in_ok-hops.hops ≡ map neighbour (over (last_vertex c.args.vertex.now (hops_in front))) = c.in_ok-hops.ensures.ok ∙ ap (λ v. map neighbour (over v)) c.last_of-at.ensures in
    on_ok c.push_each.result _ _
    (λ h. ap all_hops h ∙ all_both c.args.found.now.items _ ∙ ap (λ hs. all_hops c.args.found.now.items ++ hs)
    (ap (λ (hs : List Neighbour). all_hops (map (λ hop. front ++ hop ∷ []) hs)) read ∙ each_longer front (over (last_vertex c.args.vertex.now (hops_in front)))))
    c.push_each.ensures
