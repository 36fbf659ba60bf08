use Rattle.std.proofs.Common.{◌++◌, List, take, ap, sym, ◌∙◌}
use Rattle.std.proofs.lemmas.List.{map-append}
use Rattle.pg_value.specs.declared.shape.ElemId.{ElemId}
use Rattle.pg_meaning.specs.Walks.{Hop, edges_of}
use Rattle.pg_short.specs.Walks.{Round, round_view, rounds_in, hops_along}
use Rattle.pg_short.proofs.Along.{flat_more}
use Rattle.pg_short.proofs.bindings.edges_along.Goals as goal

pub loop-round-preserved : goal.loop-round-preserved
loop-round-preserved c =
    let before = hops_along (rounds_in (take c.loop-round.round-index c.args.rounds.now)) in
    let hops = (round_view c.round-item.result).hops in
    c.in_ok-push_edges.ensures ∙ ap (λ (es : List ElemId). es ++ edges_of hops) c.loop-round.invariant
    ∙ sym (map-append (λ (h : Hop). h.edge) before hops)
    ∙ ap edges_of (flat_more (λ (r : Round). r.hops) round_view c.args.rounds.now c.loop-round.round-index c.round-item.result c.loop-round-test.true c.round-item.is)
