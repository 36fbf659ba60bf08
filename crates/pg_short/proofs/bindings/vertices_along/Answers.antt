use Rattle.std.proofs.Common.{◌∷◌, ◌++◌, List, map, take, ap, sym, ◌∙◌}
use Rattle.std.proofs.lemmas.List.{map-append}
use Rattle.pg_value.specs.declared.shape.ElemId.{ElemId}
use Rattle.pg_meaning.specs.Walks.{Hop, vertices_of}
use Rattle.pg_short.specs.Walks.{Round, round_view, rounds_in, hops_along}
use Rattle.pg_short.proofs.Along.{flat_more}
use Rattle.pg_short.proofs.bindings.vertices_along.Goals as goal

pub loop-round-preserved : goal.loop-round-preserved
loop-round-preserved c =
    let before = hops_along (rounds_in (take c.loop-round.round-index c.args.rounds.now)) in
    let hops = (round_view c.round-item.result).hops in
    c.in_ok-push_vertices.ensures ∙ ap (λ (es : List ElemId). es ++ map (λ (h : Hop). h.to) hops) c.loop-round.invariant
    ∙ ap (λ (es : List ElemId). c.args.start.now ∷ es) (sym (map-append (λ (h : Hop). h.to) before hops))
    ∙ ap (vertices_of c.args.start.now) (flat_more (λ (r : Round). r.hops) round_view c.args.rounds.now c.loop-round.round-index c.round-item.result c.loop-round-test.true c.round-item.is)
