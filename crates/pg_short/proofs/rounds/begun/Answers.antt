use Rattle.std.proofs.Common.{◌≡◌, [], ◌∷◌, ◌++◌, map, ap, ◌∙◌, List}
use Rattle.pg_meaning.specs.Rounds.{Leg}
use Rattle.pg_view.specs.declared.view.Neighbour.{Neighbour}
use Rattle.pg_auto.specs.Autos.{leg_view, stage_view}
use Rattle.pg_auto.specs.Successors.{along}
use Rattle.pg_short.specs.Rounds.{all_hops, reading}
use Rattle.pg_short.proofs.FoundRounds.{if_ok}
use Rattle.pg_short.proofs.rounds.begun.Goals as goal

pub returns-clause-hops : goal.returns-clause-hops
returns-clause-hops g c =
    let t = reading (g.V.View.shapes c.args.view.now) (g.V.View.tables c.args.view.now) c.args.graph.now c.args.vertex.now in
    let v = c.args.vertex.now in
    let first : c.push.new.self.items ≡ [] ∷ [] = c.in_ok-push.ensures.items ∙ ap (λ (hs : List (List Neighbour)). hs ++ c.new.result ∷ []) c.new-first.ensures.items ∙ ap (λ (hs : List Neighbour). hs ∷ []) c.new.ensures in
    if_ok c.along.result _ _
    (λ found h. h ∙ ap (λ (ls : List Leg). along t ls v (all_hops c.push.new.self.items)) (ap (map leg_view) c.as_slice.ensures) ∙ ap (λ (fs : List (List Neighbour)). along t (stage_view c.args.stage.now).round.legs v (all_hops fs)) first)
    c.along.ensures.hops
