use Rattle.std.proofs.Common.{[], ◌∷◌, ap, sym, ◌∙◌, Bool, cond}
use Rattle.std.specs.Prelude.{filter}
use Rattle.pg_auto.specs.Autos.{stage_view}
use Rattle.pg_auto.specs.Successors.{is_round, along}
use Rattle.pg_short.specs.Rounds.{all_hops, reading}
use Rattle.pg_short.proofs.FoundRounds.{if_ok, rounds_tested}
use Rattle.pg_short.proofs.rounds.rounds_from.Goals as goal

pub returns-clause-rounds : goal.returns-clause-rounds
returns-clause-rounds g c =
    let t = reading (g.V.View.shapes c.args.view.now) (g.V.View.tables c.args.view.now) c.args.graph.now c.args.vertex.now in
    let stage = stage_view c.args.stage.now in
    let v = c.args.vertex.now in
    if_ok c.fitting.result _ _
    (λ found h. ap all_hops h ∙ rounds_tested t stage v c.in_ok-rounds.rounds.items ∙ ap (filter (is_round t stage v)) (c.in_ok-rounds.ensures.hops
    ∙ sym (ap (λ (b : Bool). cond b (along t stage.round.legs v ([] ∷ [])) []) (sym (c.node_admits.ensures c.args.graph.now) ∙ c.if-not-node_admits.false))))
    c.fitting.ensures
