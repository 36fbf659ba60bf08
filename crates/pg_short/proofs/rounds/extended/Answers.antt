use Rattle.std.proofs.Common.{◌++◌, List, take, arith, ap, ◌∙◌}
use Rattle.std.specs.Prelude.{flat_map}
use Rattle.pg_meaning.specs.Walks.{Hop}
use Rattle.pg_view.specs.declared.view.Neighbour.{Neighbour}
use Rattle.pg_auto.specs.Autos.{leg_view}
use Rattle.pg_short.specs.Rounds.{longer_over, reading}
use Rattle.pg_short.specs.Costs.{front_cost}
use Rattle.pg_short.proofs.FoundRounds.{flat_one_more}
use Rattle.pg_short.proofs.Sums.{sum_one_more}
use Rattle.pg_short.proofs.rounds.extended.Goals as goal

pub loop-front-preserved : goal.loop-front-preserved
loop-front-preserved g c =
    let f = longer_over (reading (g.V.View.shapes c.args.view.now) (g.V.View.tables c.args.view.now) c.args.graph.now c.args.vertex.now) (leg_view c.args.leg.now) c.args.vertex.now in
    let own = front_cost (g.V.View.hop_cost c.args.view.now) (g.V.View.shapes c.args.view.now) c.args.graph.now (leg_view c.args.leg.now) c.args.vertex.now in
    record {
      hops = c.in_ok-push_longer.ensures.hops ∙ ap (λ (hs : List (List Hop)). hs ++ f c.as_slice.result.now) c.loop-front.invariant.hops
          ∙ ap (λ (x : List Neighbour). flat_map f (take c.loop-front.front-index c.args.fronts.now) ++ f x) c.as_slice.ensures
          ∙ flat_one_more f c.args.fronts.now c.loop-front.front-index c.front-item.result c.loop-front-test.true c.front-item.is;
      cost =
          let a = c.in_ok-push_longer.ensures.cost in
          let b = c.loop-front.invariant.cost in
          let d = ap own c.as_slice.ensures in
          let e = sum_one_more own c.args.fronts.now c.loop-front.front-index c.front-item.result c.loop-front-test.true c.front-item.is in
          omega arith;
    }
