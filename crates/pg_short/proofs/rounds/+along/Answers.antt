use Rattle.std.proofs.Common.{◌≡◌, ◌-◌, List, length, take, map, drop, arith, ap, sym, ◌∙◌}
use Rattle.std.specs.Prelude.{flat_map, sum_by}
use Rattle.pg_meaning.specs.Walks.{Hop}
use Rattle.pg_auto.specs.declared.auto.Leg.{Leg as HeldLeg}
use Rattle.pg_auto.specs.Autos.{leg_view}
use Rattle.pg_auto.specs.Successors.{along, longer}
use Rattle.pg_short.specs.Rounds.{all_hops, reading, longer_over}
use Rattle.pg_short.specs.Costs.{front_cost, fronts_cost}
use Rattle.pg_short.proofs.ReadRounds.{leg_first}
use Rattle.pg_short.proofs.FoundRounds.{if_ok, longer_all, split_first}
use Rattle.pg_short.proofs.rounds.+along.Goals as goal

pub returns-in_ok-next-in-len1-up-clause-hops : goal.returns-in_ok-next-in-len1-up-clause-hops
returns-in_ok-next-in-len1-up-clause-hops g t c =
    let over = reading (g.V.View.shapes c.args.view.now) (g.V.View.tables c.args.view.now) c.args.graph.now c.args.vertex.now in
    let v = c.args.vertex.now in
    let leg = leg_view c.leg-item.result in
    let legs = c.args.legs.now in
    let fronts = c.args.found.items in
    let next : all_hops c.in_ok-next-in-len1-up.next.items ≡ flat_map (λ (x : List Hop). longer over leg v x) (all_hops fronts) =
    c.in_ok-next-in-len1-up.ensures.hops ∙ ap (flat_map (longer_over over leg v)) c.as_slice.ensures.value ∙ longer_all over leg v fronts in
    if_ok c.along.result _ _
    (λ all h. h ∙ ap (λ (fs : List (List Hop)). along over (map leg_view (take (length legs - 1) (drop 1 legs))) v fs) next
    ∙ ap (λ (ls : List HeldLeg). along over (map leg_view ls) v (all_hops fronts)) (sym (split_first legs c.leg-item.result c.in-len1-up.len_at_least c.leg-item.is)))
    c.along.ensures.hops

pub returns-in_err-next-in-len1-up-clause-cost : goal.returns-in_err-next-in-len1-up-clause-cost
returns-in_err-next-in-len1-up-clause-cost g t c =
    let cost = g.V.View.hop_cost c.args.view.now in
    let shapes = g.V.View.shapes c.args.view.now in
    let tables = g.V.View.tables c.args.view.now in
    let graph = c.args.graph.now in
    let v = c.args.vertex.now in
    let leg = leg_view c.leg-item.result in
    let legs = c.args.legs.now in
    let fronts = c.args.found.items in
    let a = c.extended.ensures.cost in
    let b = ap (sum_by (front_cost cost shapes graph leg v)) c.as_slice.ensures.value in
    let d = leg_first cost shapes tables graph leg (map leg_view (take (length legs - 1) (drop 1 legs))) v v fronts in
    let e = ap (λ (ls : List HeldLeg). fronts_cost cost shapes tables graph (map leg_view ls) v (all_hops fronts)) (split_first legs c.leg-item.result c.in-len1-up.len_at_least c.leg-item.is) in
    omega arith

pub returns-in_ok-next-in-len1-up-clause-cost : goal.returns-in_ok-next-in-len1-up-clause-cost
returns-in_ok-next-in-len1-up-clause-cost g t c =
    let cost = g.V.View.hop_cost c.args.view.now in
    let shapes = g.V.View.shapes c.args.view.now in
    let tables = g.V.View.tables c.args.view.now in
    let graph = c.args.graph.now in
    let v = c.args.vertex.now in
    let leg = leg_view c.leg-item.result in
    let legs = c.args.legs.now in
    let rest = map leg_view (take (length legs - 1) (drop 1 legs)) in
    let fronts = c.args.found.items in
    let over = reading shapes tables graph v in
    let a = c.extended.ensures.cost in
    let b = ap (sum_by (front_cost cost shapes graph leg v)) c.as_slice.ensures.value in
    let d = leg_first cost shapes tables graph leg rest v v fronts in
    let e = ap (λ (ls : List HeldLeg). fronts_cost cost shapes tables graph (map leg_view ls) v (all_hops fronts)) (split_first legs c.leg-item.result c.in-len1-up.len_at_least c.leg-item.is) in
    let next : all_hops c.in_ok-next-in-len1-up.next.items ≡ flat_map (λ (x : List Hop). longer over leg v x) (all_hops fronts) =
    c.in_ok-next-in-len1-up.ensures.hops ∙ ap (flat_map (longer_over over leg v)) c.as_slice.ensures.value ∙ longer_all over leg v fronts in
    let h = ap (fronts_cost cost shapes tables graph rest v) next in
    let k = c.along.ensures.cost in
    omega arith
