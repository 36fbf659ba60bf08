use Rattle.std.proofs.Common.{List, map, subst, ap, ◌∙◌}
use Rattle.std.specs.Prelude.{OnOk}
use Rattle.pg_meaning.specs.Walks.{Hop}
use Rattle.pg_value.specs.declared.shape.ElemId.{ElemId}
use Rattle.pg_view.specs.Neighbours.{neighbour}
use Rattle.pg_auto.specs.Autos.{leg_view}
use Rattle.pg_search.specs.Hops.{hops_of}
use Rattle.pg_search.specs.Numbers.{hops_at}
use Rattle.pg_search.specs.Rounds.{with_hop}
use Rattle.pg_search.specs.Steps.{AreAdded}
use Rattle.pg_search.proofs.Adding.{hops_behind}
use Rattle.pg_search.proofs.rounds.push_longer.Goals as goal

pub returns : goal.returns
returns g c =
    let over = λ (v : ElemId). hops_of (g.V.View.shapes c.args.view.now) c.args.graph.now (g.V.View.tables c.args.view.now) (leg_view c.args.leg.now) v in
    let walk = hops_at c.args.numbers.now c.args.walk in
    subst (λ (ws : List (List Hop)). OnOk c.push_steps.result (AreAdded c.args.numbers.now c.push_steps.new.numbers c.args.out.now.items c.push_steps.new.out.items ws))
    (ap (map (with_hop walk)) c.in_ok-hops.ensures.ok ∙ hops_behind walk (over c.elem.result.now) ∙ ap (λ (v : ElemId). map (λ hop. with_hop walk (neighbour hop)) (over v)) (c.elem.ensures ∙ c.last-last.ensures.stands))
    c.push_steps.ensures
