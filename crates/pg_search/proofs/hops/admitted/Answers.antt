use Rattle.std.proofs.Common.{◌≡◌, [], ◌∷◌, ◌++◌, cond, length, sym, ap, ◌∙◌, append_assoc, append-nil, arith}
use Rattle.std.specs.Prelude.{flat_map}
use Rattle.std.specs.Vec.Iter.{into_iter_items}
use Rattle.std.proofs.lemmas.Grind.{flat_map-append, common_steps}
use Rattle.pg_view.specs.declared.view.Neighbour.{Neighbour}
use Rattle.pg_meaning.specs.Walks.{graph_of}
use Rattle.pg_auto.specs.Autos.{leg_view}
use Rattle.pg_auto.specs.Tests.{leg_admits}
use Rattle.pg_search.specs.Hops.{hop_view}
use Rattle.pg_search.proofs.hops.admitted.Goals as goal

pub loop-hop-preserved : goal.loop-hop-preserved
loop-hop-preserved g c =
    let at = c.loop-hop in
    let x = c.in-Some.hop in
    let steps : into_iter_items at.hop-iterator ≡ x ∷ into_iter_items c.next.new.self = c.in-Some.ensures.steps.0 in
    record {
      all = append_assoc at.yielded (x ∷ []) _ ∙ rw (← steps) at.invariant.all;
      left = let was = at.invariant.left in let gone = c.in-Some.ensures.steps.1 in let short = ap length steps in omega arith;
      kept = λ graph.
          let f = λ (hop : Neighbour). cond (leg_admits (graph_of (g.V.View.shapes c.args.view.now) graph (g.V.View.tables c.args.view.now)) (leg_view c.args.leg.now) (hop_view hop)) (hop ∷ []) [] in
          c.in_ok-push_admitted.ensures graph
          ∙ ap (λ l. l ++ f x) (at.invariant.kept graph)
          ∙ ap (λ l. flat_map f at.yielded ++ l) (sym (append-nil (f x)))
          ∙ sym (flat_map-append f at.yielded (x ∷ []));
    }

pub returns : goal.returns
returns g c =
    let at = c.loop-hop in
    let whole : at.yielded ≡ c.args.read = grind (arith, common_steps) in
    λ graph.
    let f = λ (hop : Neighbour). cond (leg_admits (graph_of (g.V.View.shapes c.args.view.now) graph (g.V.View.tables c.args.view.now)) (leg_view c.args.leg.now) (hop_view hop)) (hop ∷ []) [] in
    at.invariant.kept graph ∙ ap (flat_map f) whole
