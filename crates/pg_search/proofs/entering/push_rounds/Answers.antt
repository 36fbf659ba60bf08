use Rattle.std.proofs.Common.{◌≡◌, ◌∷◌, [], length, ap, sym, subst, ◌∙◌, append_assoc, arith, refl}
use Rattle.std.proofs.lemmas.Grind.{common_steps}
use Rattle.std.specs.Vec.Iter.{into_iter_items}
use Rattle.pg_keyed.specs.Lists.{Each}
use Rattle.pg_value.specs.declared.shape.GraphShape.{GraphShape}
use Rattle.pg_auto.specs.Autos.{stage_view}
use Rattle.pg_search.specs.Numbers.{state_of}
use Rattle.pg_search.specs.Searches.{IsSomeRound, task_at, entered_if}
use Rattle.pg_search.proofs.Numbers.{grow_none, grow_on, state_stays}
use Rattle.pg_search.proofs.PuttingStates.{rounds_none, rounds_more, some_on}
use Rattle.pg_search.proofs.entering.push_rounds.Goals as goal

empty_graph : GraphShape
empty_graph = record { vertices = []; edges = [] }

pub loop-walk-init : goal.loop-walk-init
loop-walk-init g c =
    let same : into_iter_items c.into_iter-walk-iterator.result ≡ c.args.walks.items = grind (arith, common_steps) in
    record {
      all = refl;
      left = grind (arith, common_steps);
      some = subst (λ ks. Each (IsSomeRound c.args.numbers.now c.args.state.now (stage_view c.args.stage.now)) ks) (sym same) c.requires.walks;
      grow = grow_none c.args.numbers.now;
      kept = c.requires.kept;
      put = λ stages graph rounds are. rounds_none c.args.numbers.now c.args.state.now (stage_view c.args.stage.now) c.args.states.now c.requires.kept (entered_if (task_at (g.V.View.shapes c.args.view.now) graph (g.V.View.tables c.args.view.now) stages c.args.mode c.args.numbers.now.start) (state_of c.args.numbers.now c.args.state.now) (stage_view c.args.stage.now)) rounds are;
    }

pub loop-walk-preserved : goal.loop-walk-preserved
loop-walk-preserved g c =
    let n = c.args.numbers.now in
    let a = c.args.state.now in
    let stage = stage_view c.args.stage.now in
    let at = c.loop-walk in
    let x = c.in-Some.walk in
    let steps : into_iter_items at.walk-iterator ≡ x ∷ into_iter_items c.next.new.self = c.in-Some.ensures.steps.0 in
    let some : Each (IsSomeRound n a stage) (x ∷ into_iter_items c.next.new.self) = subst (λ ks. Each (IsSomeRound n a stage) ks) steps at.invariant.some in
    let shapes = g.V.View.shapes c.args.view.now in
    let tables = g.V.View.tables c.args.view.now in
    let here = some_on n at.numbers at.invariant.grow a c.requires.fine.within stage x some.0 in
    let own = c.in_ok-push_round.ensures [] (empty_graph) here.hops here.round in
    record {
      all = append_assoc at.yielded (x ∷ []) _ ∙ rw (← steps) at.invariant.all;
      left = let was = at.invariant.left in let gone = c.in-Some.ensures.steps.1 in let short = ap length steps in omega arith;
      some = some.1;
      grow = grow_on n at.numbers c.push_round.new.numbers at.invariant.grow own.grow;
      kept = own.within;
      put = λ stages graph. rounds_more n at.numbers c.push_round.new.numbers a c.requires.fine.within stage at.yielded x some.0.within at.invariant.grow c.args.states.now at.states c.push_round.new.states c.requires.kept
          (entered_if (task_at shapes graph tables stages c.args.mode n.start) (state_of n a) stage)
          (entered_if (task_at shapes graph tables stages c.args.mode at.numbers.start) (state_of at.numbers a) stage)
          (λ hops. let v = at.invariant.grow.start in let z = state_stays n at.numbers at.invariant.grow a c.requires.fine.within in λ i. entered_if (task_at shapes graph tables stages c.args.mode (v i)) (z i) stage hops)
          (at.invariant.put stages graph) (c.in_ok-push_round.ensures stages graph);
    }
