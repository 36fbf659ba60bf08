use Rattle.std.proofs.Common.{[], ◌∷◌, List}
use Rattle.pg_meaning.specs.Walks.{Hop}
use Rattle.pg_meaning.specs.Fits.{seen_in}
use Rattle.pg_auto.specs.Autos.{stage_view}
use Rattle.pg_auto.specs.Successors.{enter}
use Rattle.pg_search.specs.Puts.{IsPut}
use Rattle.pg_search.specs.Numbers.{state_of}
use Rattle.pg_search.specs.Steps.{AreSeen}
use Rattle.pg_search.specs.Searches.{IsRoundWalk, PutStates}
use Rattle.pg_search.proofs.Naming.{on_ok}
use Rattle.pg_search.proofs.PuttingStates.{put_one}
use Rattle.pg_search.proofs.entering.put_entered.Goals as goal

pub returns : goal.returns
returns c =
    let n = c.args.numbers.now in
    let m = c.entered.new.numbers in
    let stage = stage_view c.args.stage.now in
    let a = c.args.state.now in
    on_ok c.put.result (IsPut c.args.states.now c.in_ok-next.next c.put.new.self)
    ((hops : List Hop) → IsRoundWalk n a stage c.args.walk hops → AreSeen n c.args.seen.items (seen_in stage.round (state_of n a).at hops) → PutStates n m c.args.states.now c.put.new.self (enter (state_of n a) stage hops ∷ []))
    (λ p hops r s. put_one n m c.are_numbers.ensures c.in_ok-next.next (enter (state_of n a) stage hops) (c.in_ok-next.ensures hops r s) c.args.states.now c.put.new.self c.requires.kept p)
    c.put.ensures.ok
