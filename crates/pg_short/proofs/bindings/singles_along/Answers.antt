use Rattle.std.proofs.Common.{◌++◌, List, ap, ◌∙◌}
use Rattle.pg_meaning.specs.Fits.{Mention}
use Rattle.pg_short.specs.Walks.{round_view, singles_at}
use Rattle.pg_short.proofs.Along.{flat_more}
use Rattle.pg_short.proofs.bindings.singles_along.Goals as goal

pub loop-round-preserved : goal.loop-round-preserved
loop-round-preserved c =
    c.in_ok-push_singles.ensures ∙ ap (λ (ms : List Mention). ms ++ singles_at (round_view c.round-item.result)) c.loop-round.invariant
    ∙ flat_more singles_at round_view c.args.rounds.now c.loop-round.round-index c.round-item.result c.loop-round-test.true c.round-item.is
