use Rattle.std.proofs.Common.{◌++◌, List, map, take, ap, ◌∙◌, append_assoc}
use Rattle.pg_meaning.specs.Fits.{Mention}
use Rattle.pg_expr.specs.Mentions.{mention_view}
use Rattle.pg_short.specs.Walks.{round_view, rounds_in, groups_at, groups_along}
use Rattle.pg_short.proofs.Along.{flat_more}
use Rattle.pg_short.proofs.bindings.push_all_groups.Goals as goal

pub loop-round-preserved : goal.loop-round-preserved
loop-round-preserved c =
    let r = round_view c.round-item.result in
    c.in_ok-push_groups.ensures ∙ ap (λ (ms : List Mention). ms ++ groups_at r) c.loop-round.invariant
    ∙ append_assoc (map mention_view c.args.out.now.items) (groups_along (rounds_in (take c.loop-round.round-index c.args.rounds.now))) (groups_at r)
    ∙ ap (λ (ms : List Mention). map mention_view c.args.out.now.items ++ ms) (flat_more groups_at round_view c.args.rounds.now c.loop-round.round-index c.round-item.result c.loop-round-test.true c.round-item.is)
