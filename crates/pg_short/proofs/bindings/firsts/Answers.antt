use Rattle.std.proofs.Common.{List, map, take, ap, sym, ◌∙◌}
use Rattle.pg_meaning.specs.Fits.{Mention, firsts}
use Rattle.pg_expr.specs.Mentions.{mention_view}
use Rattle.pg_short.specs.Walks.{with_first}
use Rattle.pg_short.proofs.Lists.{map_one_more}
use Rattle.pg_short.proofs.Naming.{firsts_push}
use Rattle.pg_short.proofs.bindings.firsts.Goals as goal

pub loop-mention-preserved : goal.loop-mention-preserved
loop-mention-preserved c =
    let x = c.mention-item.result in
    c.in_ok-push_first.ensures ∙ ap (λ (ms : List Mention). with_first ms (mention_view x)) c.loop-mention.invariant
    ∙ sym (firsts_push (map mention_view (take c.loop-mention.mention-index c.args.seen.now)) (mention_view x))
    ∙ ap firsts (map_one_more mention_view c.args.seen.now c.loop-mention.mention-index x c.loop-mention-test.true c.mention-item.is)
