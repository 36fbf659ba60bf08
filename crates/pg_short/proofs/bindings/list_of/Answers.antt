use Rattle.std.proofs.Common.{◌++◌, List, map, take, ap, sym, ◌∙◌}
use Rattle.pg_value.specs.declared.shape.ElemId.{ElemId}
use Rattle.pg_meaning.specs.Fits.{Mention, elements}
use Rattle.pg_expr.specs.Mentions.{mention_view}
use Rattle.pg_short.specs.Walks.{named_at}
use Rattle.pg_short.proofs.Lists.{map_one_more}
use Rattle.pg_short.proofs.Naming.{elements_push}
use Rattle.pg_short.proofs.bindings.list_of.Goals as goal

pub loop-mention-preserved : goal.loop-mention-preserved
loop-mention-preserved c =
    let x = c.mention-item.result in
    c.in_ok-push_named.ensures ∙ ap (λ (es : List ElemId). es ++ named_at c.args.var (mention_view x)) c.loop-mention.invariant
    ∙ sym (elements_push (map mention_view (take c.loop-mention.mention-index c.args.named.now)) (mention_view x) c.args.var)
    ∙ ap (λ (ms : List Mention). elements ms c.args.var) (map_one_more mention_view c.args.named.now c.loop-mention.mention-index x c.loop-mention-test.true c.mention-item.is)
