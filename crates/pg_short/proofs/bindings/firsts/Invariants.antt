use Rattle.std.proofs.Common.{◌≡◌, map, take}
use Rattle.pg_meaning.specs.Fits.{firsts}
use Rattle.pg_expr.specs.Mentions.{mention_view}
use Rattle.pg_short.proofs.bindings.firsts.Given as goal

abbrev pub invariant-loop-mention : goal.invariant-loop-mention
invariant-loop-mention l = map mention_view l.out.items ≡ firsts (map mention_view (take l.mention-index l.seen))
