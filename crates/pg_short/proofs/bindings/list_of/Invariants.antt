use Rattle.std.proofs.Common.{◌≡◌, map, take}
use Rattle.pg_meaning.specs.Fits.{elements}
use Rattle.pg_expr.specs.Mentions.{mention_view}
use Rattle.pg_short.proofs.bindings.list_of.Given as goal

abbrev pub invariant-loop-mention : goal.invariant-loop-mention
invariant-loop-mention l = l.list ≡ elements (map mention_view (take l.mention-index l.named)) l.var
