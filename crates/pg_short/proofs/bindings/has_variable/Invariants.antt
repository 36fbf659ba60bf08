use Rattle.std.proofs.Common.{◌≡◌, false, map, take}
use Rattle.pg_expr.specs.Mentions.{mention_view}
use Rattle.pg_short.specs.Walks.{has_variable}
use Rattle.pg_short.proofs.bindings.has_variable.Given as goal

abbrev pub invariant-loop-mention : goal.invariant-loop-mention
invariant-loop-mention l = has_variable (map mention_view (take l.mention-index l.seen)) l.var ≡ false
