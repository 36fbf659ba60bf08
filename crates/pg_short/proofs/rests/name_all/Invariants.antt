use Rattle.std.proofs.Common.{map, take}
use Rattle.pg_expr.specs.Mentions.{mention_view}
use Rattle.pg_short.specs.Rests.{IsNamedOn}
use Rattle.pg_short.proofs.rests.name_all.Given as goal

abbrev pub invariant-loop-mention : goal.invariant-loop-mention
invariant-loop-mention l = IsNamedOn l.fn.numbers l.names (map mention_view (take l.mention-index l.seen)) l.at l.numbers
