use Rattle.std.proofs.Common.{◌≡◌, map, take}
use Rattle.pg_expr.specs.Mentions.{mention_view}
use Rattle.pg_search.specs.Numbers.{mention_of}
use Rattle.pg_search.proofs.follows.mentions_of.Given as goal

abbrev pub invariant-loop-var : goal.invariant-loop-var
invariant-loop-var l = map mention_view l.mentions.items ≡ map (mention_of l.numbers) (take l.var-index l.seen)
