use Rattle.std.proofs.Common.{◌≡◌, map, take}
use Rattle.pg_meaning.specs.Fits.{elements}
use Rattle.pg_expr.specs.Mentions.{mention_view}
use Rattle.pg_short.proofs.bindings.lists_of.Given as goal

abbrev pub invariant-loop-var : goal.invariant-loop-var
invariant-loop-var l = l.lists ≡ map (elements (map mention_view l.named)) (take l.var-index l.vars)
