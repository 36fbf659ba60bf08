use Rattle.std.proofs.Common.{◌≡◌, ◌++◌, map, take}
use Rattle.std.specs.Prelude.{filter}
use Rattle.std.specs.List.{list_any}
use Rattle.pg_auto.specs.Autos.{stage_view}
use Rattle.pg_expr.specs.Mentions.{mention_view}
use Rattle.pg_short.specs.Steps.{named_view}
use Rattle.pg_short.specs.Spots.{names}
use Rattle.pg_short.proofs.spots.push_mentions.Given as goal

abbrev pub invariant-loop-mention : goal.invariant-loop-mention
invariant-loop-mention l = map named_view l.out.items ≡ map named_view l.fn.out.items ++ filter (λ m. list_any (names m.var) (map stage_view l.stages)) (map mention_view (take l.mention-index l.seen))
