use Rattle.std.proofs.Common.{◌≡◌, map, drop}
use Rattle.std.specs.List.{list_all}
use Rattle.pg_expr.specs.Mentions.{mention_view}
use Rattle.pg_auto.specs.Tests.{fits_mention}
use Rattle.pg_short.specs.Steps.{named_view}
use Rattle.pg_short.proofs.spots.fits_all.Given as goal

abbrev pub invariant-loop-name : goal.invariant-loop-name
invariant-loop-name l = list_all (fits_mention (mention_view l.mention)) (map named_view l.names) ≡ list_all (fits_mention (mention_view l.mention)) (map named_view (drop l.name-index l.names))
