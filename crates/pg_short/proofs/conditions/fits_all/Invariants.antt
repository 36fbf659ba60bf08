use Rattle.std.proofs.Common.{◌≡◌, map, drop}
use Rattle.std.specs.List.{list_all}
use Rattle.pg_expr.specs.Mentions.{mention_view}
use Rattle.pg_auto.specs.Tests.{fits_mention}
use Rattle.pg_short.proofs.conditions.fits_all.Given as goal

abbrev pub invariant-loop-other : goal.invariant-loop-other
invariant-loop-other l = list_all (fits_mention (mention_view l.one)) (map mention_view l.others) ≡ list_all (fits_mention (mention_view l.one)) (map mention_view (drop l.other-index l.others))
