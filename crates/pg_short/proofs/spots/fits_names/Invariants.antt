use Rattle.std.proofs.Common.{◌≡◌, map, drop}
use Rattle.pg_expr.specs.Mentions.{mention_view}
use Rattle.pg_short.specs.Steps.{named_view, fits_names}
use Rattle.pg_short.proofs.spots.fits_names.Given as goal

abbrev pub invariant-loop-mention : goal.invariant-loop-mention
invariant-loop-mention l = fits_names (map named_view l.names) (map mention_view l.seen) ≡ fits_names (map named_view l.names) (map mention_view (drop l.mention-index l.seen))
