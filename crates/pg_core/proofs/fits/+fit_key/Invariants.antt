use Rattle.std.proofs.Common.{length}
use Rattle.pg_core.proofs.fits.+fit_key.Given as goal

abbrev pub decreases-fit_key : goal.decreases-fit_key
decreases-fit_key l = length l.places.now
