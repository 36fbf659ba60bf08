use Rattle.std.proofs.Common.{length}
use Rattle.pg_core.proofs.fits.+has_values.Given as goal

abbrev pub decreases-has_values : goal.decreases-has_values
decreases-has_values l = length l.places.now
