use Rattle.pg_meaning.proofs.FittingTuples.{tuples_fit}
use Rattle.pg_meaning.proofs.BoundTuples.{bound_tuples_fit}
use Rattle.pg_meaning.proofs.laws.tuples_fit.Goals as goal

pub returns : goal.returns
returns c = record { tuples = tuples_fit; slots = bound_tuples_fit }
