use Rattle.pg_snap.proofs.KeptLaws.{fits_more}
use Rattle.pg_snap.proofs.kept.for_shapes.Goals as goal

pub reshaped-requires-clause-fit : goal.reshaped-requires-clause-fit
reshaped-requires-clause-fit c = fits_more c.args.base.shapes c.args.shapes.now c.args.base.tables c.requires.extends c.well_made.ensures.tables
