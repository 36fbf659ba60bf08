use Rattle.std.proofs.Common.{subst}
use Rattle.pg_snap.specs.Snapshots.{IsSnapshot, parts}
use Rattle.pg_snap.proofs.RowLaws.{laid_fits}
use Rattle.pg_snap.proofs.snapshot.Snapshot.fits.Goals as goal

pub returns-clause-tables : goal.returns-clause-tables
returns-clause-tables c =
    let h = subst IsSnapshot c.self.view_is c.self.invariant in
    laid_fits c.args.self.now.base.shapes c.args.self.now.base.tables (parts c.args.self.now) h.fit h.parts
