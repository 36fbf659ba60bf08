use Rattle.std.proofs.Common.{subst, sym}
use Rattle.pg_check.specs.ColumnPlaces.{AreColumns}
use Rattle.pg_check.proofs.ColumnLaws.{one_more}
use Rattle.pg_check.proofs.column_places.ColumnPlaces.add.Goals as goal

pub returns-in-Ok : goal.returns-in-Ok
returns-in-Ok c = subst (AreColumns c.args.catalog.now c.args.graph) (sym c.in-Ok.ensures) (one_more c.args.catalog.now c.args.graph c.args.self.now c.args.name.now.text c.in_ok-places.places c.requires c.in_ok-places.ensures)
