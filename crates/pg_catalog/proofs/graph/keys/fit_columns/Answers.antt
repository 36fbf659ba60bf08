use Rattle.std.proofs.Common.{sym}
use Rattle.pg_rules.specs.Definitions.Graphs.{fits_column}
use Rattle.pg_catalog.proofs.Loops.{uneven}
use Rattle.pg_catalog.proofs.graph.keys.fit_columns.Goals as goal

pub returns-then-names-places : goal.returns-then-names-places
returns-then-names-places c = sym (uneven (fits_column c.args.columns.now c.args.others.now) c.args.names.now c.args.places.now c.if-names-places.true)
