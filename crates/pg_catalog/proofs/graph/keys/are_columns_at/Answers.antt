use Rattle.std.proofs.Common.{sym}
use Rattle.pg_rules.specs.Definitions.Graphs.{is_column_at}
use Rattle.pg_catalog.proofs.Loops.{uneven}
use Rattle.pg_catalog.proofs.graph.keys.are_columns_at.Goals as goal

pub returns-then-names-places : goal.returns-then-names-places
returns-then-names-places c = sym (uneven (is_column_at c.args.columns.now) c.args.names.now c.args.places.now c.if-names-places.true)
