use Rattle.std.proofs.Common.{◌<◌, subst}
use Rattle.pgq.proofs.Runs.Sections.{name_more}
use Rattle.pgq.proofs.run.table_names.Goals as goal

pub tables-preserved : goal.tables-preserved
tables-preserved c = name_more c.args.catalog.now.0 c.tables.table c.tables.names c.push.new.self c.in-Ok.name (subst (λ k. c.tables.table < k) c.table_count-table-end.ensures c.tables-test.true) c.in-Ok.ensures c.tables.invariant c.in-Ok-push.ensures.ok
