use Rattle.std.proofs.Common.{◌∙◌}
use Rattle.pg_snap.specs.Snapshots.{tables_of}
use Rattle.pg_snap.proofs.ElementLaws.{no_elements, elements_more, all_elements}
use Rattle.pg_snap.proofs.snapshot.Snapshot.elements_in.Goals as goal

pub loop-table-init : goal.loop-table-init
loop-table-init c = c.new-out.ensures ∙ no_elements (record { 0 = c.args.bits }) (tables_of c.args.self.now)

pub loop-table-preserved : goal.loop-table-preserved
loop-table-preserved c = elements_more (record { 0 = c.args.bits }) c.loop-table.table (tables_of c.args.self.now) c.loop-table.out c.push_elements.new.out c.fits.ensures.tables.in_order c.loop-table.invariant c.in_ok-push_elements.ensures

pub returns : goal.returns
returns c = all_elements (record { 0 = c.args.bits }) c.loop-table.table (tables_of c.args.self.now) c.loop-table.out c.ranges.bits.fits c.loop-table-test.false c.loop-table.auto.table-end c.loop-table.invariant
