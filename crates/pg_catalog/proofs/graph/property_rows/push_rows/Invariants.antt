use Rattle.std.proofs.Common.{◌≡◌, ◌++◌, drop, map}
use Rattle.pg_catalog.specs.PropertyRows.{row_view, under}
use Rattle.pg_catalog.proofs.graph.property_rows.push_rows.Given as goal

abbrev pub invariant-loop-property : goal.invariant-loop-property
invariant-loop-property l = map row_view l.out.items ++ map (under l.label) (drop l.property-index l.properties) ≡ map row_view l.fn.out.items ++ map (under l.label) l.properties
