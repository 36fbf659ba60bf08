use Rattle.std.proofs.Common.{◌≡◌, drop}
use Rattle.pg_catalog.specs.GraphLookUps.{column_in}
use Rattle.pg_catalog.proofs.graph.look_up.in_label.Given as goal

abbrev pub invariant-loop-property : goal.invariant-loop-property
invariant-loop-property l = column_in l.properties l.name ≡ column_in (drop l.property-index l.properties) l.name
