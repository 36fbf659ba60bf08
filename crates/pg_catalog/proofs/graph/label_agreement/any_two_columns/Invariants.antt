use Rattle.std.proofs.Common.{◌≡◌, drop}
use Rattle.std.specs.List.{flat_map}
use Rattle.pg_rules.specs.Places.{least, sooner, place_if}
use Rattle.pg_rules.specs.Definitions.Graphs.{two_columns, rows}
use Rattle.pg_catalog.proofs.graph.label_agreement.any_two_columns.Given as goal

abbrev pub invariant-loop-e : goal.invariant-loop-e
invariant-loop-e l = sooner l.found (least (flat_map (λ e. place_if (two_columns (rows e.element)) e.at) (drop l.e-index l.elements))) ≡ least (flat_map (λ e. place_if (two_columns (rows e.element)) e.at) l.elements)
