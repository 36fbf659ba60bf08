use Rattle.std.proofs.Common.{◌≡◌, take}
use Rattle.std.specs.List.{sum_by}
use Rattle.pg_script.specs.Generated.{rows_of_section}
use Rattle.pg_script.proofs.totals.rows.Given as goal

abbrev pub invariant-loop-section : goal.invariant-loop-section
invariant-loop-section l = l.total ≡ sum_by rows_of_section (take l.section-index l.sections)
