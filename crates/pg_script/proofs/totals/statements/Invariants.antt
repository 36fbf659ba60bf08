use Rattle.std.proofs.Common.{◌≡◌, take}
use Rattle.std.specs.List.{sum_by}
use Rattle.pg_script.specs.Generated.{statement_count}
use Rattle.pg_script.proofs.totals.statements.Given as goal

abbrev pub invariant-loop-section : goal.invariant-loop-section
invariant-loop-section l = l.total ≡ sum_by statement_count (take l.section-index l.sections)
