use Rattle.std.proofs.Common.{◌≡◌, drop}
use Rattle.pg_join.specs.Rows.{grouped}
use Rattle.pg_join.proofs.slots.grouped.Given as goal

abbrev pub invariant-loop-path : goal.invariant-loop-path
invariant-loop-path l = grouped l.var l.paths ≡ grouped l.var (drop l.path-index l.paths)
