use Rattle.std.proofs.Common.{◌≡◌, ◌++◌, take}
use Rattle.std.specs.List.{flat_map}
use Rattle.pg_script.specs.Text.{write_line}
use Rattle.pg_script.proofs.printing.Printer.push_writes.Given as goal

abbrev pub invariant-loop-at : goal.invariant-loop-at
invariant-loop-at l = l.self ≡ l.fn.self ++ flat_map (write_line l.tables) (take l.at l.writes.list)
