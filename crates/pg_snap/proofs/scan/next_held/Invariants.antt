use Rattle.std.proofs.Common.{◌≡◌, ◌-◌, length, drop, []}
use Rattle.std.specs.Option.{option_copied, unwrap_or}
use Rattle.pg_snap.specs.Scans.{under, writes_of}
use Rattle.pg_snap.proofs.scan.next_held.Given as goal

abbrev pub invariant-walk : goal.invariant-walk
invariant-walk l = under (drop l.at (unwrap_or (option_copied l.rows) [])) (drop l.next (writes_of l.changes)) ≡ under (drop l.fn.at (unwrap_or (option_copied l.rows) [])) (drop l.fn.next (writes_of l.changes))

abbrev pub decreases-walk : goal.decreases-walk
decreases-walk l = length l.changes - l.next
