use Rattle.std.proofs.Common.{◌≡◌, ◌≤◌, ◌+◌, drop}
use Rattle.pg_script.specs.Passes.{parts_of}
use Rattle.pg_script.specs.Passes.Drafts.{find_session}
use Rattle.pg_script.proofs.items.session_of.Given as goal

abbrev pub invariant-sessions : goal.invariant-sessions
invariant-sessions l = record {
  small : l.number ≤ l.part-index + 1;
  so_far : find_session l.name l.least l.number (parts_of l.bytes (drop l.part-index l.before)) ≡ find_session l.name l.least 1 (parts_of l.bytes l.before);
}
