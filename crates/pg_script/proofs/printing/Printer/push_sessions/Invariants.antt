use Rattle.std.proofs.Common.{◌≡◌, ◌++◌, take}
use Rattle.std.specs.List.{flat_map}
use Rattle.pg_script.specs.Text.{session_text}
use Rattle.pg_script.proofs.printing.Printer.push_sessions.Given as goal

abbrev pub invariant-loop-session : goal.invariant-loop-session
invariant-loop-session l = l.self ≡ l.fn.self ++ flat_map session_text (take l.session-index l.sessions)
