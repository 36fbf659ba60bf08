use Rattle.std.proofs.Common.{◌≡◌, ◌+◌, ◌++◌, drop}
use Rattle.pg_script.specs.Text.{commits_text}
use Rattle.pg_script.proofs.printing.Printer.push_commits.Given as goal

abbrev pub invariant-loop-i : goal.invariant-loop-i
invariant-loop-i l = l.self ++ commits_text l.sections l.tables (l.i + 1) (drop l.i l.commits) ≡ l.fn.self ++ commits_text l.sections l.tables 1 l.commits
