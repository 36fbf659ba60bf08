use Rattle.std.proofs.Common.{◌≡◌, ◌++◌}
use Rattle.pg_check.specs.Resolved.{numbered, names_in}
use Rattle.pg_check.proofs.variables.numbers_of.Given as goal

abbrev pub invariant-loop-mention : goal.invariant-loop-mention
invariant-loop-mention l = l.out ++ numbered (names_in l.all) l.mention-iterator ≡ numbered (names_in l.all) l.firsts.entries
