use Rattle.std.proofs.Common.{◌≡◌, false, take}
use Rattle.pg_search.specs.Seen.{has_variable}
use Rattle.pg_search.proofs.seen.has_variable.Given as goal

abbrev pub invariant-loop-mention : goal.invariant-loop-mention
invariant-loop-mention l = has_variable (take l.mention-index l.seen) l.var ≡ false
