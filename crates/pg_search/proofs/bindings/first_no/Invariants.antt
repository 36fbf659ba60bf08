use Rattle.std.proofs.Common.{◌≡◌, take}
use Rattle.std.specs.Prelude.{None}
use Rattle.pg_search.specs.Found.{first_no}
use Rattle.pg_search.proofs.bindings.first_no.Given as goal

abbrev pub invariant-loop-name : goal.invariant-loop-name
invariant-loop-name l = first_no (take l.name-index l.names) l.var ≡ None
