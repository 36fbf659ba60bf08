use Rattle.std.proofs.Common.{◌≡◌, filter}
use Rattle.indexmap.specs.IndexMap.{get}
use Rattle.pg_value.specs.Graph.{same_elem}
use Rattle.pg_join.specs.Ends.{is_least}
use Rattle.pg_join.proofs.selecting.having_least.Given as goal

abbrev pub invariant-loop-binding : goal.invariant-loop-binding
invariant-loop-binding l = l.kept ≡ filter (is_least (λ e. get same_elem l.least e)) l.yielded
