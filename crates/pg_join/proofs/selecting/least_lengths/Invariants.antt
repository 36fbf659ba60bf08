use Rattle.std.proofs.Common.{take}
use Rattle.indexmap.specs.IndexMap.{get}
use Rattle.pg_value.specs.declared.shape.ElemId.{ElemId}
use Rattle.pg_value.specs.Graph.{same_elem}
use Rattle.pg_join.specs.Ends.{IsLeast}
use Rattle.pg_join.proofs.selecting.least_lengths.Given as goal

abbrev pub invariant-loop-binding : goal.invariant-loop-binding
invariant-loop-binding l = (e : ElemId) → IsLeast (take l.binding-index l.found) e (get same_elem l.least e)
