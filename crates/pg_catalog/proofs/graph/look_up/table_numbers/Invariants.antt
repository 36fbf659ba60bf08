use Rattle.std.proofs.Common.{◌≡◌, take, map}
use Rattle.pg_catalog.proofs.graph.look_up.table_numbers.Given as goal

abbrev pub invariant-loop-element : goal.invariant-loop-element
invariant-loop-element l = l.out ≡ map (λ e. e.table) (take l.element-index l.elements)
