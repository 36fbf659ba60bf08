use Rattle.std.proofs.Common.{◌≡◌, ◌++◌, take}
use Rattle.pg_join.proofs.lists.push_elements.Given as goal

abbrev pub invariant-loop-element : goal.invariant-loop-element
invariant-loop-element l = l.key.items ≡ l.fn.key.items ++ take l.element-index l.elements
