use Rattle.std.proofs.Common.{◌≡◌, ◌++◌}
use Rattle.pg_join.proofs.starts.push_vertices.Given as goal

abbrev pub invariant-loop-vertex : goal.invariant-loop-vertex
invariant-loop-vertex l = l.starts ≡ l.fn.starts ++ l.yielded
