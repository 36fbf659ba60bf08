use Rattle.std.proofs.Common.{◌≡◌, drop, map, ◌++◌}
use Rattle.pg_check.specs.Gathered.{spot_view, chain}
use Rattle.pg_check.proofs.mentions.push_pairs.Given as goal

abbrev pub invariant-loop-i : goal.invariant-loop-i
invariant-loop-i l = map spot_view l.out.items ++ chain l.part (drop l.i l.nodes) (drop l.i l.edges) ≡ map spot_view l.fn.out.items ++ chain l.part l.nodes l.edges
