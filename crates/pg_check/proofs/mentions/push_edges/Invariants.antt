use Rattle.std.proofs.Common.{◌≡◌, drop, map, ◌++◌}
use Rattle.pg_check.specs.Gathered.{spot_view, spots_of_edges}
use Rattle.pg_check.proofs.mentions.push_edges.Given as goal

abbrev pub invariant-loop-edge : goal.invariant-loop-edge
invariant-loop-edge l = map spot_view l.out.items ++ spots_of_edges l.part (drop l.edge-index l.edges) ≡ map spot_view l.fn.out.items ++ spots_of_edges l.part l.edges
