use Rattle.std.proofs.Common.{◌≡◌, drop, map, ◌++◌}
use Rattle.std.specs.List.{flat_map}
use Rattle.pg_rules.specs.Queries.Collections.{inner_in}
use Rattle.pg_check.specs.Passes.{inner_view}
use Rattle.pg_check.proofs.gather.conditions_in.Given as goal

abbrev pub invariant-loop-path : goal.invariant-loop-path
invariant-loop-path l = map inner_view l.out.items ++ flat_map (λ p. flat_map inner_in p.parts) (drop l.path-index l.paths) ≡ flat_map (λ p. flat_map inner_in p.parts) l.paths
