use Rattle.std.proofs.Common.{◌≡◌, drop, map, ◌++◌}
use Rattle.std.specs.List.{flat_map}
use Rattle.pg_rules.specs.Queries.Collections.{inner_of}
use Rattle.pg_check.specs.Passes.{inner_view}
use Rattle.pg_check.proofs.gather.push_fillers.Given as goal

abbrev pub invariant-loop-filler : goal.invariant-loop-filler
invariant-loop-filler l = map inner_view l.out.items ++ flat_map inner_of (drop l.filler-index l.fillers) ≡ map inner_view l.fn.out.items ++ flat_map inner_of l.fillers
