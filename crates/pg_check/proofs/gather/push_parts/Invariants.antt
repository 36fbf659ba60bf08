use Rattle.std.proofs.Common.{◌≡◌, drop, map, ◌++◌}
use Rattle.std.specs.List.{flat_map}
use Rattle.pg_rules.specs.Queries.Collections.{inner_in}
use Rattle.pg_check.specs.Passes.{inner_view}
use Rattle.pg_check.proofs.gather.push_parts.Given as goal

abbrev pub invariant-loop-part : goal.invariant-loop-part
invariant-loop-part l = map inner_view l.out.items ++ flat_map inner_in (drop l.part-index l.parts) ≡ map inner_view l.fn.out.items ++ flat_map inner_in l.parts
