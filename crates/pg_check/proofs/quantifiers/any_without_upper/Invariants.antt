use Rattle.std.proofs.Common.{◌≡◌, drop}
use Rattle.std.specs.List.{list_any}
use Rattle.pg_check.specs.Passes.{part_repeats}
use Rattle.pg_check.proofs.quantifiers.any_without_upper.Given as goal

abbrev pub invariant-loop-part : goal.invariant-loop-part
invariant-loop-part l = list_any part_repeats l.parts ≡ list_any part_repeats (drop l.part-index l.parts)
