use Rattle.std.proofs.Common.{◌≡◌, drop}
use Rattle.std.specs.List.{flat_map}
use Rattle.pg_rules.specs.Places.{least, sooner}
use Rattle.pg_check.specs.Passes.{reversed_part}
use Rattle.pg_check.proofs.quantifiers.reversed_parts.Given as goal

abbrev pub invariant-loop-part : goal.invariant-loop-part
invariant-loop-part l = sooner l.found (least (flat_map reversed_part (drop l.part-index l.parts))) ≡ least (flat_map reversed_part l.parts)
