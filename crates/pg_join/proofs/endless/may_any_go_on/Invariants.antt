use Rattle.std.proofs.Common.{◌≡◌, drop}
use Rattle.std.specs.List.{list_any}
use Rattle.pg_meaning.specs.Outlines.{has_no_upper}
use Rattle.pg_meaning.specs.Sound.Patterns.{outline_of}
use Rattle.pg_join.proofs.endless.may_any_go_on.Given as goal

abbrev pub invariant-loop-part : goal.invariant-loop-part
invariant-loop-part l = list_any (λ p. has_no_upper (outline_of p).quant) l.parts ≡ list_any (λ p. has_no_upper (outline_of p).quant) (drop l.part-index l.parts)
