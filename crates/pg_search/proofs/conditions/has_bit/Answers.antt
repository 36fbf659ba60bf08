use Rattle.std.proofs.Common.{arith, rules}
use Rattle.std.proofs.lemmas.Nat.Bits.{bit_at_above}
use Rattle.pg_search.proofs.conditions.has_bit.Goals as goal

pub returns-else-at-lt64 : goal.returns-else-at-lt64
returns-else-at-lt64 c = let l = c.if-at-lt64.false in let f = c.ranges.bits in rw (bit_at_above c.args.bits 64 c.args.at (omega arith) l) (search rules)
