use Rattle.std.proofs.Common.{arith, rules}
use Rattle.pg_pins.proofs.Rooms.{whole_new}
use Rattle.pg_pins.proofs.Kept.new.Goals as goal

pub invariant_of-result : goal.invariant_of-result
invariant_of-result g c = whole_new c.args.no c.args.seats _ c.args.base c.push.new.self.items c.in_ok-pins.pins.items (search rules) (search rules) (let a = c.in_ok-bases.ensures.capacity in let b = c.push.ensures.capacity in omega arith)
