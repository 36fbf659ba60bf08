use Rattle.std.proofs.Common.{subst, sym, ◌≡◌, None}
use Rattle.pg_pins.specs.Held.{pin_of}
use Rattle.pg_pins.proofs.Rooms.{whole_pin}
use Rattle.pg_pins.proofs.Kept.pin.Goals as goal

pub invariant_of-self : goal.invariant_of-self
invariant_of-self g c = whole_pin _ _ _ _ _ c.args.seat c.self.invariant (subst (λ h. pin_of h c.args.seat ≡ None) (sym c.self.view_is) c.requires.free)
