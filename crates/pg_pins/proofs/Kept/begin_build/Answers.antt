use Rattle.std.proofs.Common.{sym, subst, ◌≡◌, ◌<◌, length, None}
use Rattle.pg_pins.specs.Held.{pin_of}
use Rattle.pg_pins.proofs.Rooms.{whole_begin}
use Rattle.pg_pins.proofs.Kept.begin_build.Goals as goal

pub invariant_of-self : goal.invariant_of-self
invariant_of-self g c = whole_begin _ _ _ _ _ c.args.seat c.self.invariant (subst (λ h. c.args.seat < length h.pins) (sym c.self.view_is) c.requires.seated) (subst (λ h. pin_of h c.args.seat ≡ None) (sym c.self.view_is) c.requires.free)
