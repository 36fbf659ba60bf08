use Rattle.std.proofs.Common.{◌≡◌, subst, sym}
use Rattle.std.specs.Prelude.{Some}
use Rattle.pg_pins.proofs.Rooms.{whole_release}
use Rattle.pg_pins.proofs.Kept.release.Goals as goal

pub invariant_of-self : goal.invariant_of-self
invariant_of-self g c = whole_release _ _ _ _ _ _ _ _ c.args.seat c.self.invariant (subst (λ h. h.build ≡ Some c.args.seat → ⊥) (sym c.self.view_is) c.requires) c.as_slice.ensures.value c.retain_needed.ensures.items c.retain_needed.ensures.room
