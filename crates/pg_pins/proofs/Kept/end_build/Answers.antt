use Rattle.std.proofs.Common.{arith, ◌≡◌, subst, sym}
use Rattle.std.specs.Prelude.{Some}
use Rattle.pg_pins.proofs.Rooms.{whole_end, held_seat}
use Rattle.pg_pins.proofs.Kept.end_build.Goals as goal

pub invariant_of-self : goal.invariant_of-self
invariant_of-self g c = whole_end _ _ _ _ _ _ _ _ c.args.seat c.self.invariant c.as_slice.ensures.value c.retain_needed.ensures.items c.retain_needed.ensures.room

pub index_mut-requires : goal.index_mut-requires
index_mut-requires g c =
    let o = c.self.inside.pins.ok in
    let l = held_seat _ c.args.seat (c.self.invariant.0.building c.args.seat (subst (λ h. h.build ≡ Some c.args.seat) (sym c.self.view_is) c.requires)) in
    omega (arith, o, l)
