use Rattle.std.proofs.Common.{arith, subst, sym, ◌<◌}
use Rattle.pg_pins.proofs.Rooms.{whole_install, room_for}
use Rattle.pg_pins.proofs.Kept.install.Goals as goal

pub invariant_of-self : goal.invariant_of-self
invariant_of-self g c = whole_install _ c.args.no c.args.base _ _ _ _ _ _ _ _ _ c.self.invariant (subst (λ h. h.current < c.args.no) (sym c.self.view_is) c.requires) c.as_slice.ensures.value c.retain_needed.ensures.items c.push_reserved.ensures.items c.retain_needed.ensures.room c.push_reserved.ensures.capacity

pub push_reserved-requires : goal.push_reserved-requires
push_reserved-requires g c = let o = c.retain_needed.new.bases.ok in let r = room_for _ c.args.no _ _ _ _ _ _ _ c.self.invariant (subst (λ h. h.current < c.args.no) (sym c.self.view_is) c.requires) c.as_slice.ensures.value c.retain_needed.ensures.items c.retain_needed.ensures.room in omega (arith, r, o)
