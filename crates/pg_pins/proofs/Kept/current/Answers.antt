use Rattle.std.proofs.Common.{arith, ◌≡◌, subst, length}
use Rattle.std.specs.Prelude.{Some}
use Rattle.pg_pins.specs.Held.{base_at}
use Rattle.pg_pins.proofs.Rooms.{current_item}
use Rattle.pg_pins.proofs.Kept.current.Goals as goal

pub returns-clause-base : goal.returns-clause-base
returns-clause-base g c =
    let o = c.self.inside.bases.ok in
    let l = c.len-last.ensures in
    let n : c.len-last.result ≡ length c.self.inside.bases.items = omega (arith, o, l) in
    subst (λ h. base_at h.current h.bases ≡ Some c.index.result.now.1) c.self.view_is
    (current_item _ _ _ _ _ _ c.index.result.now c.self.invariant n c.index.ensures)
