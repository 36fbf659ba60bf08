use Rattle.std.proofs.Common.{subst, sym, ◌≡◌, Some}
use Rattle.pg_core.specs.Core.{Build}
use Rattle.pg_core.proofs.Good.{good_release, other_seat}
use Rattle.pg_core.proofs.versions.Versions.release.Goals as goal

pub invariant_of-self : goal.invariant_of-self
invariant_of-self g c = (
  c.self.invariant.0,
  c.self.invariant.1,
  good_release g.B.Base.base g.R.Run.run _ _ c.args.seat _ c.self.invariant.2
      (other_seat g.B.Base.base g.R.Run.run _ c.args.seat c.self.invariant.2 (subst (λ v. (b : Build) → v.building ≡ Some b → b.seat ≡ c.args.seat → ⊥) (sym c.self.view_is) c.requires)) c.release.ensures,
)
