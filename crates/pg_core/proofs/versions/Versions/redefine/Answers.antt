use Rattle.std.proofs.Common.{subst, sym}
use Rattle.pg_core.specs.Versions.{Extends}
use Rattle.pg_core.proofs.Good.{fold_ready, fold_extends, redefined_good}
use Rattle.pg_core.proofs.versions.Versions.redefine.Goals as goal

pub fold-requires-clause-fold : goal.fold-requires-clause-fold
fold-requires-clause-fold g c = fold_ready g.B.Base.base g.R.Run.run _ c.len-at.result _ _ _ c.self.invariant.2 c.len-at.ensures c.current.ensures.base c.get.ensures c.as_slice.ensures

pub fold-requires-clause-extends : goal.fold-requires-clause-extends
fold-requires-clause-extends g c = fold_extends g.B.Base.base g.R.Run.run _ c.args.shapes _ _ c.self.invariant.2 c.current.ensures.base c.get.ensures
    (subst (λ v. Extends v.shapes c.args.shapes) (sym c.self.view_is) c.requires.extends)

pub invariant_of-self : goal.invariant_of-self
invariant_of-self g c = (
  c.self.invariant.0,
  c.self.invariant.1,
  redefined_good g.B.Base.base g.R.Run.run _ _ c.args.shapes _ _ _ _ _ _ _ _ c.len-at.result c.args.seats c.self.view_is c.self.invariant.2 c.requires.extends c.len-at.ensures c.current.ensures.base c.get.ensures c.as_slice.ensures
      c.in_ok-base.ensures c.in_ok-folded.ensures c.new-3.ensures c.in_ok-self-inside.ensures c.requires.closed,
)
