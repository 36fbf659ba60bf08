use Rattle.std.proofs.Common.{arith}
use Rattle.pg_core.proofs.Good.{follow_runs, follow_readied, fold_ready, fold_same, fold_grows, shapes_sound}
use Rattle.pg_core.proofs.versions.Versions.grown.Goals as goal

pub carried-requires : goal.carried-requires
carried-requires g c = follow_runs g.B.Base.base g.R.Run.run _ _ c.args.run _ _ c.self.view_is c.self.invariant.2 c.requires c.in_ok-share.ensures c.as_slice.ensures

pub readied_with-requires : goal.readied_with-requires
readied_with-requires g c = follow_readied g.B.Base.base g.R.Run.run _ _ c.args.run c.self.view_is c.self.invariant.2 c.requires

pub fold-requires-clause-fold : goal.fold-requires-clause-fold
fold-requires-clause-fold g c = fold_ready g.B.Base.base g.R.Run.run _ c.len-at.result _ _ _ c.self.invariant.2 c.len-at.ensures c.current-no.ensures.base c.get-current.ensures c.as_slice-2.ensures

pub fold-requires-clause-extends : goal.fold-requires-clause-extends
fold-requires-clause-extends g c = fold_same g.B.Base.base g.R.Run.run _ _ _ c.self.invariant.2 c.current-no.ensures.base c.get-current.ensures

pub fold-requires-clause-sound : goal.fold-requires-clause-sound
fold-requires-clause-sound g c = shapes_sound g.B.Base.base g.R.Run.run g.B.Base.sound _ _ _ c.self.invariant.2 c.current-no.ensures.base c.get-current.ensures c.well_made.ensures

pub returns : goal.returns
returns g c =
    let f = c.if-at-no-lt256.false in
    let n = c.current-no.ensures.number in
    fold_grows g.B.Base.base g.R.Run.run _ _ c.args.run c.len-at.result _ _ _ _ _ _ c.self.view_is c.self.invariant.2 c.len-at.ensures (omega (arith, f, n)) c.current-no.ensures.base c.get-current.ensures c.as_slice-2.ensures c.in_ok-new.ensures c.in_ok-folded.ensures c.in_ok-alone.ensures
