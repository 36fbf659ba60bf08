use Rattle.std.proofs.Common.{◌∙◌}
use Rattle.pg_core.proofs.Good.{parts_stand}
use Rattle.pg_core.proofs.versions.Versions.parts.Goals as goal

pub returns : goal.returns
returns g c = parts_stand g.B.Base.base g.R.Run.run _ _ c.current.result.1.now _ _ _ _ c.self.view_is c.self.invariant.2 c.current.ensures.base c.in_ok-share.ensures c.in_ok-share-2.ensures (c.in_ok-shared.ensures ∙ c.as_slice.ensures) c.len.ensures
