use Rattle.std.proofs.Common.{None}
use Rattle.std.specs.Prelude.{slice_set}
use Rattle.pg_core.specs.Core.{Core}
use Rattle.pg_core.proofs.Seen.{moved}
use Rattle.pg_core.proofs.state.State.release.Goals as goal

pub returns-clause-core : goal.returns-clause-core
returns-clause-core g c = moved c.self.inside.versions c.release-released.new.self c.self.inside.counts.items c.self.inside.ended.items c.self.inside.stopped c.self.inside.peak c.args.self.now c.see_peak.new.self
    (λ (k : Core). record k { pins = slice_set k.pins c.args.seat None }) c.self.view_is c.release-released.ensures.moves c.see_peak.ensures
