use Rattle.std.proofs.Common.{Some}
use Rattle.std.specs.Prelude.{slice_set}
use Rattle.pg_core.specs.Core.{Core}
use Rattle.pg_core.proofs.Seen.{moved}
use Rattle.pg_core.proofs.state.State.pin.Goals as goal

pub returns-clause-ok : goal.returns-clause-ok
returns-clause-ok g c = moved c.self.inside.versions c.pin.new.self c.self.inside.counts.items c.self.inside.ended.items c.self.inside.stopped c.self.inside.peak c.args.self.now c.see_peak.new.self
    (λ (k : Core). record k { pins = slice_set k.pins c.args.seat (Some k.base) }) c.self.view_is c.pin.ensures.moves c.see_peak.ensures
