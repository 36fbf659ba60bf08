use Rattle.std.proofs.Common.{ap, None, arith}
use Rattle.std.specs.Prelude.{slice_set}
use Rattle.pg_core.specs.Core.{Core}
use Rattle.pg_core.specs.State.{Standing}
use Rattle.pg_core.proofs.Seen.{moved}
use Rattle.pg_core.proofs.state.State.install.Goals as goal

pub returns : goal.returns
returns g c = (
  (let f = c.if-current-job.false in let e = c.base-current.ensures in let v = ap (λ (s : Standing). s.core.base) c.self.view_is in omega (arith, f, e, v)),
  moved c.self.inside.versions c.install.new.self c.self.inside.counts.items c.self.inside.ended.items c.self.inside.stopped c.self.inside.peak c.args.self.now c.see_peak.new.self
      (λ (k : Core). record k { base = c.args.job.build.at; pins = slice_set k.pins c.args.job.build.seat None; build = None }) c.self.view_is c.install.ensures.moves c.see_peak.ensures,
)
