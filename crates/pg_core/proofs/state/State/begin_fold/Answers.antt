use Rattle.std.proofs.Common.{sym, ap, ◌∙◌, Some, length}
use Rattle.std.specs.Prelude.{slice_set, is_some}
use Rattle.pg_core.specs.Core.{Core}
use Rattle.pg_core.proofs.Seen.{moved, begins, none_of}
use Rattle.pg_core.proofs.state.State.begin_fold.Goals as goal

pub returns-clause-ok : goal.returns-clause-ok
returns-clause-ok g c = begins g.B.Base.base g.R.Run.run c.self.inside.versions c.self.inside.counts.items c.self.inside.ended.items c.self.inside.stopped c.self.inside.peak c.args.self.now c.see_peak.new.self c.args.seat c.len.result c.base.result c.in_ok-parts.parts
    c.self.view_is c.if-self.false (c.len.ensures ∙ ap length c.log.ensures.list) c.base.ensures c.if-build.false
    (none_of _ (ap is_some (sym c.building.ensures) ∙ (sym c.is_some.ensures ∙ c.if-is_some.false))) c.in_ok-parts.ensures
    (moved c.self.inside.versions c.begin.new.self c.self.inside.counts.items c.self.inside.ended.items c.self.inside.stopped c.self.inside.peak c.args.self.now c.see_peak.new.self
    (λ (k : Core). record k { pins = slice_set k.pins c.args.seat (Some k.base); build = Some (record { seat = c.args.seat; base = k.base; at = length k.log }) }) c.self.view_is c.begin.ensures.moves c.see_peak.ensures)
