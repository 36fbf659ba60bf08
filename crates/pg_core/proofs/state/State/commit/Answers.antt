use Rattle.std.proofs.Common.{sym, ap, ◌∙◌, arith, length, ◌++◌, ◌∷◌, []}
use Rattle.pg_core.specs.Core.{Core}
use Rattle.pg_value.specs.Log.{held}
use Rattle.pg_core.specs.Core.{IsTaken, base_after}
use Rattle.pg_core.specs.State.{Standing}
use Rattle.pg_core.proofs.Seen.{moved, got, conflict_refuses, commit_answers}
use Rattle.pg_core.proofs.state.State.commit.Goals as goal

pub returns-in-Some : goal.returns-in-Some
returns-in-Some g c =
    let f = c.in-Some.ensures in
    conflict_refuses c.args.self.now _ f.0 c.at.result.now c.in-Some.at c.conflict_at.result c.conflict_at.ensures
    f.2
    (got c.args.writes.list c.in-Some.place c.at.result.now f.0 f.1 ∙ sym c.at.ensures)

pub returns : goal.returns
returns g c =
    let e = c.log.ensures.list ∙ ap (λ (s : Standing). s.core.log) c.self.view_is in
    let taken : IsTaken c.args.self.now.limit c.args.self.now.core.log (record { session = c.args.seat; from = c.args.from; writes = c.args.writes }) = record {
      before = c.requires.before;
      some = c.requires.some;
      free = c.in_default.ensures;
      room = (let v = c.held-held.ensures.value ∙ ap held e in let w = c.held-held.ensures.within in let l = c.log.ensures.limit in let q = c.limit.ensures in let m = ap (λ (s : Standing). s.limit) c.self.view_is in let n = c.len.ensures.length in let f = c.if-limit-held.false in omega (arith, v, w, l, q, m, n, f));
    } in
    commit_answers c.args.self.now c.see_peak.new.self _ c.len-2.result taken
    (moved c.self.inside.versions c.commit.new.self c.self.inside.counts.items c.self.inside.ended.items c.self.inside.stopped c.self.inside.peak c.args.self.now c.see_peak.new.self
    (λ (k : Core). record k { log = k.log ++ record { session = c.args.seat; from = c.args.from; writes = c.args.writes } ∷ []; base = base_after k.base (length k.log) }) c.self.view_is c.in_ok-commit.ensures.ok c.see_peak.ensures)
    (c.len-2.ensures ∙ ap length (c.log-2.ensures.list ∙ ap (λ (s : Standing). s.core.log) c.self-2.view_is))
