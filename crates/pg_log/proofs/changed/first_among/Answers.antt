use Rattle.std.proofs.Common.{arith, ◌≡◌, ◌<◌, ◌+◌, ◌∙◌, length, drop, cond, Bool, sym, ap, true, false}
use Rattle.std.specs.Prelude.{Some, is_some}
use Rattle.pg_log.specs.Logged.{first_named}
use Rattle.pg_log.proofs.Finds.{among_step}
use Rattle.pg_log.proofs.changed.first_among.Goals as goal

pub returns-then-is_some : goal.returns-then-is_some
returns-then-is_some c =
    let t = c.loop-at-test.true in
    let n = c.len-at-end.ensures.length in
    let w : c.loop-at.at < length c.args.writes.now.list = omega (arith, t, n) in
    let s = among_step c.loop-at.at c.args.commit.now.list c.args.writes.now.list c.at.result.now c.place_in.result w c.at.ensures c.place_in.ensures in
    let y : is_some c.place_in.result ≡ true = sym c.is_some.ensures ∙ c.if-is_some.true in
    sym (sym c.loop-at.invariant ∙ s ∙ ap (λ (b : Bool). cond b (Some c.loop-at.at) (first_named (c.loop-at.at + 1) c.args.commit.now.list (drop (c.loop-at.at + 1) c.args.writes.now.list))) y)

pub loop-at-preserved : goal.loop-at-preserved
loop-at-preserved c =
    let t = c.loop-at-test.true in
    let n = c.len-at-end.ensures.length in
    let w : c.loop-at.at < length c.args.writes.now.list = omega (arith, t, n) in
    let s = among_step c.loop-at.at c.args.commit.now.list c.args.writes.now.list c.at.result.now c.place_in.result w c.at.ensures c.place_in.ensures in
    let y : is_some c.place_in.result ≡ false = sym c.is_some.ensures ∙ c.if-is_some.false in
    sym (s ∙ ap (λ (b : Bool). cond b (Some c.loop-at.at) (first_named (c.loop-at.at + 1) c.args.commit.now.list (drop (c.loop-at.at + 1) c.args.writes.now.list))) y) ∙ c.loop-at.invariant
