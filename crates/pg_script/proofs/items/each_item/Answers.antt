use Rattle.std.proofs.Common.{sym, subst, map}
use Rattle.pg_script.specs.Passes.{parts_of, statement_at}
use Rattle.pg_script.specs.Passes.Drafts.{FaultOf, HasBadAfter}
use Rattle.pg_script.proofs.Passes.Items.{bad_first, good_more}
use Rattle.pg_script.proofs.items.each_item.Goals as goal

pub returns-in-None-clause-err : goal.returns-in-None-clause-err
returns-in-None-clause-err c =
    subst (FaultOf (HasBadAfter c.args.bytes.now (parts_of c.args.bytes.now c.args.before.now) c.args.in_session (map (statement_at c.args.bytes.now) c.args.spans.now))) (sym c.bad.ensures)
    (bad_first c.args.bytes.now (parts_of c.args.bytes.now c.args.before.now) c.args.in_session c.args.spans.now c.statements.span-index _ c.statements.out c.statements-test.true c.statements.invariant c.in-None.ensures c.requires.rise)

pub statements-preserved : goal.statements-preserved
statements-preserved c =
    good_more c.args.bytes.now (parts_of c.args.bytes.now c.args.before.now) c.args.in_session c.args.spans.now c.statements.span-index _ c.statements.out c.push.new.self c.in-Some.item c.statements-test.true c.statements.invariant c.in-Some.ensures c.in-Ok.ensures.ok
