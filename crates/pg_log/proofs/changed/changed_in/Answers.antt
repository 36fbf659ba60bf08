use Rattle.std.proofs.Common.{arith, ◌+◌, sym}
use Rattle.pg_log.proofs.Finds.{changed_none, changed_step}
use Rattle.pg_log.proofs.changed.changed_in.Goals as goal

pub loop-commit-init : goal.loop-commit-init
loop-commit-init c = record { found = sym (changed_none 0 (c.args.from + 1) c.args.writes.now.list); number = omega arith }

pub loop-commit-preserved : goal.loop-commit-preserved
loop-commit-preserved c =
    let i = c.loop-commit.invariant in
    record {
      found = changed_step c.args.from c.loop-commit.commit-index c.loop-commit.no c.args.commits.now c.commit-item.result c.args.writes.now.list c.loop-commit.found c.earlier-found.result c.first_named.result
          c.loop-commit-test.true c.commit-item.is i.found c.first_named.ensures i.number c.earlier-found.ensures;
      number = (let n = i.number in omega (arith, n));
    }
