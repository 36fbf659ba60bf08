use Rattle.std.proofs.Common.{◌++◌}
use Rattle.pg_rules.specs.Queries as rules
use Rattle.pg_check.proofs.Loops.{joined}
use Rattle.pg_check.proofs.judge.group_use.Goals as goal

pub returns : goal.returns
returns c = λ q are known.
    joined (rules.bare q) (rules.misused q ++ rules.inside q) c.in_ok-bare.bare c.sooner-aggregates.result c.sooner.result (c.in_ok-bare.ensures q are.outer_are known)
    (joined (rules.misused q) (rules.inside q) c.in_ok-misused.misused c.inside-nested.result c.sooner-aggregates.result (c.in_ok-misused.ensures q are.outer_are known) (c.inside-nested.ensures q are.inner_are) c.sooner-aggregates.ensures)
    c.sooner.ensures
