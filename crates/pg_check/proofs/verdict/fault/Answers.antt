use Rattle.std.proofs.Common.{◌≡◌, subst, Option, IfOk}
use Rattle.pg_rules.specs.declared.fault.QueryFault.{QueryFault}
use Rattle.pg_check.proofs.Judging.{past_graph}
use Rattle.pg_check.proofs.verdict.fault.Goals as goal

pub returns-in-Some : goal.returns-in-Some
returns-in-Some c = subst (λ (o : Option QueryFault). IfOk c.labels_fault.result (λ r. r ≡ o)) (past_graph c.args.catalog.now c.args.query.now c.in-Some.graph c.in-Some.ensures) c.labels_fault.ensures
