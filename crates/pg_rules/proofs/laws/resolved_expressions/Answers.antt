use Rattle.pg_rules.proofs.ResolveLaws.{resolving_keeps}
use Rattle.pg_rules.proofs.Accepted.Resolved.{query_resolving_keeps}
use Rattle.pg_rules.proofs.laws.resolved_expressions.Goals as goal

pub returns : goal.returns
returns c = record { changes = resolving_keeps; queries = query_resolving_keeps }
