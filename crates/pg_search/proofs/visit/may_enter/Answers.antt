use Rattle.std.proofs.Common.{true, nat_lt, ap, sym}
use Rattle.std.specs.Prelude.{Some, None}
use Rattle.pg_search.proofs.visit.may_enter.Goals as goal

pub returns-in-Some : goal.returns-in-Some
returns-in-Some c = sym (ap (λ o. elim o [ None ↦ true | Some high ↦ nat_lt c.args.done high ]) c.in-Some.is)
