use Rattle.std.proofs.Common.{◌≡◌, subst, IfOk}
use Rattle.pg_meaning.specs.declared.checked.CheckedQuery.{CheckedQuery}
use Rattle.pg_check.proofs.BuiltLaws.{built_is}
use Rattle.pg_check.proofs.query.checked_query.Goals as goal

pub returns : goal.returns
returns c = let d = c.args.catalog.now in
    let q = c.args.query.now in
    subst (λ (y : CheckedQuery). IfOk c.built.result (λ r. r ≡ y)) (built_is d q c.in-Some.graph c.in_ok-variables.variables (c.accepted_queries.ensures d q c.requires) c.in-Some.ensures c.in_ok-variables.ensures.variables) c.built.ensures
