use Rattle.std.proofs.Common.{◌∙◌, ap, sym, ℕ, arith}
use Rattle.pg_value.specs.declared.shape.TableSet.{TableSet}
use Rattle.pg_ast.specs.Trees.{label_tree, Every}
use Rattle.pg_rules.specs.Catalog.GraphLookUps.{tables_of}
use Rattle.pg_rules.specs.Queries.CheckedQueries.{set_of, label_of}
use Rattle.pg_check.proofs.SetLaws.{set_is}
use Rattle.pg_check.proofs.resolve.admitted.Goals as goal

set_at : ℕ → TableSet
set_at n = record { 0 = n }

pub returns-in-Some-clause-value : goal.returns-in-Some-clause-value
unfolding set_at
returns-in-Some-clause-value c =
    ap set_at (set_is c.tables_of.result.0 (tables_of c.args.catalog.now c.args.graph c.args.edges (label_tree c.in-Some.label)) c.tables_of.ensures (omega (arith, c.tables_of.type_inv)))
    ∙ sym (ap (λ l. set_of (tables_of c.args.catalog.now c.args.graph c.args.edges (label_of l))) c.in-Some.is)

pub returns-in-None-clause-value : goal.returns-in-None-clause-value
unfolding set_at
returns-in-None-clause-value c =
    ap set_at (set_is c.tables_of-in-None.result.0 (tables_of c.args.catalog.now c.args.graph c.args.edges Every) c.tables_of-in-None.ensures (omega (arith, c.tables_of-in-None.type_inv)))
    ∙ sym (ap (λ l. set_of (tables_of c.args.catalog.now c.args.graph c.args.edges (label_of l))) c.in-None.is)
