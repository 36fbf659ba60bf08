-- The parser of a statement reads its rule.
use Rattle.std.proofs.Common.{false, List, [], ◌∷◌, ◌++◌, refl}
use Rattle.std.specs.Prelude.{codes}
use Rattle.pg_ast.specs.declared.statement.Statement.TheVariants as tree
use Rattle.pg_ast.specs.Words.Terminals.{Terminal}
use Rattle.pg_ast.specs.Grammar.Rule.{◌or◌}
use Rattle.pg_ast.specs.Grammar.Definitions.{create_table, create_graph}
use Rattle.pg_ast.specs.Grammar as grammar
use Rattle.pg_ast.specs.Words as keyword
use Rattle.pg_grammar.specs.Kit.Parses.{Parses, parses-give, parses-then, parses-or, parses-sized}
use Rattle.pg_grammar.specs.Kit.OneToken.{parses-word, parses-symbol}
use Rattle.pg_pattern.specs.Laws.{alias_first, parses-query}
use Rattle.pg_sql.specs.Read as parser
use Rattle.pg_sql.proofs.PartLaws.{parses-skip, parses-unfactored}
use Rattle.pg_sql.proofs.TableLaws.{parses-table}
use Rattle.pg_sql.proofs.GraphLaws.{parses-graph}
use Rattle.pg_sql.proofs.ChangeLaws.{parses-insert, parses-update, parses-delete, change_on}

parses-define : Parses (create_table or create_graph) parser.define (keyword.create ∷ []) (keyword.edge ∷ []) false
unfolding parser.define
parses-define = parses-unfactored (parses-then (parses-word (codes "CREATE")) (λ t. parses-or (parses-table t) (parses-graph t) refl) refl)

-- what the begin or the end of a transaction begins and goes on with
abbrev transaction_first : List Terminal
transaction_first = keyword.begin ∷ keyword.start ∷ keyword.commit ∷ keyword.rollback ∷ []

abbrev transaction_on : List Terminal
transaction_on = keyword.transaction ∷ keyword.work ∷ []

parses-transaction : Parses (grammar.begin or grammar.start or grammar.commit or grammar.rollback) parser.transaction transaction_first transaction_on false
unfolding parser.transaction parser.begin parser.start parser.commit parser.rollback
parses-transaction =
    parses-sized transaction_first transaction_on
    (parses-or (parses-then (parses-word _) (λ _. parses-then (parses-skip _) (λ _. parses-give tree.Begin) refl) refl)
    (parses-or (parses-then (parses-word _) (λ _. parses-then (parses-word _) (λ _. parses-give tree.Begin) refl) refl)
    (parses-or (parses-then (parses-word _) (λ _. parses-then (parses-skip _) (λ _. parses-give tree.Commit) refl) refl)
    (parses-then (parses-word _) (λ _. parses-then (parses-skip _) (λ _. parses-give tree.Rollback) refl) refl) refl) refl) refl) refl refl

abbrev body_first : List Terminal
body_first = keyword.create ∷ keyword.insert ∷ keyword.update ∷ keyword.delete ∷ keyword.select ∷ transaction_first

abbrev body_on : List Terminal
body_on = keyword.edge ∷ change_on ++ (alias_first ++ transaction_on)

parses-body : Parses grammar.body parser.body body_first body_on false
unfolding parser.body
parses-body =
    parses-sized body_first body_on
    (parses-or (parses-then parses-define (λ d. parses-give (tree.Define d)) refl)
    (parses-or (parses-then parses-insert (λ i. parses-give (tree.Insert i)) refl)
    (parses-or (parses-then parses-update (λ u. parses-give (tree.Update u)) refl)
    (parses-or (parses-then parses-delete (λ d. parses-give (tree.Delete d)) refl)
    (parses-or (parses-then parses-query (λ q. parses-give (tree.Query q)) refl) parses-transaction refl) refl) refl) refl) refl) refl refl

pub parses-statement : Parses grammar.statement parser.statement body_first [] false
unfolding parser.statement
parses-statement = parses-then parses-body (λ s. parses-then (parses-symbol _) (λ _. parses-give s) refl) refl
