-- The statement, or the first fault.
use Rattle.std.proofs.Common.{ap, sym, ◌∙◌, subst}
use Rattle.pg_sql.specs.Read as spec
use Rattle.pg_ast.specs.Grammar.{FirstFault}
use Rattle.pg_sql.proofs.StatementLaws.{found, fault, reads-only, same-tree, never-both, failed-so}
use Rattle.pg_sql.proofs.statement.parse_statement.Goals as goal

pub returns-in-Ok-clause-tree : goal.returns-in-Ok-clause-tree
returns-in-Ok-clause-tree c = found c.args.tokens.now _ c.in-Ok.statement c.requires (ap spec.whole_statement (sym (c.new-cursor.ensures ∙ c.as_slice.ensures)) ∙ c.in-Ok.ensures)

pub returns-in-Ok-clause-only : goal.returns-in-Ok-clause-only
returns-in-Ok-clause-only c t s = same-tree c.in-Ok.statement t _ (sym (ap spec.whole_statement (sym (c.new-cursor.ensures ∙ c.as_slice.ensures)) ∙ c.in-Ok.ensures) ∙ reads-only t c.args.tokens.now s)

pub returns-in-Err-Syntax-clause-only : goal.returns-in-Err-Syntax-clause-only
returns-in-Err-Syntax-clause-only c t s = absurd (never-both t _ _ (sym (ap spec.whole_statement (sym (c.new-cursor.ensures ∙ c.as_slice.ensures)) ∙ failed-so _ _ _ c.in-Err-Syntax.field-0-is c.in-Err-Syntax.ensures) ∙ reads-only t c.args.tokens.now s))

pub returns-in-Err-Syntax-clause-fault : goal.returns-in-Err-Syntax-clause-fault
returns-in-Err-Syntax-clause-fault c =
    subst (λ n. FirstFault c.args.tokens.now n) (sym c.place.ensures)
    (fault c.args.tokens.now c.whole_statement.new.cursor c.requires (ap spec.whole_statement (sym (c.new-cursor.ensures ∙ c.as_slice.ensures)) ∙ failed-so _ _ _ c.in-Err-Syntax.field-0-is c.in-Err-Syntax.ensures))
