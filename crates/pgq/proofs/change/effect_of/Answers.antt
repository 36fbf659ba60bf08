use Rattle.std.proofs.Common.{ap, sym, subst, ◌∙◌}
use Rattle.pg_value.specs.Tables.{FitTables}
use Rattle.pg_value.specs.TablesLaws.{after_fits}
use Rattle.pg_view.specs.Lists.{Hold, joined}
use Rattle.pgq.proofs.Statements.Changes.{made_ok, refuses_ok}
use Rattle.pgq.proofs.Statements.Queries.{lists_view, lists_joined}
use Rattle.pgq.proofs.change.effect_of.Goals as goal

pub new-tables-requires : goal.new-tables-requires
new-tables-requires c = subst (λ ls. Hold ls (joined ls)) (sym c.as_slice-lists.ensures.value) (lists_view c.args.engine.now c.requires.ready c.lists_are_tables.ensures).hold

pub effect-requires-clause-fit : goal.effect-requires-clause-fit
effect-requires-clause-fit c = subst (FitTables c.args.engine.now.shapes)
    (sym (c.new-tables.ensures ∙ ap joined c.as_slice-lists.ensures.value ∙ lists_joined c.args.engine.now c.requires.ready c.lists_are_tables.ensures))
    (after_fits c.args.engine.now.shapes c.args.engine.now.log _ c.requires.ready.fit)

pub returns-clause-made : goal.returns-clause-made
returns-clause-made c = made_ok c.args.engine.now c.args.change.now _ c.new-writes.result c.effect.result
    (c.new-tables.ensures ∙ ap joined c.as_slice-lists.ensures.value ∙ lists_joined c.args.engine.now c.requires.ready c.lists_are_tables.ensures)
    (λ i. record { list = c.new-writes.ensures.list i; limit = c.new-writes.ensures.limit i }) c.effect.ensures.done

pub returns-clause-refused : goal.returns-clause-refused
returns-clause-refused c = refuses_ok c.args.engine.now c.args.change.now _ c.new-writes.result c.effect.result
    (c.new-tables.ensures ∙ ap joined c.as_slice-lists.ensures.value ∙ lists_joined c.args.engine.now c.requires.ready c.lists_are_tables.ensures)
    (λ i. record { list = c.new-writes.ensures.list i; limit = c.new-writes.ensures.limit i }) c.effect.ensures.refused
