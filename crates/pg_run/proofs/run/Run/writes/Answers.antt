use Rattle.std.proofs.Common.{◌∙◌, ap, sym, subst, [], get_or}
use Rattle.pg_keyed.specs.Keyed.{Ascends}
use Rattle.pg_value.specs.Order.{key_cmp}
use Rattle.pg_value.specs.TablesLaws.{key_named, writes_to}
use Rattle.pg_run.proofs.CutLaws.{list_is, list_ascends}
use Rattle.pg_run.proofs.run.Run.writes.Goals as goal

pub returns-clause-value : goal.returns-clause-value
returns-clause-value c = c.writes_of.ensures ∙ ap (λ xs. get_or xs c.args.table.0 []) c.as_slice.ensures.value ∙ list_is c.args.table c.self.inside.tables.items c.self.invariant.0 ∙ ap (λ r. writes_to c.args.table r.writes) c.self.view_is

pub returns-clause-in_order : goal.returns-clause-in_order
returns-clause-in_order c = subst (Ascends key_named key_cmp) (sym (c.writes_of.ensures ∙ ap (λ xs. get_or xs c.args.table.0 []) c.as_slice.ensures.value)) (list_ascends c.args.table.0 c.self.inside.tables.items c.self.invariant.0)
