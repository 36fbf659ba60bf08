use Rattle.std.proofs.Common.{◌∙◌, ap, sym, subst, [], get_or}
use Rattle.pg_keyed.specs.Lists.{Each}
use Rattle.pg_keyed.specs.Keyed.{Ascends}
use Rattle.pg_value.specs.Order.{key_cmp}
use Rattle.pg_value.specs.TablesLaws.{key_named, writes_to}
use Rattle.pg_run.proofs.CutLaws.{list_is, lists_ascend}
use Rattle.pg_run.proofs.run.Run.lists.Goals as goal

pub returns-clause-value : goal.returns-clause-value
returns-clause-value c = λ table. ap (λ xs. get_or xs table.0 []) c.as_slice.ensures.value ∙ list_is table c.self.inside.tables.items c.self.invariant.0 ∙ ap (λ r. writes_to table r.writes) c.self.view_is

pub returns-clause-in_order : goal.returns-clause-in_order
returns-clause-in_order c = subst (Each (λ ws. Ascends key_named key_cmp ws)) (sym c.as_slice.ensures.value) (lists_ascend 0 c.self.inside.tables.items c.self.invariant.0)
