use Rattle.std.proofs.Common.{◌∙◌, ap, sym, Some}
use Rattle.std.specs.Option.{option_map}
use Rattle.pg_keyed.specs.Keyed.{get}
use Rattle.pg_value.specs.Order.{key_cmp}
use Rattle.pg_value.specs.TablesLaws.{key_named, write_at_in}
use Rattle.pg_run.proofs.run.Run.find.Goals as goal

pub returns-in-Some-row-clause-value : goal.returns-in-Some-row-clause-value
returns-in-Some-row-clause-value g c =
    sym (ap Some c.in-Some-row.is) ∙ ap (option_map (λ w. w.row)) (c.in-Some.ensures.value ∙ ap (get key_named key_cmp c.args.key.now.values) c.writes.ensures.value ∙ write_at_in c.args.table c.args.key.now.values c.args.self.now.writes)

pub returns-in-None-row-clause-value : goal.returns-in-None-row-clause-value
returns-in-None-row-clause-value g c =
    sym (ap Some c.in-None-row.is) ∙ ap (option_map (λ w. w.row)) (c.in-Some.ensures.value ∙ ap (get key_named key_cmp c.args.key.now.values) c.writes.ensures.value ∙ write_at_in c.args.table c.args.key.now.values c.args.self.now.writes)

pub returns-in-None-clause-value : goal.returns-in-None-clause-value
returns-in-None-clause-value g c = ap (option_map (λ w. w.row)) (c.in-None.ensures.value ∙ ap (get key_named key_cmp c.args.key.now.values) c.writes.ensures.value ∙ write_at_in c.args.table c.args.key.now.values c.args.self.now.writes)
