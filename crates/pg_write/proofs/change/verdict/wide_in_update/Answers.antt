use Rattle.std.proofs.Common.{ap, ◌∙◌}
use Rattle.std.specs.List.{flat_map}
use Rattle.std.specs.Option.{option_to_list}
use Rattle.pg_ast.specs.declared.statement.SetItem.{SetItem}
use Rattle.pg_rules.specs.Places.{least}
use Rattle.pg_rules.specs.Changes.{wide_in, names_of}
use Rattle.pg_write.proofs.Missing.{joined}
use Rattle.pg_write.proofs.change.verdict.wide_in_update.Goals as goal

pub returns : goal.returns
returns c = let u = c.args.update.now in
    joined (flat_map (λ (s : SetItem). wide_in (names_of c.args.columns.now) s.value) u.sets) (flat_map (wide_in (names_of c.args.columns.now)) (option_to_list u.cond)) c.wide_sets-in_sets.result c.wide_condition.result c.sooner.result
    (c.wide_sets-in_sets.ensures ∙ ap (λ ss. least (flat_map (λ (s : SetItem). wide_in (names_of c.args.columns.now) s.value) ss)) c.as_slice.ensures) c.wide_condition.ensures c.sooner.ensures
