use Rattle.std.proofs.Common.{ap, ◌∙◌}
use Rattle.std.specs.List.{flat_map}
use Rattle.pg_rules.specs.Places.{least}
use Rattle.pg_rules.specs.Changes.{wrong_set, wrong_condition, names_of}
use Rattle.pg_write.proofs.Missing.{joined}
use Rattle.pg_write.proofs.change.verdict.wrong_in_update.Goals as goal

pub returns : goal.returns
returns c = let u = c.args.update.now in
    joined (flat_map (wrong_set c.args.columns.now) u.sets) (wrong_condition (names_of c.args.columns.now) u.cond) c.wrong_sets-in_sets.result c.wrong_condition.result c.sooner.result
    (c.wrong_sets-in_sets.ensures ∙ ap (λ ss. least (flat_map (wrong_set c.args.columns.now) ss)) c.as_slice.ensures) c.wrong_condition.ensures c.sooner.ensures
