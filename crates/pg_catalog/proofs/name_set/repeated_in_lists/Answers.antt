use Rattle.std.proofs.Common.{◌+◌, drop, arith}
use Rattle.std.proofs.lemmas.Grind.{common_steps}
use Rattle.std.specs.List.{flat_map}
use Rattle.pg_rules.specs.Definitions.Tables.{repeats}
use Rattle.pg_rules.specs.Places.{least_found}
use Rattle.pg_catalog.proofs.name_set.repeated_in_lists.Goals as goal

pub loop-names-preserved : goal.loop-names-preserved
loop-names-preserved c =
    let e = least_found c.loop-names.found (repeats c.names-item.result) (flat_map repeats (drop (c.loop-names.names-index + 1) c.args.lists.now)) in
    grind (arith, common_steps)
