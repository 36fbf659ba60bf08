use Rattle.std.proofs.Common.{◌+◌, drop, rules, map, ℕ, List, Bor}
use Rattle.std.proofs.lemmas.Grind.{common_steps}
use Rattle.std.specs.List.{flat_map}
use Rattle.pg_rules.specs.Definitions.Tables.{unknown}
use Rattle.pg_rules.specs.Places.{least_found}
use Rattle.pg_catalog.proofs.table.faults.unknown_in.Goals as goal

pub loop-key-preserved : goal.loop-key-preserved
loop-key-preserved c =
    let known = c.args.known.now in
    let e = least_found c.loop-key.found (unknown known c.key-item.result) (flat_map (unknown known) (drop (c.loop-key.key-index + 1) c.args.keys.now)) in
    search (rules, common_steps)
