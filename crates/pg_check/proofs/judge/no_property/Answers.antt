use Rattle.std.proofs.Common.{◌∙◌, ap, false}
use Rattle.std.specs.List.{flat_map}
use Rattle.pg_rules.specs.Places.{least}
use Rattle.pg_rules.specs.Catalog.GraphLookUps.{graph_numbered}
use Rattle.pg_check.specs.Gathered.{seen_in}
use Rattle.pg_check.specs.UsePlaces.{missing}
use Rattle.pg_check.proofs.Judging.{over_both}
use Rattle.pg_check.proofs.UseLaws.{no_property_same}
use Rattle.pg_check.proofs.judge.no_property.Goals as goal

pub returns : goal.returns
returns c = λ q are.
    let names = c.in_ok-names.names in
    over_both (λ x. flat_map (missing names) (seen_in false x)) q c.args.inner.now c.args.outer.now c.in_ok-first.first c.in_ok-second.second c.sooner.result are c.in_ok-first.ensures c.in_ok-second.ensures c.sooner.ensures
    ∙ ap least (no_property_same (graph_numbered c.args.catalog.now.1 c.args.graph) names q c.in_ok-names.ensures)
