use Rattle.std.proofs.Common.{◌∙◌, ap}
use Rattle.pg_rules.specs.Places.{least}
use Rattle.pg_rules.specs.Catalog.GraphLookUps.{graph_numbered}
use Rattle.pg_check.proofs.Judging.{labels_same}
use Rattle.pg_check.proofs.judge.no_label.Goals as goal

pub returns : goal.returns
returns c = c.no_label.ensures ∙ ap least (labels_same (graph_numbered c.args.catalog.now.1 c.args.graph) c.in_ok-names.names c.args.query.now c.in_ok-names.ensures)
