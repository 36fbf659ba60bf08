use Rattle.std.proofs.Common.{◌∙◌, List, ap}
use Rattle.std.specs.List.{flat_map}
use Rattle.pg_rules.specs.Catalog.GraphLookUps.{property_in}
use Rattle.pg_rules.specs.declared.entry.LabelEntry.{LabelEntry}
use Rattle.pg_rules.specs.Definitions.Graphs.{first_column, rows_of}
use Rattle.pg_catalog.proofs.graph.look_up.property_in.Goals as goal

pub returns-in-Some : goal.returns-in-Some
returns-in-Some c =
    c.in_labels.ensures ∙ ap (λ (ls : List LabelEntry). first_column (flat_map rows_of ls) c.args.name.now) c.as_slice.ensures ∙ ap (λ o. property_in o c.args.name.now) c.in-Some.ensures

pub returns-in-None : goal.returns-in-None
returns-in-None c = ap (λ o. property_in o c.args.name.now) c.in-None.ensures
