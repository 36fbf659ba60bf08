use Rattle.std.proofs.Common.{◌∙◌, List, ap, map}
use Rattle.std.specs.List.{find}
use Rattle.std.specs.Option.{option_copied}
use Rattle.pg_catalog.proofs.EdgeNumbers.{in_first, in_second}
use Rattle.pg_rules.specs.Catalog.GraphLookUps.{is_table}
use Rattle.pg_rules.specs.declared.entry.EdgeEntry.{EdgeEntry}
use Rattle.pg_catalog.proofs.graph.look_up.element_in.Goals as goal

pub returns-in-Some : goal.returns-in-Some
returns-in-Some c =
    let test = is_table c.args.table in
    in_first test c.args.graph.now.vertices (map (λ (e : EdgeEntry). e.element) c.args.graph.now.edges) c.in-Some.vertex.now (c.in-Some.ensures ∙ ap (find test) c.as_slice.ensures)

pub returns-in-None : goal.returns-in-None
returns-in-None c =
    let test = is_table c.args.table in
    in_second test c.args.graph.now.vertices (map (λ (e : EdgeEntry). e.element) c.args.graph.now.edges) (option_copied c.edge_in.result) (c.in-None.ensures ∙ ap (find test) c.as_slice.ensures)
    (c.edge_in.ensures ∙ ap (λ (es : List EdgeEntry). find test (map (λ e. e.element) es)) c.as_slice-in-None.ensures)
