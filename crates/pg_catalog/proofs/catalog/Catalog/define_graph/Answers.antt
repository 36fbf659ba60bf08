use Rattle.std.proofs.Common.{rules, ◌≡◌, None}
use Rattle.pg_rules.specs.Catalog.{of_entries}
use Rattle.pg_rules.specs.Definitions.Graphs.{graph_fault}
use Rattle.pg_catalog.proofs.Growth.{graph_added}
use Rattle.pg_catalog.proofs.catalog.Catalog.define_graph.Goals as goal
use Rattle.pg_catalog.proofs.catalog.Catalog.define_graph.Goals.{in-Ok-add_graph, in-Err}

pub invariant_of-self : goal.invariant_of-self
invariant_of-self c =
    let old = of_entries c.self.inside.tables.entries c.self.inside.graphs.entries in
    let none : graph_fault old c.args.graph.now ≡ None = search rules in
    elim c.match-add_graph.branch [
      | in-Ok-add_graph w ↦ graph_added old c.args.graph.now c.add_graph.new.graphs.entries c.in-Ok-copy.name c.in-Ok-graph_of.entry c.sound_definitions.ensures.kept w.in-Ok-add_graph.ensures.ok c.in-Ok-copy.ensures c.in-Ok-graph_of.ensures c.self.invariant none
      | in-Err w ↦ search rules
    ]
