use Rattle.std.proofs.Common.{rules, ◌≡◌, None}
use Rattle.pg_rules.specs.Catalog.{of_entries}
use Rattle.pg_rules.specs.Definitions.Tables.{table_fault}
use Rattle.pg_catalog.proofs.Growth.{table_added}
use Rattle.pg_catalog.proofs.catalog.Catalog.define_table.Goals as goal
use Rattle.pg_catalog.proofs.catalog.Catalog.define_table.Goals.{in-Ok-add, in-Err}

pub invariant_of-self : goal.invariant_of-self
invariant_of-self c =
    let old = of_entries c.self.inside.tables.entries c.self.inside.graphs.entries in
    let none : table_fault old c.args.table.now ≡ None = search rules in
    elim c.match-add.branch [
      | in-Ok-add w ↦ table_added old c.args.table.now c.add.new.tables.entries c.in-Ok-copy.name c.in-Ok-entry_of.entry c.sound_definitions.ensures.kept w.in-Ok-add.ensures.ok c.in-Ok-copy.ensures c.in-Ok-entry_of.ensures c.self.invariant none
      | in-Err w ↦ search rules
    ]
