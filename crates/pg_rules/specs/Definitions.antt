-- Where a definition is refused, and what is defined where it is not.
pub mod Entries
pub mod Graphs
pub mod Tables
use Rattle.std.specs.declared.option.Option.{Option}
use Rattle.pg_ast.specs.declared.define.Define.{Define}
use Rattle.pg_ast.specs.declared.define.Define.TheVariants as definitions
use Rattle.pg_rules.specs.declared.fault.DefineFault.{DefineFault}
use Rattle.pg_rules.specs.Catalog.{Defined}
use Rattle.pg_rules.specs.Definitions.Tables.{table_fault, with_table}
use Rattle.pg_rules.specs.Definitions.Entries.{with_graph}
use Rattle.pg_rules.specs.Definitions.Graphs.{graph_fault}

-- the first kind of fault that has a place, at its first place
abbrev pub define_fault : Defined → Define → Option DefineFault
define_fault d (definitions.Table t) = table_fault d t
define_fault d (definitions.Graph g) = graph_fault d g

abbrev pub with_definition : Defined → Define → Defined
with_definition d (definitions.Table t) = with_table d t
with_definition d (definitions.Graph g) = with_graph d g
