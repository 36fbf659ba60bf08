-- What is accepted is sound: the checked tree of a query or a change that is not refused is one that evaluation, compilation and search may
-- rely on; and an accepted table has a column and a key.
use Rattle.std.specs.Prelude.{◌≡◌, ◌≤◌, length, None}
use Rattle.pg_ast.specs.declared.define.TableDef.{TableDef}
use Rattle.pg_ast.specs.declared.define.Define.TheVariants as definitions
use Rattle.pg_ast.specs.declared.pattern.Query.{Query}
use Rattle.pg_meaning.specs.Sound.Changes.{IsSoundChange}
use Rattle.pg_meaning.specs.Sound.Queries.{IsSoundQuery}
use Rattle.pg_rules.specs.Catalog.{Defined}
use Rattle.pg_rules.specs.Catalog.Shapes.{shapes}
use Rattle.pg_rules.specs.Catalog.SoundDefinitions.{IsCatalog}
use Rattle.pg_rules.specs.Changes.{Change, change_fault, resolved_change}
use Rattle.pg_rules.specs.Definitions.Tables.{table_fault, entry_of}
use Rattle.pg_rules.specs.Queries.{query_fault}
use Rattle.pg_rules.specs.Queries.CheckedQueries.{checked_query}
use Rattle.pg_rules.specs.Written.{IsWrittenQuery, IsWrittenChange, IsWrittenDefinition}

-- THE LAWS

-- a table whose definition is read, and not refused, has a column and a key column at least
abbrev pub AcceptedTablesAreFull : Type 0
AcceptedTablesAreFull = (d : Defined) (t : TableDef) → IsWrittenDefinition (definitions.Table t) → table_fault d t ≡ None → (1 ≤ length (entry_of t).columns) × (1 ≤ length (entry_of t).key)

-- a query that is read, and not refused over a catalog
abbrev pub AcceptedQueriesAreSound : Type 0
AcceptedQueriesAreSound = (d : Defined) (q : Query) → IsCatalog d → IsWrittenQuery q → query_fault d q ≡ None → IsSoundQuery (shapes d) (checked_query d q)

-- a change that is read, and not refused over what is defined
abbrev pub AcceptedChangesAreSound : Type 0
AcceptedChangesAreSound = (d : Defined) (c : Change) → IsWrittenChange c → change_fault d.0 c ≡ None → IsSoundChange (shapes d) (resolved_change d.0 c)
