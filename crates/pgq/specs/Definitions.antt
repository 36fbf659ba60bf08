-- What a definition that the catalog has taken does to the rest of the engine.
use Rattle.std.specs.Prelude.{◌≡◌, List, [], ◌∷◌, ◌++◌, length}
use Rattle.pg_value.specs.Tables.{Stored}
use Rattle.pg_ast.specs.declared.define.Define.{Define}
use Rattle.pg_ast.specs.declared.define.Define.TheVariants as definitions
use Rattle.pg_meaning.specs.Sound.Graphs.{AreSoundShapes}
use Rattle.pg_rules.specs.Catalog.Shapes.{shapes}
use Rattle.pgq.specs.declared.engine.Engine.{Engine}

-- a new table holds no rows
abbrev pub tables_then : Define → List (List Stored) → List (List Stored)
tables_then (definitions.Table t) tables = tables ++ [] ∷ []
tables_then (definitions.Graph g) tables = tables

-- the shapes are the catalog's again, and everything is folded to a base at the log's length
pub record IsDefinedBy (definition : Define) (e e' : Engine) : Type 0 where
  pub catalog : e'.catalog ≡ e.catalog
  pub shapes_are : e'.shapes ≡ shapes e.catalog
  pub sound : AreSoundShapes e'.shapes
  pub tables : e'.tables.items ≡ tables_then definition e.tables.items
  pub log : e'.log ≡ e.log
  pub held_all : e'.held ≡ e.held
  pub base : e'.base ≡ length e.log
  pub peak : e'.peak ≡ e.peak
