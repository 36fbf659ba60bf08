-- A table of two truth values, of which the first is its key, and an INSERT of two rows of it.
use Rattle.std.specs.Prelude.{Bool, true, false, List, [], ◌∷◌}
use Rattle.pg_value.specs.declared.value.Kind.TheVariants as kinds
use Rattle.pg_value.specs.declared.value.Value.TheVariants.{Bool as Truth'}
use Rattle.pg_value.specs.declared.shape.ColumnShape.{ColumnShape}
use Rattle.pg_value.specs.declared.shape.TableShape.{TableShape}
use Rattle.pg_value.specs.declared.shape.Shapes.{Shapes}
use Rattle.pg_meaning.specs.declared.checked.CExpr.{CExpr}
use Rattle.pg_meaning.specs.declared.checked.CExpr.TheVariants.{Lit}
use Rattle.pg_meaning.specs.declared.checked.CheckedChange.{CheckedChange}
use Rattle.pg_meaning.specs.declared.checked.CheckedChange.TheVariants.{Insert}

abbrev pub column : Bool → ColumnShape
column not_null = record { kind = kinds.Bool; not_null = not_null; max_bytes = 0 }

abbrev pub table : TableShape
table = record { columns = column true ∷ column false ∷ []; key = 0 ∷ [] }

abbrev pub shapes : Shapes
shapes = record { tables = table ∷ []; edges = [] }

abbrev pub tuple : Bool → List CExpr
tuple b = Lit (Truth' b) ∷ []

abbrev pub insert : CheckedChange
insert = Insert (record { 0 = 0 }) (0 ∷ []) (tuple true ∷ tuple false ∷ [])
