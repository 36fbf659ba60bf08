-- The vertices from which a path pattern is searched: those of the tables that its first node admits.
use Rattle.std.specs.Prelude.{◌^◌, Bool, true, cond, List, [], ◌∷◌, map}
use Rattle.pg_value.specs.declared.shape.ElemId.{ElemId}
use Rattle.pg_value.specs.declared.shape.TableNo.{TableNo}
use Rattle.pg_value.specs.declared.shape.TableSet.{TableSet}
use Rattle.pg_value.specs.Graph.{elem_of}
use Rattle.pg_value.specs.Tables.{Tables, held_in}
use Rattle.pg_meaning.specs.declared.checked.CPart.{CPart}
use Rattle.pg_meaning.specs.declared.checked.CPart.TheVariants.{Node, Edge, Group}
use Rattle.pg_meaning.specs.declared.checked.CheckedPath.{CheckedPath}
use Rattle.pg_auto.specs.Tests.{has_table}

abbrev pub admits_first : List CPart → TableNo → Bool
admits_first [] t = true
admits_first (Node f ∷ parts) t = has_table f.tables t
admits_first (Edge arrow f quant ∷ parts) t = true
admits_first (Group nodes arrows edges condition quant ∷ parts) t = true

abbrev pub may_begin : CheckedPath → TableNo → Bool
may_begin path t = admits_first path.parts t

-- the set of one table
abbrev pub only : TableNo → TableSet
only t = record { 0 = 2 ^ t.0 }

-- the rows of a vertex table, where a walk may begin there
abbrev pub starts_in : Tables → CheckedPath → TableNo → List ElemId
starts_in tables path t = cond (may_begin path t) (map elem_of (held_in t tables)) []
