-- Of which edge tables a query's view is to find edges by their destinations, and what is known of a tree that was read.
use Rattle.std.specs.Prelude.{Bool, true, false, List}
use Rattle.std.specs.List.{list_any}
use Rattle.pg_ast.specs.declared.pattern.Arrow.{Arrow}
use Rattle.pg_ast.specs.declared.pattern.Arrow.TheVariants.{Right, Left, Either}
use Rattle.pg_meaning.specs.declared.checked.CPart.{CPart}
use Rattle.pg_meaning.specs.declared.checked.CPart.TheVariants.{Node, Edge, Group}
use Rattle.pg_meaning.specs.declared.checked.CheckedPath.{CheckedPath}
use Rattle.pg_rules.specs.Written.{IsWritten}
use Rattle.pg_sql.specs.declared.parsed.Parsed.{Parsed}
use Rattle.pg_sql.specs.declared.parsed.Parsed.TheVariants.{Statement, Fault}

-- an arrow may lead over an edge against its direction
abbrev pub leads_back : Arrow → Bool
leads_back Right = false
leads_back Left = true
leads_back Either = true

abbrev pub part_leads_back : CPart → Bool
part_leads_back (Node filler) = false
part_leads_back (Edge arrow filler quant) = leads_back arrow
part_leads_back (Group nodes arrows edges condition quant) = list_any leads_back arrows

abbrev pub paths_lead_back : List CheckedPath → Bool
paths_lead_back paths = list_any (λ p. list_any part_leads_back p.parts) paths

-- a statement that was read is one that the grammar gives
abbrev pub IsWrittenParsed : Parsed → Type 0
IsWrittenParsed (Statement tree at) = IsWritten tree
IsWrittenParsed (Fault at) = Unit {0}
