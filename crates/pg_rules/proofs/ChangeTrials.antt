-- The rules of changes, tried: what UPDATE and DELETE propose, the first fault of a row, and each kind of refusal of them.
use Rattle.std.proofs.Common.{◌≡◌, ℕ, pos, List, [], ◌∷◌, Option, Some, None, refl}
use Rattle.std.specs.Prelude.{codes}
use Rattle.pg_value.specs.declared.value.Value.{Value}
use Rattle.pg_value.specs.declared.value.Value.TheVariants.{Null, Int, Text}
use Rattle.pg_value.specs.declared.value.Kind.TheVariants as kinds
use Rattle.pg_value.specs.declared.row.Row.{Row}
use Rattle.pg_value.specs.declared.shape.TableNo.{TableNo}
use Rattle.pg_value.specs.declared.shape.TableShape.{TableShape}
use Rattle.pg_value.specs.declared.write.Write.{Write}
use Rattle.pg_value.specs.Tables.{Stored, Tables}
use Rattle.pg_ast.specs.declared.expr.Name.{Name}
use Rattle.pg_ast.specs.declared.expr.Expr.{Expr}
use Rattle.pg_ast.specs.declared.expr.Expr.TheVariants as exprs
use denote.Hole.Carrier.{hidden}
use Rattle.pg_ast.specs.declared.expr.BinOp.TheVariants.{Times}
use Rattle.pg_ast.specs.declared.expr.Whole.{Whole}
use Rattle.pg_ast.specs.declared.statement.SetItem.{SetItem}
use Rattle.pg_meaning.specs.declared.checked.CExpr.TheVariants as checked
use Rattle.pg_meaning.specs.declared.checked.CExpr.TheBlock.{hidden-the_row-CExpr-0}
use Rattle.pg_meaning.specs.declared.checked.CheckedChange.{CheckedChange}
use Rattle.pg_meaning.specs.declared.checked.CheckedChange.TheVariants.{Insert, Update, Delete}
use Rattle.pg_rules.specs.declared.fault.RowFault.TheVariants as row_faults
use Rattle.pg_rules.specs.declared.fault.ResolveFault.TheVariants as faults
use Rattle.pg_rules.specs.Catalog.Shapes.{table_shape}
use Rattle.pg_rules.specs.Changes.{Change, OfUpdate, OfDelete, change_fault}
use Rattle.pg_rules.specs.Changes.ChangeEffect.{Context, proposed, fault_behind}
use Rattle.pg_rules.proofs.QueryTrials.{tables, key, column}

-- THE EFFECT

abbrev knows : TableNo
knows = record { 0 = 1 }

abbrev number : ℕ → Value
number n = Int (pos n)

-- knows (id, a, b, w)
abbrev shape : TableShape
shape = table_shape (record { columns = key (codes "ID") ∷ column (codes "A") kinds.Int ∷ column (codes "B") kinds.Int ∷ column (codes "W") kinds.Int ∷ []; key = 0 ∷ [] })

abbrev row : ℕ → Value → Row
row i w = record { values = number i ∷ number 1 ∷ number 2 ∷ w ∷ [] }

abbrev stored : ℕ → Value → Stored
stored i w = record { table = knows; key = record { values = number i ∷ [] }; row = row i w }

abbrev seen : Tables
seen = stored 7 (number 46341) ∷ stored 8 (number 5) ∷ []

abbrev context : ℕ → Context
context limit = record { limit = limit; shape = shape; tables = seen; writes = [] }

-- SET w = w * w, and SET w = w + 1
abbrev squared : CheckedChange
squared = Update knows (record { column = 3; value = checked.Binary Times (checked.Column 3) (checked.Column 3) } ∷ []) None

abbrev written : ℕ → Value → Write
written i w = record { table = knows; key = record { values = number i ∷ [] }; row = Some (row i w) }

squares : proposed shape seen squared ≡ written 7 (number 2147488281) ∷ written 8 (number 25) ∷ []
unfolding hidden-the_row-CExpr-0 hidden
squares = refl

-- the square of 46341 is no INTEGER
out_of_range : fault_behind (context 10) squared [] (written 7 (number 2147488281)) ≡ Some (row_faults.Range 3)
out_of_range = refl

-- UPDATE has no Duplicate, INSERT has
no_duplicate : fault_behind (context 10) squared [] (written 8 (number 25)) ≡ None
no_duplicate = refl

duplicate : fault_behind (context 10) (Insert knows [] []) [] (written 8 (number 25)) ≡ Some row_faults.Duplicate
duplicate = refl

-- a key column that is NULL, and one write too many
null_key : fault_behind (context 10) (Insert knows [] []) [] (record { table = knows; key = record { values = Null ∷ [] }; row = Some (record { values = Null ∷ Null ∷ Null ∷ Null ∷ [] }) })
    ≡ Some (row_faults.NullKey 0)
null_key = refl

too_many : fault_behind (context 1) squared (written 7 (number 1) ∷ []) (written 8 (number 25)) ≡ Some row_faults.TooManyWrites
too_many = refl

-- DELETE proposes that each row is gone
abbrev gone : ℕ → Write
gone i = record { table = knows; key = record { values = number i ∷ [] }; row = None }

deletes : proposed shape seen (Delete knows None) ≡ gone 7 ∷ gone 8 ∷ []
deletes = refl

-- THE JUDGEMENT

abbrev name : List ℕ → ℕ → Name
name text at = record { text = text; at = at }

abbrev whole : Expr → ℕ → Whole
whole e at = record { expr = e; at = at }

abbrev set : List ℕ → ℕ → Expr → SetItem
set text at e = record { column = name text at; value = whole e 90 }

abbrev update : List SetItem → Option Whole → Change
update sets condition = OfUpdate (record { table = name (codes "KNOWS") 7; sets = sets; cond = condition })

abbrev one : Expr
one = exprs.Lit (number 1) 1 80

abbrev text : Expr
text = exprs.Lit (Text (codes "a")) 0 80

no_table : change_fault tables (OfDelete (record { table = name (codes "NOWHERE") 12; cond = None })) ≡ Some (faults.NoTable 12)
no_table = refl

no_column : change_fault tables (update (set (codes "W") 20 one ∷ []) (Some (whole (exprs.Column (name (codes "C") 40)) 40))) ≡ Some (faults.NoColumn 40)
no_column = refl

twice : change_fault tables (update (set (codes "W") 20 one ∷ set (codes "W") 30 one ∷ []) None) ≡ Some (faults.ColumnTwice 30)
twice = refl

key_update : change_fault tables (update (set (codes "ID") 20 one ∷ []) None) ≡ Some (faults.KeyUpdate 20)
key_update = refl

wrong_value : change_fault tables (update (set (codes "W") 20 text ∷ []) None) ≡ Some (faults.Types 90)
wrong_value = refl

no_truth : change_fault tables (OfDelete (record { table = name (codes "KNOWS") 12; cond = Some (whole (exprs.Column (name (codes "W") 40)) 40) })) ≡ Some (faults.Types 40)
no_truth = refl

too_wide : change_fault tables (update (set (codes "W") 20 (exprs.TooWide 66) ∷ []) None) ≡ Some (faults.Wide 66)
too_wide = refl

accepted : change_fault tables (update (set (codes "W") 20 (exprs.Column (name (codes "A") 50)) ∷ []) None) ≡ None
accepted = refl
