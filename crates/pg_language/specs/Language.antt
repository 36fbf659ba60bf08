-- What the statements that run mean: how they are read, and what the catalog, a change and a query make of them.
use Rattle.std.specs.Prelude.{ℕ, ◌≡◌, List, [], map, slice_get, get_or}
use Rattle.std.specs.declared.option.Option.{Option}
use Rattle.std.specs.declared.option.Option.TheVariants.{Some, None}
use Rattle.std.specs.Option.{unwrap_or}
use Rattle.std.specs.List.Sorted.{IsSorted}
use Rattle.pg_value.specs.declared.shape.TableNo.{TableNo}
use Rattle.pg_value.specs.declared.shape.TableShape.{TableShape}
use Rattle.pg_value.specs.declared.write.Write.{Write}
use Rattle.pg_value.specs.Orders.{row_order}
use Rattle.pg_value.specs.Tables.{Tables}
use Rattle.pg_ast.specs.declared.define.Define.{Define}
use Rattle.pg_ast.specs.declared.define.Define.TheVariants as definitions
use Rattle.pg_ast.specs.declared.statement.Statement.{Statement}
use Rattle.pg_ast.specs.declared.statement.Statement.TheVariants as statements
use Rattle.pg_ast.specs.declared.pattern.Query.{Query}
use Rattle.pg_meaning.specs.declared.checked.CheckedChange.{CheckedChange}
use Rattle.pg_meaning.specs.declared.checked.CheckedQuery.{CheckedQuery}
use Rattle.pg_meaning.specs.Sound.Changes.{table_of}
use Rattle.pg_rules.specs.declared.fault.DefineFault.{DefineFault}
use Rattle.pg_rules.specs.declared.fault.DefineFault.TheVariants as define
use Rattle.pg_rules.specs.declared.fault.ResolveFault.{ResolveFault}
use Rattle.pg_rules.specs.declared.fault.ResolveFault.TheVariants as resolve
use Rattle.pg_rules.specs.declared.fault.RowFault.{RowFault}
use Rattle.pg_rules.specs.declared.fault.RowFault.TheVariants as row_faults
use Rattle.pg_rules.specs.Catalog.{Defined}
use Rattle.pg_rules.specs.Catalog.LookUps.{column_name_at}
use Rattle.pg_rules.specs.Catalog.Shapes.{shapes}
use Rattle.pg_rules.specs.Definitions.{define_fault, with_definition}
use Rattle.pg_rules.specs.Changes.{Change, OfInsert, OfUpdate, OfDelete, change_fault, resolved_change}
use Rattle.pg_rules.specs.Changes.ChangeEffect.{Context, context, IsFirstFault, IsDone}
use Rattle.pg_meaning.specs.Answers.{Answer, column_names}
use Rattle.pg_script.specs.declared.script.Item.{Item}
use Rattle.pg_script.specs.declared.script.Item.TheVariants.{Sql, After}
use Rattle.pg_script.specs.declared.script.Script.{Script}
use Rattle.pg_script.specs.declared.outcome.FaultKind.{FaultKind}
use Rattle.pg_script.specs.declared.outcome.FaultKind.TheVariants as kinds
use Rattle.pg_script.specs.declared.outcome.ColumnFault.TheVariants as column_faults
use Rattle.pg_script.specs.Judged.{Reading, Unread, Defines, Changes, Asks, Waits, Ruling, Faulty, Fine, Refusal, IsDuplicate, IsTooMany, IsAtColumn, Effect, Stopped, Done, Found, Listed, Judges}
use Rattle.pg_script.specs.Legal.{no_section}
use Rattle.pg_sql.specs.declared.parsed.Parsed.{Parsed}
use Rattle.pg_sql.specs.declared.parsed.Parsed.TheVariants as parsed
use Rattle.pg_sql.specs.Parsed.{IsParsedOf}
use Rattle.pg_rules.specs.declared.fault.QueryFault.{QueryFault}
use Rattle.pg_rules.specs.declared.fault.QueryFault.TheVariants as query
use Rattle.pg_rules.specs.Queries.{query_fault}
use Rattle.pg_rules.specs.Queries.CheckedQueries.{checked_query}

-- READING

-- what a statement says, which begins at a place; one that is not run yet is refused there
abbrev pub says : ℕ → Statement → Reading Define Change Query
says at (statements.Define d) = Defines d at
says at (statements.Insert i) = Changes (OfInsert i)
says at (statements.Update u) = Changes (OfUpdate u)
says at (statements.Delete x) = Changes (OfDelete x)
says at (statements.Query q) = Asks q
says at statements.Begin = Unread kinds.NotYet at
says at statements.Commit = Unread kinds.NotYet at
says at statements.Rollback = Unread kinds.NotYet at

abbrev pub reading_of : Parsed → Reading Define Change Query
reading_of (parsed.Statement tree at) = says at tree
reading_of (parsed.Fault at) = Unread kinds.Syntax at

abbrev pub section_name : Script → ℕ → List ℕ
section_name script n = (get_or script.sections n no_section).name

-- an item of a script: a statement is a part of its text, and AFTER waits for the section that it names
abbrev pub reads : Script → Item → Reading Define Change Query → Type 0
reads script (Sql from to) r = (p : Parsed) × IsParsedOf script.text from to p × (r ≡ reading_of p)
reads script (After section n) r = r ≡ Waits (section_name script section) section n

-- DEFINITIONS

abbrev pub name_of : Define → List ℕ
name_of (definitions.Table t) = t.name.text
name_of (definitions.Graph g) = g.name.text

-- the kind and the place of a fault; want of memory is no fault of the statement
abbrev pub define_refusal : DefineFault → Option (FaultKind × ℕ)
define_refusal (define.NameTaken p) = Some (kinds.NameTaken, p)
define_refusal (define.NoTable p) = Some (kinds.NoTable, p)
define_refusal (define.NoColumn p) = Some (kinds.NoColumn, p)
define_refusal (define.KeyMismatch p) = Some (kinds.KeyMismatch, p)
define_refusal (define.LabelMismatch p) = Some (kinds.LabelMismatch, p)
define_refusal (define.TypeMismatch p) = Some (kinds.TypeMismatch, p)
define_refusal (define.Limit p) = Some (kinds.Limit, p)
define_refusal define.Memory = None

abbrev pub defines : Defined → Define → Ruling (List ℕ × Defined) → Type 0
defines d definition (Faulty kind at) = (f : DefineFault) × (define_fault d definition ≡ Some f) × (define_refusal f ≡ Some (kind, at))
defines d definition (Fine x) = (define_fault d definition ≡ None) × (x ≡ (name_of definition, with_definition d definition))

-- CHANGES

abbrev pub resolve_refusal : ResolveFault → Option (FaultKind × ℕ)
resolve_refusal (resolve.NoTable p) = Some (kinds.NoTable, p)
resolve_refusal (resolve.NoColumn p) = Some (kinds.NoColumn, p)
resolve_refusal (resolve.ColumnTwice p) = Some (kinds.ColumnTwice, p)
resolve_refusal (resolve.Count p) = Some (kinds.Count, p)
resolve_refusal (resolve.KeyUpdate p) = Some (kinds.KeyUpdate, p)
resolve_refusal (resolve.Types p) = Some (kinds.Types, p)
resolve_refusal (resolve.Wide p) = Some (kinds.Wide, p)
resolve_refusal resolve.Memory = None

abbrev pub resolves : Defined → Change → Ruling CheckedChange → Type 0
resolves d c (Faulty kind at) = (f : ResolveFault) × (change_fault d.0 c ≡ Some f) × (resolve_refusal f ≡ Some (kind, at))
resolves d c (Fine x) = (change_fault d.0 c ≡ None) × (x ≡ resolved_change d.0 c)

-- how many writes a transaction may have
abbrev pub most_transaction_writes : ℕ
most_transaction_writes = 1048576

abbrev pub column_called : Defined → TableNo → ℕ → List ℕ
column_called d table column = unwrap_or (column_name_at d table column) []

-- what a row's fault is called
abbrev pub refusal_of : Defined → TableNo → ℕ → RowFault → Refusal
refusal_of d table row (row_faults.NullKey column) = IsAtColumn column_faults.NullKey row (column_called d table column)
refusal_of d table row (row_faults.NullNotAllowed column) = IsAtColumn column_faults.NullNotAllowed row (column_called d table column)
refusal_of d table row (row_faults.Range column) = IsAtColumn column_faults.Range row (column_called d table column)
refusal_of d table row (row_faults.TooLong column) = IsAtColumn column_faults.TooLong row (column_called d table column)
refusal_of d table row row_faults.Duplicate = IsDuplicate row
refusal_of d table row row_faults.TooManyWrites = IsTooMany row

-- what a checked change does: it is refused for its first faulty row, or these are the writes then, and so many rows were changed
abbrev pub IsEffect : Defined → Context → CheckedChange → Effect → Type 0
IsEffect d c x (Stopped refusal) = (row : ℕ) × (fault : RowFault) × IsFirstFault c x row fault × (refusal ≡ refusal_of d (table_of x) row fault)
IsEffect d c x (Done ws rows) = IsDone c x ws rows

abbrev pub affects : Defined → Tables → List Write → CheckedChange → Effect → Type 0
affects d tables ws x e =
    (shape : TableShape) × (slice_get (shapes d).tables (table_of x).0 ≡ Some shape) × IsEffect d (context most_transaction_writes shape tables ws) x e

-- QUERIES

abbrev pub query_refusal : QueryFault → Option (FaultKind × ℕ)
query_refusal (query.NoGraph p) = Some (kinds.NoGraph, p)
query_refusal (query.NoLabel p) = Some (kinds.NoLabel, p)
query_refusal (query.NoProperty p) = Some (kinds.NoProperty, p)
query_refusal (query.Unbounded p) = Some (kinds.Unbounded, p)
query_refusal (query.Bounds p) = Some (kinds.Bounds, p)
query_refusal (query.BadVariable p) = Some (kinds.BadVariable, p)
query_refusal (query.GroupUse p) = Some (kinds.GroupUse, p)
query_refusal (query.Types p) = Some (kinds.Types, p)
query_refusal (query.Wide p) = Some (kinds.Wide, p)
query_refusal (query.Limit p) = Some (kinds.Limit, p)
query_refusal query.Memory = None

abbrev pub checks : Defined → Query → Ruling CheckedQuery → Type 0
checks d q (Faulty kind at) = (f : QueryFault) × (query_fault d q ≡ Some f) × (query_refusal f ≡ Some (kind, at))
checks d q (Fine y) = (query_fault d q ≡ None) × (y ≡ checked_query d q)

-- the rows of the answer, in value order
abbrev pub answers : Defined → Tables → CheckedQuery → Found → Type 0
answers d tables y (Listed rows) = Answer (shapes d) tables y rows × IsSorted row_order rows

-- THE WHOLE

-- what the items of a script say
abbrev pub language : Script → Judges Defined Define Change Query CheckedChange CheckedQuery
language script = record {
  reads = reads script;
  defines = defines;
  resolves = resolves;
  checks = checks;
  affects = affects;
  answers = answers;
  columns = column_names;
  tables = λ d. map (λ t. t.0) d.0;
  shapes = shapes;
  most_writes = most_transaction_writes;
}
