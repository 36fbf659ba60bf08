-- Why a change is refused over the columns of its table: the kinds of faults in order, with their places as passes find them.
use Rattle.std.specs.Prelude.{ℕ, List, [], ◌∷◌, ◌++◌, map, flat_map, length, Option, option_to_list}
use Rattle.pg_ast.specs.declared.expr.Name.{Name}
use Rattle.pg_ast.specs.declared.statement.Insert.{Insert}
use Rattle.pg_ast.specs.declared.statement.InsertTuple.{InsertTuple}
use Rattle.pg_ast.specs.declared.statement.Update.{Update}
use Rattle.pg_ast.specs.declared.statement.Delete.{Delete}
use Rattle.pg_meaning.specs.Typing.{no_names}
use Rattle.pg_rules.specs.declared.entry.ColumnEntry.{ColumnEntry}
use Rattle.pg_rules.specs.declared.fault.ResolveFault.{ResolveFault}
use Rattle.pg_rules.specs.declared.fault.ResolveFault.TheVariants as faults
use Rattle.pg_rules.specs.Places.{least, first_fault}
use Rattle.pg_rules.specs.Definitions.Tables.{repeats}
use Rattle.pg_rules.specs.Definitions.Graphs.{missing}
use Rattle.pg_rules.specs.Changes.{named_in_condition, wrong_set, wrong_condition, names_of, wide_in}
use Rattle.pg_rules.specs.Changes.InsertJudgement as inserts
use Rattle.pg_rules.specs.Changes.InsertJudgement.{targets_in}
use Rattle.pg_write.specs.ChangePasses.{missing_in_set, key_set, miscounted}

-- DELETE

abbrev pub wide_condition : List ColumnEntry → Delete → List ℕ
wide_condition columns x = flat_map (wide_in (names_of columns)) (option_to_list x.cond)

abbrev pub delete_over : List ColumnEntry → Delete → Option ResolveFault
delete_over columns x = first_fault (
    (faults.NoColumn, missing columns (named_in_condition x.cond)) ∷
    (faults.Types, wrong_condition (names_of columns) x.cond) ∷
    (faults.Wide, wide_condition columns x) ∷ [])

-- UPDATE

abbrev pub missing_in_update : List ColumnEntry → Update → List ℕ
missing_in_update columns u = flat_map (missing_in_set columns) u.sets ++ missing columns (named_in_condition u.cond)

abbrev pub wrong_in_update : List ColumnEntry → Update → List ℕ
wrong_in_update columns u = flat_map (wrong_set columns) u.sets ++ wrong_condition (names_of columns) u.cond

abbrev pub wide_in_update : List ColumnEntry → Update → List ℕ
wide_in_update columns u = flat_map (λ s. wide_in (names_of columns) s.value) u.sets ++ flat_map (wide_in (names_of columns)) (option_to_list u.cond)

abbrev pub least_missing : List ColumnEntry → Update → Option ℕ
least_missing columns u = least (missing_in_update columns u)

abbrev pub least_wrong : List ColumnEntry → Update → Option ℕ
least_wrong columns u = least (wrong_in_update columns u)

abbrev pub least_wide : List ColumnEntry → Update → Option ℕ
least_wide columns u = least (wide_in_update columns u)

abbrev pub later_update : List ColumnEntry → List ℕ → Update → Option ResolveFault
later_update columns key u = first_fault (
    (faults.KeyUpdate, flat_map (key_set columns key) u.sets) ∷
    (faults.Types, wrong_in_update columns u) ∷
    (faults.Wide, wide_in_update columns u) ∷ [])

abbrev pub update_over : List ColumnEntry → List ℕ → Update → Option ResolveFault
update_over columns key u = first_fault (
    (faults.NoColumn, missing_in_update columns u) ∷
    (faults.ColumnTwice, repeats (map (λ s. s.column) u.sets)) ∷
    (faults.KeyUpdate, flat_map (key_set columns key) u.sets) ∷
    (faults.Types, wrong_in_update columns u) ∷
    (faults.Wide, wide_in_update columns u) ∷ [])

-- INSERT

abbrev pub listed : Option (List Name) → List Name
listed names = inserts.listed names

abbrev pub tuples_fault : List ColumnEntry → List ℕ → List InsertTuple → Option ResolveFault
tuples_fault columns targets ts = first_fault (
    (faults.Count, flat_map (miscounted (length targets)) ts) ∷
    (faults.Types, flat_map (λ t. inserts.wrong_values columns targets t.values) ts) ∷
    (faults.Wide, flat_map (λ t. flat_map (wide_in no_names) t.values) ts) ∷ [])

abbrev pub values_fault : List ColumnEntry → Insert → Option ResolveFault
values_fault columns i = tuples_fault columns (targets_in columns i.columns) i.tuples

abbrev pub insert_over : List ColumnEntry → Insert → Option ResolveFault
insert_over columns i = first_fault (
    (faults.NoColumn, missing columns (listed i.columns)) ∷
    (faults.ColumnTwice, repeats (listed i.columns)) ∷
    (faults.Count, flat_map (miscounted (length (targets_in columns i.columns))) i.tuples) ∷
    (faults.Types, flat_map (λ t. inserts.wrong_values columns (targets_in columns i.columns) t.values) i.tuples) ∷
    (faults.Wide, flat_map (λ t. flat_map (wide_in no_names) t.values) i.tuples) ∷ [])
