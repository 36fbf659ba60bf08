-- The text of a transcript, line by line.
use Rattle.std.specs.Prelude.{ℕ, Bool, true, false, cond, ◌==◌, ◌+◌, ◌&&◌, ◌||◌, nat_le, List, [], ◌∷◌, ◌++◌, codes, map, length, slice_get}
use Rattle.std.specs.declared.option.Option.{Option}
use Rattle.std.specs.declared.option.Option.TheVariants.{Some, None}
use Rattle.std.specs.List.{flat_map, list_all}
use Rattle.std.specs.Option.{unwrap_or, option_map}
use Rattle.std.specs.Fmt.{decimal}
use Rattle.pg_value.specs.Print.{print_of, quoted}
use Rattle.pg_value.specs.declared.value.Value.{Value}
use Rattle.pg_value.specs.declared.row.Row.{Row}
use Rattle.pg_value.specs.declared.write.Write.{Write}
use Rattle.pg_value.specs.declared.write.Commit.{Commit}
use Rattle.pg_script.specs.declared.outcome.FaultKind.{FaultKind}
use Rattle.pg_script.specs.declared.outcome.FaultKind.TheVariants.{Syntax, NameTaken, NoTable, NoColumn, KeyMismatch, LabelMismatch, TypeMismatch, Limit, ColumnTwice, Count, KeyUpdate, Types, Wide, NoGraph, NoLabel, NoProperty, Unbounded, Bounds, BadVariable, GroupUse, DefinitionInSession, DefinitionInTransaction, NotYet}
use Rattle.pg_script.specs.declared.outcome.ColumnFault.{ColumnFault}
use Rattle.pg_script.specs.declared.outcome.ColumnFault.TheVariants.{NullKey, NullNotAllowed, Range, TooLong}
use Rattle.pg_script.specs.declared.outcome.Outcome.{Outcome}
use Rattle.pg_script.specs.declared.outcome.Outcome.TheVariants.{Defined, Began, Changed, ChangedAlone, Committed, CommitEmpty, RolledBack, Rows, After, AtByte, AlreadyOpen, NotOpen, Duplicate, TooManyWrites, AtColumn, Conflict, LogFull}
use Rattle.pg_script.specs.declared.transcript.SectionOut.{SectionOut}
use Rattle.pg_script.specs.declared.transcript.Transcript.{Transcript}

-- a line ends at a line feed
abbrev pub line : List ℕ → List ℕ
line text = text ++ 10 ∷ []

-- the parts, with a comma and a space between
abbrev pub listed : List (List ℕ) → List ℕ
listed [] = []
listed (x ∷ []) = x
listed (x ∷ y ∷ ys) = x ++ (codes ", " ++ listed (y ∷ ys))

-- NAMES

abbrev pub is_upper : ℕ → Bool
is_upper b = (nat_le 65 b && nat_le b 90) || (b == 95)

abbrev pub is_upper_or_digit : ℕ → Bool
is_upper_or_digit b = is_upper b || (nat_le 48 b && nat_le b 57)

-- an upper-case letter or `_`, and behind it nothing but those and digits
abbrev pub is_plain : List ℕ → Bool
is_plain [] = false
is_plain (b ∷ bs) = is_upper b && list_all is_upper_or_digit bs

-- a plain name as it is, any other between `"` with each `"` inside it twice
abbrev pub name_text : List ℕ → List ℕ
name_text name = cond (is_plain name) name (quoted 34 name)

-- VALUES, KEYS AND ROWS

abbrev pub values_text : List Value → List ℕ
values_text values = listed (map print_of values)

-- a key or a row in parentheses
abbrev pub tuple_text : List Value → List ℕ
tuple_text values = codes "(" ++ (values_text values ++ codes ")")

-- `TABLE KEY`, where a row stands or stood
abbrev pub place_text : List ℕ → List Value → List ℕ
place_text table key = name_text table ++ (codes " " ++ tuple_text key)

-- OUTCOMES

abbrev pub fault_word : FaultKind → List ℕ
fault_word Syntax = codes "Syntax"
fault_word NameTaken = codes "NameTaken"
fault_word NoTable = codes "NoTable"
fault_word NoColumn = codes "NoColumn"
fault_word KeyMismatch = codes "KeyMismatch"
fault_word LabelMismatch = codes "LabelMismatch"
fault_word TypeMismatch = codes "TypeMismatch"
fault_word Limit = codes "Limit"
fault_word ColumnTwice = codes "ColumnTwice"
fault_word Count = codes "Count"
fault_word KeyUpdate = codes "KeyUpdate"
fault_word Types = codes "Types"
fault_word Wide = codes "Wide"
fault_word NoGraph = codes "NoGraph"
fault_word NoLabel = codes "NoLabel"
fault_word NoProperty = codes "NoProperty"
fault_word Unbounded = codes "Unbounded"
fault_word Bounds = codes "Bounds"
fault_word BadVariable = codes "BadVariable"
fault_word GroupUse = codes "GroupUse"
fault_word DefinitionInSession = codes "DefinitionInSession"
fault_word DefinitionInTransaction = codes "DefinitionInTransaction"
fault_word NotYet = codes "NotYet"

abbrev pub column_fault_word : ColumnFault → List ℕ
column_fault_word NullKey = codes "NullKey"
column_fault_word NullNotAllowed = codes "NullNotAllowed"
column_fault_word Range = codes "Range"
column_fault_word TooLong = codes "TooLong"

-- ` at K`, ` from K`, ` row R`, ` held H`
abbrev pub at_text : ℕ → List ℕ
at_text at = codes " at " ++ decimal at

abbrev pub from_text : ℕ → List ℕ
from_text from = codes " from " ++ decimal from

abbrev pub row_text : ℕ → List ℕ
row_text row = codes " row " ++ decimal row

abbrev pub held_text : ℕ → List ℕ
held_text held = codes " held " ++ decimal held

-- a row of an answer
abbrev pub row_line : Row → List ℕ
row_line r = line (codes "= " ++ values_text r.values)

-- how many rows an answer has, its version and its base
abbrev pub counted_line : ℕ → ℕ → ℕ → List ℕ
counted_line rows at base = line (codes "rows " ++ (decimal rows ++ (at_text at ++ (codes " base " ++ decimal base))))

-- the names of an answer's columns
abbrev pub header_line : List (List ℕ) → List ℕ
header_line names = line (codes ": " ++ listed (map name_text names))

-- what follows the outcome's number and a space
abbrev pub outcome_text : Outcome → List ℕ
outcome_text (Defined name at) = line (codes "defined " ++ (name_text name ++ at_text at))
outcome_text (Began at) = line (codes "begin" ++ at_text at)
outcome_text (Changed rows at) = line (codes "changed " ++ (decimal rows ++ at_text at))
outcome_text (ChangedAlone rows from at) = line (codes "changed " ++ (decimal rows ++ (from_text from ++ at_text at)))
outcome_text (Committed from at) = line (codes "commit" ++ (from_text from ++ at_text at))
outcome_text (CommitEmpty at) = line (codes "commit empty" ++ at_text at)
outcome_text (RolledBack at) = line (codes "rollback" ++ at_text at)
outcome_text (Rows at base names rows) = counted_line (length rows) at base ++ (header_line names ++ flat_map row_line rows)
outcome_text (After name n at) = line (codes "after " ++ (name ++ (codes " " ++ (decimal n ++ at_text at))))
outcome_text (AtByte kind byte) = line (codes "refused " ++ (fault_word kind ++ (codes " at byte " ++ decimal byte)))
outcome_text AlreadyOpen = line (codes "refused AlreadyOpen")
outcome_text NotOpen = line (codes "refused NotOpen")
outcome_text (Duplicate row at) = line (codes "refused Duplicate" ++ (row_text row ++ at_text at))
outcome_text (TooManyWrites row at) = line (codes "refused TooManyWrites" ++ (row_text row ++ at_text at))
outcome_text (AtColumn kind row column at) = line (codes "refused " ++ (column_fault_word kind ++ (row_text row ++ (codes " column " ++ (name_text column ++ at_text at)))))
outcome_text (Conflict table key from at) = line (codes "refused Conflict " ++ (place_text table key.values ++ (from_text from ++ at_text at)))
outcome_text (LogFull from held) = line (codes "refused LogFull" ++ (from_text from ++ held_text held))

abbrev pub numbered_text : ℕ → Outcome → List ℕ
numbered_text n o = decimal n ++ (codes " " ++ outcome_text o)

-- the outcomes of a section, numbered from n
abbrev pub outcomes_text : ℕ → List Outcome → List ℕ
outcomes_text n [] = []
outcomes_text n (o ∷ os) = numbered_text n o ++ outcomes_text (n + 1) os

-- SECTIONS

abbrev pub end_text : Bool → List ℕ
end_text true = line (codes "end rolled back")
end_text false = line (codes "end")

-- a section's outcomes and its end
abbrev pub section_text : SectionOut → List ℕ
section_text s = outcomes_text 1 s.outcomes ++ end_text s.rolled_back

abbrev pub session_text : SectionOut → List ℕ
session_text s = line (codes "@session " ++ s.name) ++ section_text s

-- the setup, where the script has one
abbrev pub setup_text : Bool → SectionOut → List ℕ
setup_text true s = line (codes "@setup") ++ section_text s
setup_text false s = []

abbrev pub sections_text : Bool → List SectionOut → List ℕ
sections_text has_setup [] = []
sections_text has_setup (setup ∷ sessions) = setup_text has_setup setup ++ flat_map session_text sessions

-- THE LOG

-- `+ TABLE KEY = ROW`, or `- TABLE KEY` for a row that is gone
abbrev pub write_text : List ℕ → List Value → Option Row → List ℕ
write_text table key None = line (codes "- " ++ place_text table key)
write_text table key (Some r) = line (codes "+ " ++ (place_text table key ++ (codes " = " ++ tuple_text r.values)))

-- the name of the thing with this number
abbrev pub name_at : List (List ℕ) → ℕ → List ℕ
name_at names n = unwrap_or (slice_get names n) []

abbrev pub write_line : List (List ℕ) → Write → List ℕ
write_line tables w = write_text (name_at tables w.table.0) w.key.values w.row

-- the section that made a commit: `setup` for section 0
abbrev pub maker_text : List SectionOut → ℕ → List ℕ
maker_text sections n = cond (n == 0) (codes "setup") (unwrap_or (option_map (λ s. s.name) (slice_get sections n)) [])

-- what follows a commit's number and a space
abbrev pub commit_text : List SectionOut → List (List ℕ) → Commit → List ℕ
commit_text sections tables c = line (maker_text sections c.session ++ from_text c.from) ++ flat_map (write_line tables) c.writes.list

abbrev pub numbered_commit_text : List SectionOut → List (List ℕ) → ℕ → Commit → List ℕ
numbered_commit_text sections tables n c = decimal n ++ (codes " " ++ commit_text sections tables c)

-- commits, numbered from n
abbrev pub commits_text : List SectionOut → List (List ℕ) → ℕ → List Commit → List ℕ
commits_text sections tables n [] = []
commits_text sections tables n (c ∷ cs) = numbered_commit_text sections tables n c ++ commits_text sections tables (n + 1) cs

abbrev pub log_text : Transcript → List ℕ
log_text t = line (codes "@log " ++ decimal (length t.log)) ++ commits_text t.sections t.tables 1 t.log

-- THE WHOLE

abbrev pub peak_text : ℕ × ℕ → List ℕ
peak_text peak = line (codes "@peak kept " ++ (decimal peak.0 ++ (codes " pins " ++ decimal peak.1)))

abbrev pub text_of : Transcript → List ℕ
text_of t = sections_text t.has_setup t.sections ++ (log_text t ++ (peak_text t.peak ++ line (codes "@end")))
